-- Why engines stop, and what is cut short.
use Rattle.std.proofs.Common.{◌≡◌, ◌≢◌, ◌⊎◌, inl, inr, ℕ, true, false, refl, ap, sym, ◌∙◌, subst, Option}
use Rattle.sq_outside.specs.Disks.{DiskLog}
use Rattle.sq_core.specs.declared.engine.Engine.{Engine}
use Rattle.sq_status.specs.declared.Status.{Status}
use Rattle.sq_status.specs.declared.Status.TheVariants as status
use Rattle.sq_drive.specs.Stopping.{StopHasCause}
use Rattle.sq_status.specs.StatusKinds.{is_refusal, is_plain_end, is_changed, is_garbled}
use Rattle.sq_command.specs.declared.Command.{Command}
use Rattle.sq_work.specs.Scripts.{AcceptedReplay}
use Rattle.sq_due.specs.Writing.{IsLost}
use Rattle.sq_drive.proofs.DrivingLemmas.{not_too_much}
use Rattle.sq_drive.proofs.StopLemmas.{lost_cut, lost_garbled, lost_stop, lost_unchanged, unchanged_garbled}
use Rattle.sq_top.specs.Ends.{DoesPart, KnowsDisk}
use Rattle.sq_top.specs.Outside.{Outside}
use Rattle.sq_top.specs.Running.{EndsEarly}

-- a refusal, and want of memory, stops no engine
pub refused_stop : (P : Engine → Type 0) (was is : DiskLog) (before now : ℕ) (s : Status) → (is_refusal s ≡ true) ⊎ (s ≡ status.Memory) → StopHasCause P was is before now s
refused_stop P was is before now s (inr memory) = subst (StopHasCause P was is before now) (sym memory) tt
refused_stop P was is before now s (inl refused) = by s refused
  where
    by : (s : Status) → is_refusal s ≡ true → StopHasCause P was is before now s
    by status.DiskFault is = absurd (cc)
    by (status.Garbled page kept got) is = absurd (cc)
    by (status.NotAPage page bytes) is = absurd (cc)
    by (status.Strange arc item) is = absurd (cc)
    by status.TooMuch is = absurd (cc)
    by s is = tt

pub refused_unchanged : (s : Status) → (is_refusal s ≡ true) ⊎ (s ≡ status.Memory) → is_changed s ≡ false
refused_unchanged s (inr memory) = ap is_changed memory
refused_unchanged s (inl refused) = by s refused
  where
    by : (s : Status) → is_refusal s ≡ true → is_changed s ≡ false
    by (status.Garbled page kept got) is = absurd (cc)
    by (status.NotAPage page bytes) is = absurd (cc)
    by (status.Strange arc item) is = absurd (cc)
    by s is = refl

pub refused_garbled : (s : Status) → (is_refusal s ≡ true) ⊎ (s ≡ status.Memory) → is_changed s ≡ true → is_garbled s ≡ true
refused_garbled s why = unchanged_garbled s (refused_unchanged s why)

-- of a status that is told the other that it may stand for is a refusal, too
pub told_refused : (s told : Status) → (told ≡ s) ⊎ ((told ≡ status.Memory) × (s ≢ status.SinkFault)) → is_refusal told ≡ true → is_refusal s ≡ true
told_refused s told (inl same) refused = ap is_refusal (sym same) ∙ refused
told_refused s told (inr memory) refused = let both : is_refusal status.Memory ≡ true = ap is_refusal (sym memory.0) ∙ refused in absurd (cc)

pub told_plain : (s told : Status) → (told ≡ s) ⊎ ((told ≡ status.Memory) × (s ≢ status.SinkFault)) → is_plain_end s ≡ true → is_plain_end told ≡ true
told_plain s told (inl same) plain = ap is_plain_end same ∙ plain
told_plain s told (inr memory) plain = ap is_plain_end memory.0

-- what is lost on its way out cuts a command short
pub lost_early : (c : Option Command) (r : AcceptedReplay) (before after : Outside) (s : Status) → IsLost before.output.faults after.output.faults s
    → (KnowsDisk c after → DoesPart c r s before after) → EndsEarly c r before after s
lost_early c r before after s lost part = record {
  part = part;
  cut = lost_cut before.output.faults after.output.faults s lost;
  stopped = lost_stop _ before.disk.log after.disk.log before.disk.faults after.disk.faults before.output.faults after.output.faults s lost;
  unchanged = λ is-honest. lost_unchanged before.output.faults after.output.faults s lost;
  garbled = λ knows. lost_garbled before.output.faults after.output.faults s lost;
  too_much = λ knows. not_too_much _ before.output.faults after.output.faults s lost;
}
