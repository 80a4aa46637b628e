-- Why engines stop, and what is cut short.
use Rattle.sq_actor.specs.declared.actor.Actor.{Actor}
use Rattle.std.proofs.Common.{Bool, ap, arith, false, inl, inr, refl, subst, suc, sym, true, zero, ℕ, ◌≡◌, ◌≤◌, ◌∙◌, ◌<◌}
use Rattle.sq_outside.specs.Disks.{DiskLog}
use Rattle.sq_core.specs.declared.engine.Engine.{Engine}
use Rattle.sq_core.specs.Runs.{flow_of, has_failed}
use Rattle.sq_drive.specs.Stopping.{FailedIn, StopHasCause, status_of}
use Rattle.sq_flow.specs.Readiness.{FallsBy}
use Rattle.sq_flow.specs.declared.flow.Flow.{Flow}
use Rattle.sq_flow.specs.Causes.{IsCauseIn, IsPageRefused}
use Rattle.sq_drive.specs.Driving.{IsCutShort}
use Rattle.sq_due.specs.Writing.{IsLost}
use Rattle.sq_flow.specs.Takes.{NotChanged}
use Rattle.sq_bring.specs.declared.bring.QueueErr.{QueueErr}
use Rattle.sq_queue.specs.declared.Queues.{Queues}
use Rattle.sq_outside.specs.Faults.{Rose}
use Rattle.sq_flow.specs.declared.errors.RunErr.{RunErr}
use Rattle.sq_status.specs.declared.Status.{Status}
use Rattle.sq_status.specs.StatusKinds.{is_changed, is_garbled}
use Rattle.sq_work.proofs.StoppedLemmas.{rose_later}
use Rattle.sq_flow.specs.declared.errors.RunErr.TheVariants as run_err
use Rattle.sq_bring.specs.declared.bring.QueueErr.TheVariants as queue
use Rattle.sq_status.specs.declared.Status.TheVariants as status

failed_map : (P Q : Engine → Type 0) (X Y : Flow Actor → Type 0) → ((e : Engine) → P e → Q e) → ((flow : Flow Actor) → X flow → Y flow) → FailedIn P X → FailedIn Q Y
failed_map P Q X Y of shows f = record { engine = f.engine; of_run = of f.engine f.of_run; failed = f.failed; shows = shows (flow_of f.engine) f.shows }

-- what shows why an engine stopped shows it of a longer call, and of any run of which the engine is
pub stop_map : (P Q : Engine → Type 0) (was is was' is' : DiskLog) (before now before' now' : ℕ) (s : Status) → (Rose before now → Rose before' now')
    → ((queues : Queues) (e : QueueErr) → IsPageRefused queues was is e → IsPageRefused queues was' is' e) → ((e : Engine) → P e → Q e)
    → StopHasCause P was is before now s → StopHasCause Q was' is' before' now' s
stop_map P Q was is was' is' before now before' now' status.DiskFault rose back of h = rose h
stop_map P Q was is was' is' before now before' now' (status.Garbled page kept got) rose back of h = (h.0, failed_map P Q _ _ of (λ flow shows. back flow.queues (queue.Garbled page kept got) shows) h.1)
stop_map P Q was is was' is' before now before' now' (status.NotAPage page bytes) rose back of h = failed_map P Q _ _ of (λ flow shows. back flow.queues (queue.NotAPage page bytes) shows) h
stop_map P Q was is was' is' before now before' now' (status.Strange arc item) rose back of h = failed_map P Q _ _ of (λ flow shows. shows) h
stop_map P Q was is was' is' before now before' now' status.TooMuch rose back of h = failed_map P Q _ _ of (λ flow shows. shows) h
stop_map P Q was is was' is' before now before' now' s rose back of h = tt

-- why a step failed
pub step_cause : (P : Engine → Type 0) (to : Engine) (was is : DiskLog) (before now : ℕ) (e : RunErr) → P to → has_failed to ≡ true → IsCauseIn (flow_of to) was is before now e
    → StopHasCause P was is before now (status_of e)
step_cause P to was is before now run_err.Disk of failed cause = cause
step_cause P to was is before now (run_err.Garbled page kept got) of failed cause =
    (cause.refusal.2.3, record { engine = to; of_run = of; failed = failed; shows = cause })
step_cause P to was is before now (run_err.NotAPage page bytes) of failed cause = record { engine = to; of_run = of; failed = failed; shows = cause }
step_cause P to was is before now (run_err.Strange arc item) of failed cause = record { engine = to; of_run = of; failed = failed; shows = cause }
step_cause P to was is before now run_err.TooMuch of failed cause = record { engine = to; of_run = of; failed = failed; shows = tt }
step_cause P to was is before now run_err.Memory of failed cause = tt

pub step_unchanged : (honest : Bool) (e : RunErr) → NotChanged honest e → honest ≡ true → is_changed (status_of e) ≡ false
step_unchanged honest run_err.Disk named is = refl
step_unchanged honest (run_err.Garbled page kept got) named is = let no : true ≡ false = sym is ∙ named in absurd (cc)
step_unchanged honest (run_err.NotAPage page bytes) named is = absurd named
step_unchanged honest (run_err.Strange arc item) named is = absurd named
step_unchanged honest run_err.TooMuch named is = refl
step_unchanged honest run_err.Memory named is = refl

-- what no disk changed is no page that came back changed
pub unchanged_garbled : (s : Status) → is_changed s ≡ false → is_changed s ≡ true → is_garbled s ≡ true
unchanged_garbled s not is = let no : true ≡ false = sym is ∙ not in absurd (cc)

pub step_garbled : (honest : Bool) (e : RunErr) → NotChanged honest e → is_changed (status_of e) ≡ true → is_garbled (status_of e) ≡ true
step_garbled honest run_err.Disk named is = absurd (cc)
step_garbled honest (run_err.Garbled page kept got) named is = refl
step_garbled honest (run_err.NotAPage page bytes) named is = absurd named
step_garbled honest (run_err.Strange arc item) named is = absurd named
step_garbled honest run_err.TooMuch named is = absurd (cc)
step_garbled honest run_err.Memory named is = absurd (cc)

pub step_much : (e : RunErr) → status_of e ≡ status.TooMuch → e ≡ run_err.TooMuch
step_much run_err.Disk is = absurd (cc)
step_much (run_err.Garbled page kept got) is = absurd (cc)
step_much (run_err.NotAPage page bytes) is = absurd (cc)
step_much (run_err.Strange arc item) is = absurd (cc)
step_much run_err.TooMuch is = refl
step_much run_err.Memory is = absurd (cc)

pub step_cut : (before now : ℕ) (e : RunErr) → IsCutShort before now (status_of e)
step_cut before now run_err.Disk = record { begun = refl; no_end = λ is. absurd (cc); sink = λ is. absurd (cc) }
step_cut before now (run_err.Garbled page kept got) = record { begun = refl; no_end = λ is. absurd (cc); sink = λ is. absurd (cc) }
step_cut before now (run_err.NotAPage page bytes) = record { begun = refl; no_end = λ is. absurd (cc); sink = λ is. absurd (cc) }
step_cut before now (run_err.Strange arc item) = record { begun = refl; no_end = λ is. absurd (cc); sink = λ is. absurd (cc) }
step_cut before now run_err.TooMuch = record { begun = refl; no_end = λ is. absurd (cc); sink = λ is. absurd (cc) }
step_cut before now run_err.Memory = record { begun = refl; no_end = λ is. absurd (cc); sink = λ is. absurd (cc) }

pub cut_later : (before mid now : ℕ) (s : Status) → before ≤ mid → IsCutShort mid now s → IsCutShort before now s
cut_later before mid now s le cut = record { begun = cut.begun; no_end = cut.no_end; sink = λ is. rose_later 1 before mid now le (cut.sink is) }

-- what is lost cuts short
pub lost_cut : (before now : ℕ) (s : Status) → IsLost before now s → IsCutShort before now s
lost_cut before now s (inl memory) =
    subst (IsCutShort before now) (sym memory) (record { begun = refl; no_end = λ is. absurd (cc); sink = λ is. absurd (cc) })
lost_cut before now s (inr (sink, rose)) =
    subst (IsCutShort before now) (sym sink) (record { begun = refl; no_end = λ is. absurd (cc); sink = λ is. rose })

pub lost_stop : (P : Engine → Type 0) (was is : DiskLog) (before now faults faults' : ℕ) (s : Status) → IsLost faults faults' s → StopHasCause P was is before now s
lost_stop P was is before now faults faults' s (inl memory) = subst (StopHasCause P was is before now) (sym memory) tt
lost_stop P was is before now faults faults' s (inr (sink, rose)) = subst (StopHasCause P was is before now) (sym sink) tt

pub lost_unchanged : (faults faults' : ℕ) (s : Status) → IsLost faults faults' s → is_changed s ≡ false
lost_unchanged faults faults' s (inl memory) = ap is_changed memory
lost_unchanged faults faults' s (inr (sink, rose)) = ap is_changed sink

pub lost_garbled : (faults faults' : ℕ) (s : Status) → IsLost faults faults' s → is_changed s ≡ true → is_garbled s ≡ true
lost_garbled faults faults' s lost = unchanged_garbled s (lost_unchanged faults faults' s lost)

-- a step that feeds or finishes lowers the measure
pub falls_lower : (fed : ℕ) (finished : Bool) (before after : ℕ) → FallsBy fed finished before after → (fed ≡ 0 → finished ≡ true) → after < before
falls_lower zero true before after falls works = omega (arith, falls)
falls_lower zero false before after falls works = absurd (let e : false ≡ true = works refl in cc)
falls_lower (suc fed) true before after falls works = omega (arith, falls)
falls_lower (suc fed) false before after falls works = omega (arith, falls)
