-- How an audit ends.
use Rattle.std.proofs.Common.{◌≡◌, ◌⊎◌, inl, inr, ℕ, true, false, List, refl, ap, sym, ◌∙◌, subst, arith, Some}
use Rattle.sq_outside.specs.Sinks.{appended, AppendsSuch}
use Rattle.sq_command.specs.declared.Command.TheVariants as command
use Rattle.sq_status.specs.declared.Status.{Status}
use Rattle.sq_status.specs.declared.Status.TheVariants as status
use Rattle.sq_command.specs.Commands.{command_in, runs_engine}
use Rattle.sq_work.specs.Scripts.{AcceptedReplay, Script, Reads, Done, Stops, script_of}
use Rattle.sq_work.specs.FolderStates.{FolderState}
use Rattle.sq_work.specs.Reads.{ScriptLeads}
use Rattle.sq_top.specs.Ends.{Ends}
use Rattle.sq_top.specs.Outside.{Outside}
use Rattle.sq_top.specs.Texts.{IsPrefixOfDue, IsWholeOf, verdict_text, work_for}
use Rattle.sq_due.specs.Writing.{IsLost, LosesWhole}
use Rattle.sq_top.proofs.EndLemmas.{answered_cut, answered_ok, appends_all, appends_begun}
use Rattle.sq_top.proofs.ReadsLemmas.{HoldsFor, left_holds}
use Rattle.sq_work.proofs.AuditLemmas.{is_audit}
use Rattle.sq_status.specs.StatusKinds.{is_refusal, is_plain_end}
use Rattle.sq_work.specs.Refusals.{IsRefusedAt, IsStopped}
use Rattle.sq_top.proofs.StopLemmas.{lost_early}

module _ (words : List (List ℕ)) (net text : List ℕ) (asked : command_in words ≡ Some (command.Audit net text)) where
  no_engine : runs_engine (command_in words) ≡ false
  no_engine = ap runs_engine asked

  -- an audit that stops has a status of its own
  pub stopped_plain : (before after : FolderState) (s : Status) (source : List ℕ) → IsStopped words before after s source → is_plain_end s ≡ true
  stopped_plain before after s source h = by h.left h.ends h.refusal (left_holds before.told words h.read h.left h.goes)
    where
      by : (left : Script) → (is_refusal s ≡ true) ⊎ (s ≡ status.Memory) → IsRefusedAt before after s left → HoldsFor (command_in words) left → is_plain_end s ≡ true
      by (Done r) (inl refused) why holds = let both : true ≡ false = sym refused ∙ why in absurd (cc)
      by (Done r) (inr memory) why holds = ap is_plain_end memory
      by (Stops t) ends (inl same) holds = ap is_plain_end same ∙ holds.1 no_engine
      by (Stops t) ends (inr memory) holds = ap is_plain_end memory
      by (Reads name limit more) ends (inl memory) holds = ap is_plain_end memory
      by (Reads name limit more) ends (inr (inl fault)) holds = ap is_plain_end fault.0
      by (Reads name limit more) ends (inr (inr long)) holds = ap is_plain_end long.0

pub lost_plain : (before now : ℕ) (s : Status) → IsLost before now s → is_plain_end s ≡ true
lost_plain before now s (inl memory) = ap is_plain_end memory
lost_plain before now s (inr (sink, rose)) = ap is_plain_end sink

-- how an audit ends whose files were read
module _ (words : List (List ℕ)) (net text : List ℕ) (asked : command_in words ≡ Some (command.Audit net text)) (before after : Outside) (r : AcceptedReplay) (source : List ℕ)
    (came : ScriptLeads before.folder after.folder (script_of words) (Done r)) (faultless : after.folder.faults ≡ before.folder.faults) (still : after.steps ≡ before.steps) where
  no_work : work_for (command_in words) r ≡ 0
  no_work = ap (λ c. work_for c r) asked

  pub audited_ok : after.output.written ≡ appended before.output.written (verdict_text r) → Ends words before after status.Ok source
  audited_ok written =
      answered_ok words before after r source (is_audit words net text asked) came faultless
      (λ told. (
        subst (λ c. AppendsSuch before.output.written after.output.written (IsWholeOf c r)) (sym asked) (appends_all before.output.written after.output.written (verdict_text r) (λ said. said ≡ verdict_text r) written refl),
        omega (arith, still, no_work),
      )) (λ runs. let both : true ≡ false = sym runs ∙ ap runs_engine asked in absurd (cc))

  no_fault : (s : Status) → IsLost before.output.faults after.output.faults s → s ≡ status.DiskFault → ⊥
  no_fault s (inl memory) is = let no : status.Memory ≡ status.DiskFault = sym memory ∙ is in cc
  no_fault s (inr (sink, rose)) is = let no : status.SinkFault ≡ status.DiskFault = sym sink ∙ is in cc

  pub audited_cut : (s : Status) → LosesWhole before.output after.output (verdict_text r) s → Ends words before after s source
  audited_cut s loses =
      let lost = loses.part.lost in
      answered_cut words before after r source (is_audit words net text asked) came faultless s
      (lost_early (command_in words) r before after s lost (λ told. (
        subst (λ c. AppendsSuch before.output.written after.output.written (IsPrefixOfDue c r s)) (sym asked) (appends_begun (verdict_text r) before.output.written after.output.written s loses.part.begun loses.alone),
        omega (arith, still, no_work),
      )))
      (λ fault. absurd (no_fault s lost fault))
