use Rattle.std.proofs.Common.{◌≡◌, None, ap, arith, map, refl, rules, subst, sym, ◌∙◌, Some}
use Rattle.std.specs.String.{string_bytes}
use Rattle.sq_pool.proofs.TrustLemmas.{IsLater-refl}
use Rattle.sq_command.specs.declared.Command.{Command}
use Rattle.sq_command.specs.declared.Command.TheVariants as command
use Rattle.sq_command.specs.Commands.{command_in}
use Rattle.sq_work.specs.Scripts.{script_of}
use Rattle.sq_work.specs.FolderStates.{folder_state}
use Rattle.sq_due.specs.States.{disk_state}
use Rattle.sq_top.specs.declared.running.Report.TheVariants as report
use Rattle.sq_top.specs.Running.{IsReportedBy}
use Rattle.sq_top.proofs.EndLemmas.{prepared_made, stopped_ends}
use Rattle.sq_due.proofs.WritingLemmas.{on_ok_any}
use Rattle.sq_top.proofs.ReadsLemmas.{leads_self}
use Rattle.sq_work.proofs.StoppedLemmas.{stopped_memory, stopped_usage}
use Rattle.sq_top.proofs.TrainLemmas.{audit_named, command_least, gen_rows, tap_tick}
use Rattle.sq_top.proofs.running.run.Goals as goal

pub prepare-prepared-requires-clause-train : goal.prepare-prepared-requires-clause-train
prepare-prepared-requires-clause-train g c =
    (command_least (map string_bytes c.args.words.now.items) c.in-Ok-Run.args (c.in-Ok-Run.ensures.command ∙ ap (λ (x : Command). Some x) c.in-Ok-Run.field-0-is)).0

pub prepare-prepared-requires-clause-frames : goal.prepare-prepared-requires-clause-frames
prepare-prepared-requires-clause-frames g c =
    (command_least (map string_bytes c.args.words.now.items) c.in-Ok-Run.args (c.in-Ok-Run.ensures.command ∙ ap (λ (x : Command). Some x) c.in-Ok-Run.field-0-is)).1

pub prepare_made-prepared-requires-clause-some : goal.prepare_made-prepared-requires-clause-some
prepare_made-prepared-requires-clause-some g c =
    (gen_rows (map string_bytes c.args.words.now.items) c.in-Ok-Gen.number c.in-Ok-Gen.rows (c.in-Ok-Gen.ensures.command ∙ ap (λ (x : Command). Some x) c.in-Ok-Gen.field-0-is)).0

pub prepare_made-prepared-requires-clause-bound : goal.prepare_made-prepared-requires-clause-bound
prepare_made-prepared-requires-clause-bound g c =
    (gen_rows (map string_bytes c.args.words.now.items) c.in-Ok-Gen.number c.in-Ok-Gen.rows (c.in-Ok-Gen.ensures.command ∙ ap (λ (x : Command). Some x) c.in-Ok-Gen.field-0-is)).1

pub returns-in-Ok-Run-clause-ends : goal.returns-in-Ok-Run-clause-ends
returns-in-Ok-Run-clause-ends g c messages messages' =
    let words = map string_bytes c.args.words.now.items in
    let asked : command_in words ≡ Some (command.Run c.in-Ok-Run.args) = c.in-Ok-Run.ensures.command ∙ ap (λ (x : Command). Some x) c.in-Ok-Run.field-0-is in
    c.run_prepared.ensures.ends words _ _ messages messages' (subst (IsReportedBy report.Lines) (sym asked) tt) (c.prepare-prepared.ensures.prepared words asked) c.prepare-prepared.ensures.no_fault

pub returns-in-Ok-Gen-clause-ends : goal.returns-in-Ok-Gen-clause-ends
returns-in-Ok-Gen-clause-ends g c messages messages' =
    let words = map string_bytes c.args.words.now.items in
    let number = c.in-Ok-Gen.number in
    let rows = c.in-Ok-Gen.rows in
    let asked : command_in words ≡ Some (command.Gen number rows) = c.in-Ok-Gen.ensures.command ∙ ap (λ (x : Command). Some x) c.in-Ok-Gen.field-0-is in
    let folder = folder_state g.F.Folder c.args.folder.now in
    c.run_prepared-in-Ok-Gen.ensures.ends words folder folder messages messages' (subst (IsReportedBy (report.Summary number rows)) (sym asked) (refl, refl))
    (prepared_made words number rows asked folder c.prepare_made-prepared.result c.prepare_made-prepared.ensures.made c.prepare_made-prepared.ensures.bad) (on_ok_any c.prepare_made-prepared.result refl)

pub returns-in-Err-Usage-clause-ends : goal.returns-in-Err-Usage-clause-ends
returns-in-Err-Usage-clause-ends g c messages messages' =
    let none : command_in (map string_bytes c.args.words.now.items) ≡ None = search rules in
    rw (c.stopped_by.ensures.0, c.stopped_by.ensures.1)
    (stopped_ends _ _ _ _ _ (stopped_usage (map string_bytes c.args.words.now.items) _ _ _ refl none) (refl, refl))

pub returns-in-Err-Memory-clause-ends : goal.returns-in-Err-Memory-clause-ends
returns-in-Err-Memory-clause-ends g c messages messages' =
    rw (c.stopped_by-in-Err-Memory.ensures.0, c.stopped_by-in-Err-Memory.ensures.1)
    (stopped_ends _ _ _ _ _ (stopped_memory (map string_bytes c.args.words.now.items) _ _ _ (script_of (map string_bytes c.args.words.now.items))
    (leads_self (folder_state g.F.Folder c.args.folder.now) (script_of (map string_bytes c.args.words.now.items)))) (refl, refl))

pub audit_files-requires : goal.audit_files-requires
audit_files-requires g c =
    audit_named (map string_bytes c.args.words.now.items) c.in-Ok-Audit.net c.in-Ok-Audit.text (c.in-Ok-Audit.ensures.command ∙ ap (λ (x : Command). Some x) c.in-Ok-Audit.field-0-is)

pub returns-in-Ok-Audit-clause-ends : goal.returns-in-Ok-Audit-clause-ends
returns-in-Ok-Audit-clause-ends g c messages messages' =
    c.audit_files.ensures.ends (map string_bytes c.args.words.now.items) (disk_state g.D.PageDisk c.args.disk.now) messages messages' c.args.steps.now
    (c.in-Ok-Audit.ensures.command ∙ ap (λ (x : Command). Some x) c.in-Ok-Audit.field-0-is)

pub returns-in-Ok-Audit-clause-no_engine : goal.returns-in-Ok-Audit-clause-no_engine
returns-in-Ok-Audit-clause-no_engine g c plain =
    (c.audit_files.ensures.plain (map string_bytes c.args.words.now.items) (c.in-Ok-Audit.ensures.command ∙ ap (λ (x : Command). Some x) c.in-Ok-Audit.field-0-is), refl, refl, refl)

pub returns-in-Ok-Audit-clause-later : goal.returns-in-Ok-Audit-clause-later
returns-in-Ok-Audit-clause-later g c = IsLater-refl _

pub returns-in-Err-Usage-clause-later : goal.returns-in-Err-Usage-clause-later
returns-in-Err-Usage-clause-later g c = IsLater-refl _

pub returns-in-Err-Memory-clause-later : goal.returns-in-Err-Memory-clause-later
returns-in-Err-Memory-clause-later g c = IsLater-refl _

pub prepare_tap-prepared-requires : goal.prepare_tap-prepared-requires
prepare_tap-prepared-requires g c =
    let low = tap_tick (map string_bytes c.args.words.now.items) c.in-Ok-Tap.net c.in-Ok-Tap.stream c.in-Ok-Tap.tick c.in-Ok-Tap.history c.in-Ok-Tap.query
    (c.in-Ok-Tap.ensures.command ∙ ap (λ (x : Command). Some x) c.in-Ok-Tap.field-0-is) in
    let is = c.first_tick-from.ensures in omega (arith, low, is)

pub returns-in-Ok-Tap-clause-ends : goal.returns-in-Ok-Tap-clause-ends
returns-in-Ok-Tap-clause-ends g c messages messages' =
    let words = map string_bytes c.args.words.now.items in
    let t = c.in-Ok-Tap in
    let asked : command_in words ≡ Some (command.Tap t.net t.stream t.tick t.history t.query) = t.ensures.command ∙ ap (λ (x : Command). Some x) t.field-0-is in
    c.run_prepared-in-Ok-Tap.ensures.ends words _ _ messages messages' (subst (IsReportedBy report.Lines) (sym asked) tt)
    (c.prepare_tap-prepared.ensures.prepared words (t.tick, t.history, asked, c.first_tick-from.ensures)) c.prepare_tap-prepared.ensures.no_fault
