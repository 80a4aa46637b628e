use Rattle.std.proofs.Common.{Some, ap, sym, ◌∙◌}
use Rattle.sq_command.specs.declared.Command.TheVariants as command
use Rattle.sq_work.specs.AcceptedViews.{replay_of}
use Rattle.sq_work.specs.FolderStates.{folder_state}
use Rattle.sq_work.proofs.AuditLemmas.{accepted_text, run_asked, run_words, stopped_run, stopped_text}
use Rattle.sq_work.proofs.auditing.prepare_audit.Goals as goal

pub returns-in-Err-clause-prepared : goal.returns-in-Err-clause-prepared
returns-in-Err-clause-prepared g c words asked =
    stopped_run words c.args.net c.args.text.now asked c.requires _ _ c.in-Err.stopped.status _
    (c.in-Err.ensures.prepared (run_words c.args.net) (run_asked c.args.net c.requires ∙ ap (λ x. Some (command.Run x)) (sym c.plain_args.ensures)))

pub returns-in-Ok-read_file-clause-prepared : goal.returns-in-Ok-read_file-clause-prepared
returns-in-Ok-read_file-clause-prepared g c words asked =
    accepted_text words c.args.net c.args.text.now asked c.requires
    (folder_state g.F.Folder c.args.folder.now) (folder_state g.F.Folder c.prepare.new.folder) (folder_state g.F.Folder c.read_file.new.folder)
    (c.in-Ok.ensures.files, c.in-Ok.ensures.later.0, c.in-Ok.ensures.later.1) (replay_of c.in-Ok.accepted)
    (c.in-Ok.ensures.prepared (run_words c.args.net) (run_asked c.args.net c.requires ∙ ap (λ x. Some (command.Run x)) (sym c.plain_args.ensures))) c.in-Ok-read_file.bytes.items
    (c.in-Ok-read_file.ensures.whole, c.in-Ok-read_file.ensures.gives)

pub returns-in-Err-read_file-clause-prepared : goal.returns-in-Err-read_file-clause-prepared
returns-in-Err-read_file-clause-prepared g c words asked =
    rw (c.stopped_by.ensures.0, c.stopped_by.ensures.1)
    (stopped_text words c.args.net c.args.text.now asked c.requires
    (folder_state g.F.Folder c.args.folder.now) (folder_state g.F.Folder c.prepare.new.folder) (folder_state g.F.Folder c.read_file.new.folder)
    (c.in-Ok.ensures.files, c.in-Ok.ensures.later.0, c.in-Ok.ensures.later.1) (replay_of c.in-Ok.accepted)
    (c.in-Ok.ensures.prepared (run_words c.args.net) (run_asked c.args.net c.requires ∙ ap (λ x. Some (command.Run x)) (sym c.plain_args.ensures))) c.in-Err-read_file.status _
    c.in-Err-read_file.ensures.refuses c.in-Err-read_file.ensures.unread)

pub returns-in-Ok-read_file-clause-runs : goal.returns-in-Ok-read_file-clause-runs
returns-in-Ok-read_file-clause-runs g c =
    let runs = c.in-Ok.ensures.runs in
    record { sound = runs.sound; limits = runs.limits; recorded = runs.recorded; train = runs.train; frames = runs.frames; first = runs.first }
