use Rattle.std.proofs.Common.{◌≡◌, ◌≤◌, [], arith, inl, length, sym, subst, ◌∙◌}
use Rattle.sq_net.specs.declared.Network.{Network}
use Rattle.sq_pool.specs.Trust.{known}
use Rattle.sq_work.specs.AcceptedViews.{replay_of}
use Rattle.sq_work.specs.FolderStates.{FolderState}
use Rattle.sq_due.specs.Due.{replayed}
use Rattle.sq_drive.proofs.DrivingLemmas.{if_err}
use Rattle.sq_due.proofs.WritingLemmas.{lost_later, on_ok}
use Rattle.sq_top.specs.declared.running.Report.TheVariants as report
use Rattle.sq_due.specs.States.{SinkState, disk_state, sink_state}
use Rattle.sq_top.specs.Outside.{outside}
use Rattle.sq_top.proofs.ReplayLemmas.{replay_cut, replay_ends, replay_halts}
use Rattle.sq_top.proofs.RunningLemmas.{EarlyFor, part_waits, run_lost, run_stopped, run_whole}
use Rattle.sq_top.proofs.SummaryLemmas.{summary_cut, summary_ends, summary_waits}
use Rattle.sq_top.proofs.running.run_accepted.Goals as goal

pub returns-in-Err-clause-cut : goal.returns-in-Err-clause-cut
returns-in-Err-clause-cut g c for folder folder' messages messages' asked =
    let r = replay_of c.args.accepted in
    let before = λ (folder : FolderState) (messages : SinkState). outside folder (disk_state g.D.PageDisk c.args.disk.now) (sink_state g.S.Sink c.args.out.now) messages c.args.steps.now in
    run_lost c.args.report for asked r (before folder messages) (before folder' messages') c.in-Err.status (inl c.in-Err.ensures.memory)
    (λ told. part_waits c.args.report r c.requires.sound (g.S.Sink.written c.args.out.now) c.in-Err.status) (λ told. omega arith)

pub drive-requires : goal.drive-requires
drive-requires g c = let run = c.in-Ok.ensures.new.run _ c.args.steps.now in record { sound = run.sound; known = c.in-Ok.ensures.new.known; together = run.together }

pub count-requires : goal.count-requires
count-requires g c = let run = c.in-Ok.ensures.new.run _ c.args.steps.now in record { sound = run.sound; known = c.in-Ok.ensures.new.known; together = run.together }

pub write_ends-requires-clause-first : goal.write_ends-requires-clause-first
write_ends-requires-clause-first g c =
    let same : c.in-Ok-drive.engine.network ≡ c.args.accepted.network = c.in-Ok-drive.ensures.ok.ended.network ∙ (c.in-Ok.ensures.new.run (known (g.D.PageDisk.log c.args.disk.now)) c.args.steps.now).network in
    subst (λ (n : Network). c.args.accepted.first ≤ length n.boxes) (sym same) c.requires.first

pub returns-in-Ok-drive-clause-ok : goal.returns-in-Ok-drive-clause-ok
returns-in-Ok-drive-clause-ok g c =
    let r = replay_of c.args.accepted in
    let run = c.in-Ok.ensures.new.run (known (g.D.PageDisk.log c.args.disk.now)) c.args.steps.now in
    let before = λ (folder : FolderState) (messages : SinkState). outside folder (disk_state g.D.PageDisk c.args.disk.now) (sink_state g.S.Sink c.args.out.now) messages c.args.steps.now in
    let after = λ (folder : FolderState) (messages : SinkState). outside folder (disk_state g.D.PageDisk c.drive.new.disk) (sink_state g.S.Sink c.write_ends.new.out) messages c.drive.new.steps in
    on_ok c.write_ends.result c.write_ends.ensures.ok
    (λ written for folder folder' messages messages' asked. run_whole report.Lines for (rw c.in-Lines.is at asked) r (before folder messages) (after folder' messages')
    (λ told. replay_ends (replayed r) c.args.accepted.first c.requires.sound c.in-Ok-drive.engine (c.in-Ok-drive.ensures.ok.ended.network ∙ run.network) _ _ _ _
    (c.in-Ok-drive.ensures.ok.driven (replayed r) [] c.args.steps.now told run) _ written)
    (λ told. (c.in-Ok-drive.ensures.ok.driven (replayed r) [] c.args.steps.now told run).work))

pub returns-in-Ok-drive-clause-fed : goal.returns-in-Ok-drive-clause-fed
returns-in-Ok-drive-clause-fed g c =
    on_ok c.write_ends.result c.write_ends.ensures.ok
    (λ written told. record {
      begun = c.in-Ok.started.0;
      new = c.in-Ok.ensures.new;
      engine = c.in-Ok-drive.engine;
      went = c.in-Ok-drive.ensures.ok.ended.went;
      needed = (c.in-Ok-drive.ensures.ok.driven (replayed (replay_of c.args.accepted)) [] c.args.steps.now told (c.in-Ok.ensures.new.run _ c.args.steps.now)).took;
    })

pub returns-in-Ok-drive-clause-cut : goal.returns-in-Ok-drive-clause-cut
returns-in-Ok-drive-clause-cut g c =
    let r = replay_of c.args.accepted in
    let run = c.in-Ok.ensures.new.run (known (g.D.PageDisk.log c.args.disk.now)) c.args.steps.now in
    let before = λ (folder : FolderState) (messages : SinkState). outside folder (disk_state g.D.PageDisk c.args.disk.now) (sink_state g.S.Sink c.args.out.now) messages c.args.steps.now in
    let after = λ (folder : FolderState) (messages : SinkState). outside folder (disk_state g.D.PageDisk c.drive.new.disk) (sink_state g.S.Sink c.write_ends.new.out) messages c.drive.new.steps in
    if_err (EarlyFor c.args.report r (disk_state g.D.PageDisk c.args.disk.now) (disk_state g.D.PageDisk c.drive.new.disk) (sink_state g.S.Sink c.args.out.now) (sink_state g.S.Sink c.write_ends.new.out) c.args.steps.now c.drive.new.steps)
    c.write_ends.result c.write_ends.ensures.err
    (λ s lost for folder folder' messages messages' asked. run_lost report.Lines for (rw c.in-Lines.is at asked) r (before folder messages) (after folder' messages') s (lost_later _ _ _ s c.drive.ensures.faults.1 lost.lost)
    (λ told. replay_cut (replayed r) c.args.accepted.first c.requires.sound c.in-Ok-drive.engine (c.in-Ok-drive.ensures.ok.ended.network ∙ run.network) _ _ _ _
    (c.in-Ok-drive.ensures.ok.driven (replayed r) [] c.args.steps.now told run) _ lost.begun)
    (λ told. (let work = (c.in-Ok-drive.ensures.ok.driven (replayed r) [] c.args.steps.now told run).work in omega (arith, work))))

pub returns-in-Err-drive-clause-cut : goal.returns-in-Err-drive-clause-cut
returns-in-Err-drive-clause-cut g c for folder folder' messages messages' asked =
    let r = replay_of c.args.accepted in
    let before = λ (folder : FolderState) (messages : SinkState). outside folder (disk_state g.D.PageDisk c.args.disk.now) (sink_state g.S.Sink c.args.out.now) messages c.args.steps.now in
    let after = λ (folder : FolderState) (messages : SinkState). outside folder (disk_state g.D.PageDisk c.drive.new.disk) (sink_state g.S.Sink c.drive.new.out) messages c.drive.new.steps in
    run_stopped report.Lines for (rw c.in-Lines.is at asked) r (before folder messages) (after folder' messages') c.in-Err-drive.status c.in-Ok.started.0 c.in-Ok.ensures.new _ _
    c.in-Err-drive.ensures.err c.drive.ensures.later (replay_halts (replayed r) c.args.accepted.first c.requires.sound _ c.in-Err-drive.status _ _ _ _)

pub returns-in-Ok-count-clause-ok : goal.returns-in-Ok-count-clause-ok
returns-in-Ok-count-clause-ok g c =
    let r = replay_of c.args.accepted in
    let run = c.in-Ok.ensures.new.run (known (g.D.PageDisk.log c.args.disk.now)) c.args.steps.now in
    let before = λ (folder : FolderState) (messages : SinkState). outside folder (disk_state g.D.PageDisk c.args.disk.now) (sink_state g.S.Sink c.args.out.now) messages c.args.steps.now in
    let after = λ (folder : FolderState) (messages : SinkState). outside folder (disk_state g.D.PageDisk c.count.new.disk) (sink_state g.S.Sink c.write_summary.new.out) messages c.count.new.steps in
    on_ok c.write_summary.result c.write_summary.ensures.ok
    (λ written for folder folder' messages messages' asked. run_whole (report.Summary c.in-Summary.number c.in-Summary.rows) for (rw c.in-Summary.is at asked) r (before folder messages) (after folder' messages')
    (λ told. summary_ends c.in-Summary.number c.in-Summary.rows (replayed r) c.in-Ok-count.engine (c.in-Ok-count.ensures.ok.ended.network ∙ run.network) c.in-Ok-count.counts _ _
    (c.in-Ok-count.ensures.ok.summed (replayed r) c.args.steps.now told run) _ _ written)
    (λ told. (c.in-Ok-count.ensures.ok.summed (replayed r) c.args.steps.now told run).work))

pub returns-in-Ok-count-clause-fed : goal.returns-in-Ok-count-clause-fed
returns-in-Ok-count-clause-fed g c =
    on_ok c.write_summary.result c.write_summary.ensures.ok
    (λ written told. record {
      begun = c.in-Ok.started.0;
      new = c.in-Ok.ensures.new;
      engine = c.in-Ok-count.engine;
      went = c.in-Ok-count.ensures.ok.ended.went;
      needed = (c.in-Ok-count.ensures.ok.summed (replayed (replay_of c.args.accepted)) c.args.steps.now told (c.in-Ok.ensures.new.run _ c.args.steps.now)).took;
    })

pub returns-in-Ok-count-clause-cut : goal.returns-in-Ok-count-clause-cut
returns-in-Ok-count-clause-cut g c =
    let r = replay_of c.args.accepted in
    let run = c.in-Ok.ensures.new.run (known (g.D.PageDisk.log c.args.disk.now)) c.args.steps.now in
    let before = λ (folder : FolderState) (messages : SinkState). outside folder (disk_state g.D.PageDisk c.args.disk.now) (sink_state g.S.Sink c.args.out.now) messages c.args.steps.now in
    let after = λ (folder : FolderState) (messages : SinkState). outside folder (disk_state g.D.PageDisk c.count.new.disk) (sink_state g.S.Sink c.write_summary.new.out) messages c.count.new.steps in
    if_err (EarlyFor c.args.report r (disk_state g.D.PageDisk c.args.disk.now) (disk_state g.D.PageDisk c.count.new.disk) (sink_state g.S.Sink c.args.out.now) (sink_state g.S.Sink c.write_summary.new.out) c.args.steps.now c.count.new.steps)
    c.write_summary.result c.write_summary.ensures.err
    (λ s lost for folder folder' messages messages' asked. run_lost (report.Summary c.in-Summary.number c.in-Summary.rows) for (rw c.in-Summary.is at asked) r (before folder messages) (after folder' messages') s lost.part.lost
    (λ told. summary_cut c.in-Summary.number c.in-Summary.rows (replayed r) c.in-Ok-count.engine (c.in-Ok-count.ensures.ok.ended.network ∙ run.network) c.in-Ok-count.counts _ _
    (c.in-Ok-count.ensures.ok.summed (replayed r) c.args.steps.now told run) _ _ s lost.part.begun lost.alone)
    (λ told. (let work = (c.in-Ok-count.ensures.ok.summed (replayed r) c.args.steps.now told run).work in omega (arith, work))))

pub returns-in-Err-count-clause-cut : goal.returns-in-Err-count-clause-cut
returns-in-Err-count-clause-cut g c for folder folder' messages messages' asked =
    let r = replay_of c.args.accepted in
    let before = λ (folder : FolderState) (messages : SinkState). outside folder (disk_state g.D.PageDisk c.args.disk.now) (sink_state g.S.Sink c.args.out.now) messages c.args.steps.now in
    let after = λ (folder : FolderState) (messages : SinkState). outside folder (disk_state g.D.PageDisk c.count.new.disk) (sink_state g.S.Sink c.args.out.now) messages c.count.new.steps in
    run_stopped (report.Summary c.in-Summary.number c.in-Summary.rows) for (rw c.in-Summary.is at asked) r (before folder messages) (after folder' messages') c.in-Err-count.status
    c.in-Ok.started.0 c.in-Ok.ensures.new _ _ (c.in-Err-count.ensures.err (g.S.Sink.faults c.args.out.now) (g.S.Sink.faults c.args.out.now)) c.count.ensures.later
    (λ halted. summary_waits c.in-Summary.number c.in-Summary.rows (replayed r) (g.S.Sink.written c.args.out.now) c.in-Err-count.status)
