use Rattle.std.proofs.Common.{arith, rules, map, [], ◌∷◌, ◌∙◌, ap}
use Rattle.std.proofs.lemmas.List.{drop_all, length-map, map-append, take_all}
use Rattle.sq_work.specs.FolderStates.{folder_state}
use Rattle.sq_work.proofs.StoppedLemmas.{leads_on, no_streams_at, no_streams_kept}
use Rattle.sq_work.proofs.reading.streams_of.Goals as goal
use Rattle.sq_work.proofs.SourceLemmas.{recorded_more}

pub returns-in-Err-push-clause-stopped : goal.returns-in-Err-push-clause-stopped
returns-in-Err-push-clause-stopped g c r =
    no_streams_kept (folder_state g.F.Folder c.args.folder.now) (folder_state g.F.Folder c.sources.folder) (folder_state g.F.Folder c.stream_of.new.folder)
    (c.sources.invariant.files, c.sources.invariant.faults, c.sources.invariant.taken) r c.args.network.now.sources (map (λ xs. xs.items) c.sources.streams.items) c.sources.source-index c.source-item.result
    (rw c.as_slice-source-items.ensures at c.sources-test.true) (rw c.as_slice-source-items.ensures at c.source-item.is)
    (length-map c.sources.streams.items (λ xs. xs.items) ∙ c.sources.invariant.counted) (c.sources.invariant.leads r)
    c.in-Ok.stream.items c.stopped_by.result.status _ c.in-Ok.ensures.stream c.stopped_by.ensures.0

pub returns-in-Err-clause-stopped : goal.returns-in-Err-clause-stopped
returns-in-Err-clause-stopped g c r =
    no_streams_at (folder_state g.F.Folder c.args.folder.now) (folder_state g.F.Folder c.sources.folder) (folder_state g.F.Folder c.stream_of.new.folder)
    (c.sources.invariant.files, c.sources.invariant.faults, c.sources.invariant.taken) r c.args.network.now.sources (map (λ xs. xs.items) c.sources.streams.items) c.sources.source-index c.source-item.result
    (rw c.as_slice-source-items.ensures at c.sources-test.true) (rw c.as_slice-source-items.ensures at c.source-item.is)
    (length-map c.sources.streams.items (λ xs. xs.items) ∙ c.sources.invariant.counted) (c.sources.invariant.leads r) c.len-number.result
    c.in-Err.stopped.status _ (search rules) c.in-Err.ensures.stopped

pub sources-preserved : goal.sources-preserved
sources-preserved g c = record {
  leads = λ r. rw (ap (map (λ xs. xs.items)) c.in-Ok-push.ensures.items ∙ map-append (λ xs. xs.items) c.sources.streams.items (c.in-Ok.stream ∷ []))
      (leads_on (folder_state g.F.Folder c.args.folder.now) (folder_state g.F.Folder c.sources.folder) (folder_state g.F.Folder c.stream_of.new.folder)
      (c.sources.invariant.files, c.sources.invariant.faults, c.sources.invariant.taken) r c.args.network.now.sources (map (λ xs. xs.items) c.sources.streams.items) c.sources.source-index c.source-item.result
      (rw c.as_slice-source-items.ensures at c.sources-test.true) (rw c.as_slice-source-items.ensures at c.source-item.is)
      (length-map c.sources.streams.items (λ xs. xs.items) ∙ c.sources.invariant.counted) (c.sources.invariant.leads r) c.in-Ok.stream.items
      c.in-Ok.ensures.stream);
  recorded = rw (ap (map (λ xs. xs.items)) c.in-Ok-push.ensures.items ∙ map-append (λ xs. xs.items) c.sources.streams.items (c.in-Ok.stream ∷ []))
      (recorded_more c.args.network.now.sources c.sources.source-index c.source-item.result (map (λ xs. xs.items) c.sources.streams.items) c.in-Ok.stream.items
      (rw c.as_slice-source-items.ensures at c.sources-test.true) (rw c.as_slice-source-items.ensures at c.source-item.is) c.sources.invariant.recorded c.in-Ok.ensures.recorded);
  counted = search rules;
  files = c.in-Ok.ensures.files ∙ c.sources.invariant.files;
  no_fault = c.in-Ok.ensures.no_fault ∙ c.sources.invariant.no_fault;
  faults = omega (arith, c.sources.invariant.faults, c.in-Ok.ensures.later.0);
  taken = omega (arith, c.sources.invariant.taken, c.in-Ok.ensures.later.1);
}

pub returns-clause-leads : goal.returns-clause-leads
returns-clause-leads g c r = rw (drop_all c.sources.source-index c.args.network.now.sources (rw c.as_slice-source-items.ensures at c.sources-test.false)) at (c.sources.invariant.leads r)

pub returns-clause-recorded : goal.returns-clause-recorded
returns-clause-recorded g c = rw (take_all c.sources.source-index c.args.network.now.sources (rw c.as_slice-source-items.ensures at c.sources-test.false)) at c.sources.invariant.recorded
