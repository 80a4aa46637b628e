use Rattle.std.proofs.Common.{◌≡◌, ◌≤◌, [], length, map, drop, take}
use Rattle.sq_work.specs.SourceFiles.{AreRecorded}
use Rattle.sq_work.specs.Scripts.{AcceptedReplay, after_streams, with_sources}
use Rattle.sq_work.specs.FolderStates.{folder_state}
use Rattle.sq_work.specs.Reads.{ScriptLeads}
use Rattle.sq_work.proofs.reading.streams_of.Given as goal

abbrev pub invariant-sources : goal.invariant-sources
invariant-sources g l = record {
  leads : (r : AcceptedReplay) → ScriptLeads (folder_state g.F.Folder l.fn.folder) (folder_state g.F.Folder l.folder) (after_streams (with_sources r []) l.network.sources)
      (after_streams (with_sources r (map (λ xs. xs.items) l.streams.items)) (drop l.source-index l.network.sources));
  recorded : AreRecorded (take l.source-index l.network.sources) (map (λ xs. xs.items) l.streams.items);
  counted : length l.streams.items ≡ l.source-index;
  files : g.F.Folder.files l.folder ≡ g.F.Folder.files l.fn.folder;
  no_fault : g.F.Folder.faults l.folder ≡ g.F.Folder.faults l.fn.folder;
  faults : g.F.Folder.faults l.fn.folder ≤ g.F.Folder.faults l.folder;
  taken : g.F.Folder.taken l.fn.folder ≤ g.F.Folder.taken l.folder;
}
