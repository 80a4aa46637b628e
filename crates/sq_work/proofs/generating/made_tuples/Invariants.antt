use Rattle.std.proofs.Common.{◌≡◌, [], length, map, drop, take}
use Rattle.sq_work.specs.SourceFiles.{AreRecorded}
use Rattle.sq_work.specs.Scripts.{AcceptedReplay, made_streams, with_sources}
use Rattle.sq_work.proofs.generating.made_tuples.Given as goal

abbrev pub invariant-sources : goal.invariant-sources
invariant-sources l = record {
  leads : (r : AcceptedReplay) → made_streams l.text.items (with_sources r []) l.network.sources
      ≡ made_streams l.text.items (with_sources r (map (λ xs. xs.items) l.streams.items)) (drop l.source-index l.network.sources);
  recorded : AreRecorded (take l.source-index l.network.sources) (map (λ xs. xs.items) l.streams.items);
  counted : length (map (λ xs. xs.items) l.streams.items) ≡ l.source-index;
}
