use Rattle.std.proofs.Common.{◌≡◌}
use Rattle.sq_flow.specs.Sources.{some_below, is_wanted}
use Rattle.sq_flow.proofs.SourceLemmas.{IsBest}
use Rattle.sq_flow.proofs.flow.look_at_sources.Given as goal

abbrev pub invariant-loop-source : goal.invariant-loop-source
invariant-loop-source l =
    record {
      best : IsBest l.sources.items l.source l.least l.next;
      wanted : l.wanted ≡ some_below (is_wanted l.sources.items l.ahead.items) l.source;
    }
