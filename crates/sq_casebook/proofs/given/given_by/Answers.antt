use Rattle.std.proofs.Common.{length, ◌∙◌, ap, sym}
use Rattle.std.proofs.lemmas.List.{length-map}
use Rattle.std.proofs.lemmas.List.Elements.{All-from_recursion}
use Rattle.sq_value.specs.Values.{IsStream}
use Rattle.sq_top.proofs.SourceLemmas.{recorded_even, recorded_streams}
use Rattle.sq_casebook.proofs.given.given_by.Goals as goal

pub returns-clause-lists : goal.returns-clause-lists
returns-clause-lists c =
    sym (length-map c.in_ok-sources.sources.items (λ xs. xs.items)) ∙ ap length c.in_ok-sources.ensures
    ∙ recorded_even c.in_ok-network.field-0.network.sources _ c.in_ok-network.ensures.recorded

pub returns-clause-streams : goal.returns-clause-streams
returns-clause-streams c =
    rw c.in_ok-sources.ensures (All-from_recursion IsStream _ (recorded_streams c.in_ok-network.field-0.network.sources _ c.in_ok-network.ensures.recorded))
