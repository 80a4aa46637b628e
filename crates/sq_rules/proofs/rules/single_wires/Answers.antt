use Rattle.std.proofs.Common.{◌≡◌, ◌∙◌, sym, ap, subst, List, ℕ, None}
use Rattle.std.specs.Prelude.{Result}
use Rattle.sq_net.specs.declared.NetErr.{NetErr}
use Rattle.sq_net.specs.declared.NetErr.TheVariants as broken
use Rattle.sq_tables.specs.declared.tables.NetworkTable.{NetworkTable}
use Rattle.sq_rules.specs.Naming.{twice_place}
use Rattle.sq_rules.specs.declared.rules.Wired.{Wired}
use Rattle.sq_rules.specs.Rules.{single_wires, streamed_wires, unless_at}
use Rattle.sq_tables.specs.Refusals.{IsAnswerOf}
use Rattle.sq_rules.specs.Streaming.{Numbers, number_named, told_stream_named, told_stream_names}
use Rattle.sq_rules.proofs.rules.single_wires.Goals as goal

single_from : (r : NetworkTable) (number_of : Numbers) (answer : Result Wired NetErr) → twice_place r ≡ None → number_of ≡ told_stream_named (told_stream_names r)
    → IsAnswerOf answer (streamed_wires r number_of) → IsAnswerOf answer (single_wires r)
single_from r number_of answer none same h =
    subst (λ p. IsAnswerOf answer (unless_at broken.Twice p (streamed_wires r (told_stream_named (told_stream_names r))))) (sym none)
    (subst (λ (f : Numbers). IsAnswerOf answer (streamed_wires r f)) same h)

pub streamed_wires-requires-clause-numbers : goal.streamed_wires-requires-clause-numbers
streamed_wires-requires-clause-numbers c =
    c.in_ok-numbers.ensures ∙ ap (λ (names : List (List ℕ)). told_stream_named names) (c.deref.ensures.value ∙ c.in_ok-names.ensures.names)

pub returns : goal.returns
returns c =
    single_from c.args.raw.now (number_named c.in_ok-numbers.numbers.entries) c.streamed_wires.result
    (sym c.in_ok-place.ensures ∙ c.in_default.is)
    (c.in_ok-numbers.ensures ∙ ap (λ (names : List (List ℕ)). told_stream_named names) (c.deref.ensures.value ∙ c.in_ok-names.ensures.names))
    c.streamed_wires.ensures
