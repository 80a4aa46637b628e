use Rattle.std.proofs.Common.{◌<◌, length, refl, ap, sym, ◌∙◌, arith}
use Rattle.std.specs.Prelude.{slice_get}
use Rattle.std.proofs.lemmas.Option.{slice_get_read}
use Rattle.sq_replay.specs.RecordedTuples.{first_recorded}
use Rattle.sq_flow.specs.Flows.{tuples_to_come}
use Rattle.sq_flow.specs.Sources.{first_before}
use Rattle.sq_flow.proofs.ClearLemmas.{some-from, some-next}
use Rattle.sq_flow.proofs.clearing.is_preceded.Goals as goal
use Rattle.sq_flow.proofs.clearing.is_preceded.Goals.{in-Some+else-comes_before, in_default}

pub returns-then-comes_before : goal.returns-then-comes_before
returns-then-comes_before c =
    let i = c.loop-other.other in
    let sources = c.args.sources.now.items in
    let low : i < length sources = omega (arith, c.loop-other-test.true, c.len-other-end.ensures, c.args.sources.now.ok.0) in
    let begins = ap (λ o. first_recorded (tuples_to_come o)) (slice_get_read sources _ i c.index.result.now refl low c.index.ensures) ∙ sym c.time.ensures ∙ c.in-Some.is in
    sym (some-from (λ other. first_before (first_recorded (tuples_to_come (slice_get sources other))) other c.args.from c.args.source) (length sources) i
    (ap (λ o. first_before o i c.args.from c.args.source) begins ∙ sym c.comes_before.ensures ∙ c.if-comes_before.true) low)

pub loop-other-preserved : goal.loop-other-preserved
loop-other-preserved c =
    let i = c.loop-other.other in
    let sources = c.args.sources.now.items in
    let low : i < length sources = omega (arith, c.loop-other-test.true, c.len-other-end.ensures, c.args.sources.now.ok.0) in
    let begins = ap (λ o. first_recorded (tuples_to_come o)) (slice_get_read sources _ i c.index.result.now refl low c.index.ensures) ∙ sym c.time.ensures in
    some-next (λ other. first_before (first_recorded (tuples_to_come (slice_get sources other))) other c.args.from c.args.source) i c.loop-other.invariant
    (elim c.match-time.branch [
      | in-Some+else-comes_before w ↦ ap (λ o. first_before o i c.args.from c.args.source) (begins ∙ w.in-Some.is) ∙ sym w.comes_before.ensures ∙ w.if-comes_before.false
      | in_default w ↦ ap (λ o. first_before o i c.args.from c.args.source) (begins ∙ w.in_default.is)
    ])
