use Rattle.std.proofs.Common.{◌≡◌, ◌∙◌, sym, drop, true, take}
use Rattle.std.proofs.lemmas.List.{take_all}
use Rattle.sq_csv.specs.Cuts.{begins_with}
use Rattle.sq_replay.proofs.CutLemmas.{tested_next}
use Rattle.sq_replay.proofs.testing.behind_values.Goals as goal

pub loop-kind-preserved : goal.loop-kind-preserved
loop-kind-preserved c =
    let text = c.args.text.now in
    let l = c.loop-kind in
    let comma : begins_with 44 (drop l.at text) ≡ true = sym c.stands_at.ensures ∙ c.if-not-stands_at.false in
    let read = rw c.in-Some.is at c.in_ok-next.ensures in
    record {
      read = tested_next c.args.kinds.now l.kind-index _ text c.args.from l.at c.in-Some.next c.loop-kind-test.true l.invariant.read comma read;
      within = read.1.1.within;
    }

pub returns : goal.returns
returns c =
    let l = c.loop-kind in
    let kinds = c.args.kinds.now in
    let read = l.invariant.read in
    let whole : take l.kind-index kinds ≡ kinds = take_all l.kind-index kinds c.loop-kind-test.false in
    (read.0, rw whole at read.1, sym c.line_ends_at.ensures ∙ c.if-not-line_ends_at.false)
