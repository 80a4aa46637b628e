use Rattle.std.proofs.Common.{◌≡◌, ℕ, ◌+◌, ◌-◌, ◌<◌, take, drop, length, ap, sym, ◌∙◌, arith}
use Rattle.sq_rows.specs.Rows.{total, joined_onto}
use Rattle.sq_rows.proofs.RowLemmas.{drop_at, made_at, run_next}
use Rattle.sq_rows.proofs.rows.take_in_row.Goals as goal

pub take_in-requires-clause-made_other : goal.take_in-requires-clause-made_other
take_in-requires-clause-made_other g c =
    let room = c.requires.room in
    let below = c.loop-i-test.true in
    made_at (g.F.Fold.made c.args.fold.now) c.args.states.now.items c.loop-i.i c.index.result.now (omega (arith, room, below)) c.index.ensures c.requires.made.1

pub take_in-requires-clause-few : goal.take_in-requires-clause-few
take_in-requires-clause-few g c =
    let number = g.F.Fold.number c.args.fold.now in
    let es = c.args.states.now.items in
    let i : ℕ = c.loop-i.i in
    let room = c.requires.room in
    let below = c.loop-i-test.true in
    let step = ap (total number) (drop_at es i c.index.result.now (omega (arith, room, below)) c.index.ensures) in
    let le = c.loop-i.invariant.few in
    let few = c.requires.few in
    omega (arith, step, le, few)

pub loop-i-preserved : goal.loop-i-preserved
loop-i-preserved g c =
    let fold = c.args.fold.now in
    let join = g.F.Fold.joined fold in
    let es = c.args.states.now.items in
    let i : ℕ = c.loop-i.i in
    let to : ℕ = c.args.to in
    let room = c.requires.room in
    let below = c.loop-i-test.true in
    let inside : i < length es = omega (arith, room, below) in
    let next = run_next es i to c.index.result.now below inside c.index.ensures in
    let step = ap (total (g.F.Fold.number fold)) (drop_at es i c.index.result.now inside c.index.ensures) in
    let le = c.loop-i.invariant.few in
    let more = c.in_ok-take_in.ensures.made.1 in
    record {
      value = ap (λ m. joined_onto join m (take (to - (i + 1)) (drop (i + 1) es))) c.in_ok-take_in.ensures.value ∙ sym (ap (joined_onto join c.loop-i.own) next) ∙ c.loop-i.invariant.value;
      made = c.in_ok-take_in.ensures.made.0;
      few = omega (arith, step, le, more);
    }

pub returns-clause-value : goal.returns-clause-value
returns-clause-value g c =
    let es = c.args.states.now.items in
    let i : ℕ = c.loop-i.i in
    let over : c.args.to - i ≡ 0 = omega arith in
    sym (ap (λ n. joined_onto (g.F.Fold.joined c.args.fold.now) c.loop-i.own (take n (drop i es))) over) ∙ c.loop-i.invariant.value
