use Rattle.std.proofs.Common.{◌≡◌, ℕ, ◌+◌, ◌-◌, ◌<◌, take, drop, ap, ap₂, sym, ◌∙◌, arith}
use Rattle.sq_rows.specs.Rows.{total, joined_onto}
use Rattle.sq_rows.proofs.RowLemmas.{made_at, run_next}
use Rattle.sq_pane.proofs.BlockLemmas.{total_split}
use Rattle.sq_pane.proofs.line.block_at.Goals as goal

pub loop-i-init : goal.loop-i-init
loop-i-init g c =
    let fold = c.args.fold.now in
    let es = c.args.states.now.items in
    let at : ℕ = c.args.at in
    let all : at + 64 - at ≡ 64 = omega arith in
    let none = c.in_ok-block.ensures.made.1 in
    let same = ap (λ n. total (g.F.Fold.number fold) (take n (drop at es))) all in
    record {
      value = ap₂ (λ m n. joined_onto (g.F.Fold.joined fold) m (take n (drop at es))) c.in_ok-block.ensures.value all;
      kept = c.in_ok-block.ensures.made.0;
      count = omega (arith, none, same);
    }

pub take_in-requires-clause-made_other : goal.take_in-requires-clause-made_other
take_in-requires-clause-made_other g c =
    let room = c.requires.room in
    let below = c.loop-i-test.true in
    made_at (g.F.Fold.made c.args.fold.now) c.args.states.now.items c.loop-i.i c.index.result.now (omega (arith, room, below)) c.index.ensures c.requires.made

pub take_in-requires-clause-few : goal.take_in-requires-clause-few
take_in-requires-clause-few g c =
    let number = g.F.Fold.number c.args.fold.now in
    let es = c.args.states.now.items in
    let at : ℕ = c.args.at in
    let i : ℕ = c.loop-i.i in
    let room = c.requires.room in
    let below : i < at + 64 = c.loop-i-test.true in
    let step = ap (total number) (run_next es i (at + 64) c.index.result.now below (omega (arith, room, below)) c.index.ensures) in
    let count = c.loop-i.invariant.count in
    let run = total_split number 64 (drop at es) in
    let all = total_split number at es in
    let few = c.requires.few in
    omega (arith, count, step, run, all, few)

pub loop-i-preserved : goal.loop-i-preserved
loop-i-preserved g c =
    let fold = c.args.fold.now in
    let join = g.F.Fold.joined fold in
    let es = c.args.states.now.items in
    let at : ℕ = c.args.at in
    let i : ℕ = c.loop-i.i in
    let room = c.requires.room in
    let below : i < at + 64 = c.loop-i-test.true in
    let next = run_next es i (at + 64) c.index.result.now below (omega (arith, room, below)) c.index.ensures in
    let step = ap (total (g.F.Fold.number fold)) next in
    let count = c.loop-i.invariant.count in
    let more = c.in_ok-take_in.ensures.made.1 in
    record {
      value = ap (λ m. joined_onto join m (take (at + 64 - (i + 1)) (drop (i + 1) es))) c.in_ok-take_in.ensures.value ∙ sym (ap (joined_onto join c.loop-i.block) next) ∙ c.loop-i.invariant.value;
      kept = c.in_ok-take_in.ensures.made.0;
      count = omega (arith, step, count, more);
    }

pub returns : goal.returns
returns g c =
    let fold = c.args.fold.now in
    let es = c.args.states.now.items in
    let at : ℕ = c.args.at in
    let i : ℕ = c.loop-i.i in
    let over : at + 64 - i ≡ 0 = omega arith in
    let count = c.loop-i.invariant.count in
    record {
      value = sym (ap (λ n. joined_onto (g.F.Fold.joined fold) c.loop-i.block (take n (drop i es))) over) ∙ c.loop-i.invariant.value;
      kept = c.loop-i.invariant.kept;
      count = omega (arith, count);
    }
