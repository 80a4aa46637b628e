use Rattle.std.proofs.Common.{◌≡◌, ◌&&◌, ◌+◌, ◌/◌, ◌++◌, ◌∷◌, [], ap, sym, ◌∙◌, subst, ◌≤◌, arith, if◌then◌else◌, ℕ}
use Rattle.std.specs.List.{filter}
use Rattle.sq_words.specs.Lists.{numbers_to}
use Rattle.sq_model.specs.Shedding.{is_touched}
use Rattle.sq_model.specs.Shedding.{last_of}
use Rattle.sq_model.specs.GivenLevels.{drops_at}
use Rattle.sq_model.proofs.BatchLemmas.{last_low, batch_small, filter_more, filter_nothing}
use Rattle.sq_model.proofs.drops.dropped_batches.Goals as goal
use Rattle.sq_words.proofs.Lists.{filter_both}

pub overflow_add-b-end : goal.overflow_add-b-end
overflow_add-b-end c =
    let is = c.last_time.ensures in
    let low = last_low c.args.tuples.now c.requires.ticks in
    let small = batch_small (c.last_time.result / c.args.p.now.length) c.last_time.result c.args.p.now.length c.requires.measured.least (omega arith) (omega (arith, is, low)) in
    omega (arith, small)

pub loop-b-init : goal.loop-b-init
loop-b-init c =
    let drops = drops_at c.args.levels.now c.args.seed c.args.w c.args.p.now in
    c.new-batches.ensures.items
    ∙ sym (filter_nothing (λ (b : ℕ). is_touched c.args.p.now c.args.tuples.now b && drops b) 0 c.first_batch-b.result (λ b lt. ap (λ z. z && drops b) (c.first_batch-b.ensures.untouched b (omega (arith, lt)))))

pub loop-b-preserved : goal.loop-b-preserved
loop-b-preserved c =
    let test = λ (b : ℕ). is_touched c.args.p.now c.args.tuples.now b && drops_at c.args.levels.now c.args.seed c.args.w c.args.p.now b in
    c.in_ok-note.ensures
    ∙ ap (λ xs. xs ++ (if c.is_recorded-noted.result then c.loop-b.b ∷ [] else [])) c.loop-b.invariant
    ∙ ap (λ z. filter test (numbers_to c.loop-b.b) ++ (if z then c.loop-b.b ∷ [] else [])) c.is_recorded-noted.ensures
    ∙ sym (filter_more test c.loop-b.b)

pub returns : goal.returns
returns c =
    let test = λ (b : ℕ). is_touched c.args.p.now c.args.tuples.now b && drops_at c.args.levels.now c.args.seed c.args.w c.args.p.now b in
    let is = c.last_time.ensures in
    let ended = c.loop-b-test.false in
    let end = c.loop-b.auto.b-end in
    let low : c.first_batch-b.result ≤ c.last_time.result / c.args.p.now.length = subst (λ z. c.first_batch-b.result ≤ z / c.args.p.now.length) (sym is) c.first_batch-b.ensures.low in
    let same : c.loop-b.b ≡ c.last_time.result / c.args.p.now.length + 1 = omega (arith, ended, end, low) in
    c.loop-b.invariant
    ∙ ap (λ n. filter test (numbers_to n)) (same ∙ ap (λ n. n / c.args.p.now.length + 1) is)
    ∙ sym (filter_both (is_touched c.args.p.now c.args.tuples.now) (drops_at c.args.levels.now c.args.seed c.args.w c.args.p.now) (numbers_to (last_of c.args.tuples.now / c.args.p.now.length + 1)))
