use Rattle.std.proofs.Common.{◌≡◌, ℕ, ◌+◌, ◌-◌, ◌/◌, ◌<◌, ◌≤◌, max, ◌++◌, ◌∷◌, [], map, ap, ap₂, sym, subst, ◌∙◌, arith, rules}
use Rattle.std.specs.List.{range_with_len}
use Rattle.sq_words.specs.Lists.{IsPrefixOf}
use Rattle.sq_oper.specs.Outflow.{given}
use Rattle.sq_oper.specs.Streams.{at_zero}
use Rattle.sq_tagged.specs.TaggedStreams.{mark_thing}
use Rattle.sq_windrop.specs.Drops.{drop_mark, marks_for, decided, greatest_bound, first_new, newly}
use Rattle.sq_windrop.proofs.TouchLemmas.{begun}
use Rattle.sq_windrop.proofs.StepLemmas.{given-push, decided-push, bound-push, prefix-more, decided-more, range-push, range-more, length-newly}
use Rattle.sq_windrop.proofs.drop.touch_each.Goals as goal
use Rattle.sq_oper.proofs.GivingLemmas.{keeps-both}
use Rattle.sq_words.proofs.Results.{OnErr_from}

pub decide-requires-clause-begun : goal.decide-requires-clause-begun
decide-requires-clause-begun g c = begun c.args.with.now c.requires.limits.least c.loop-batch.batch c.args.time c.loop-batch-test.true

pub returns-in_err-until-clause-prefix : goal.returns-in_err-until-clause-prefix
returns-in_err-until-clause-prefix g c =
    let d = c.args.with.now in
    let next : ℕ = c.args.batches.now.next in
    let from : ℕ = c.first_new-from.result in
    let b : ℕ = c.loop-batch.batch in
    let end : ℕ = c.args.time / d.length + 1 in
    let is : from ≡ first_new d next c.args.time = c.first_new-from.ensures in
    let le : from ≤ b = c.loop-batch.auto.batch in
    let less : b < end = c.loop-batch-test.true in
    OnErr_from c.from_residual.result (λ table agrees q.
    let before = given q (g.T.Outlet.items c.args.out.now) in
    let after = given q (g.T.Outlet.items c.decide.new.out) in
    let so_far = range_with_len from (b - from) in
    let whole = ap (λ (a : ℕ). range_with_len a (end - a)) (sym is) ∙ range-more from (b + 1) end (omega (arith, le)) (omega (arith, less)) in
    prefix-more d table q before after (range_with_len from (b + 1 - from)) (range_with_len (b + 1) (end - (b + 1))) (newly d next c.args.time) whole
    (subst (IsPrefixOf after)
    (ap (λ l. l ++ at_zero q (mark_thing (drop_mark d table b) ∷ [])) (c.loop-batch.invariant.given table agrees q)
    ∙ given-push d table q before so_far b
    ∙ ap (λ l. before ++ at_zero q (map mark_thing (marks_for d table l))) (sym (range-push from b le)))
    (c.in_err-until.ensures.prefix table agrees q)))

pub returns-in_err-until-clause-drops_prefix : goal.returns-in_err-until-clause-drops_prefix
returns-in_err-until-clause-drops_prefix g c =
    let d = c.args.with.now in
    let next : ℕ = c.args.batches.now.next in
    let from : ℕ = c.first_new-from.result in
    let b : ℕ = c.loop-batch.batch in
    let end : ℕ = c.args.time / d.length + 1 in
    let is : from ≡ first_new d next c.args.time = c.first_new-from.ensures in
    let le : from ≤ b = c.loop-batch.auto.batch in
    let less : b < end = c.loop-batch-test.true in
    OnErr_from c.from_residual.result (λ table agrees.
    let whole = ap (λ (a : ℕ). range_with_len a (end - a)) (sym is) ∙ range-more from b end le (omega (arith, less)) in
    decided-more d table (g.T.Outlet.drops c.args.out.now) (g.T.Outlet.drops c.decide.new.out) (range_with_len from (b - from)) (range_with_len b (end - b)) (newly d next c.args.time) whole
    (c.in_err-until.ensures.drops_err ∙ c.loop-batch.invariant.drops table agrees))

pub returns-in_err-until-clause-few : goal.returns-in_err-until-clause-few
returns-in_err-until-clause-few g c =
    let d = c.args.with.now in
    let next : ℕ = c.args.batches.now.next in
    let from : ℕ = c.first_new-from.result in
    let is : from ≡ first_new d next c.args.time = c.first_new-from.ensures in
    let le = c.loop-batch.auto.batch in
    let less = c.loop-batch-test.true in
    let all = length-newly d next c.args.time in
    let so = c.loop-batch.invariant.few in
    let one = c.in_err-until.ensures.few in
    omega (arith, is, le, less, all, so, one)

pub loop-batch-preserved : goal.loop-batch-preserved
loop-batch-preserved g c =
    let d = c.args.with.now in
    let from : ℕ = c.first_new-from.result in
    let b : ℕ = c.loop-batch.batch in
    let le : from ≤ b = c.loop-batch.auto.batch in
    let less : b < c.args.time / d.length + 1 = c.loop-batch-test.true in
    let so_far = range_with_len from (b - from) in
    let inv = c.loop-batch.invariant in
    let e = c.in_ok-until.ensures in
    record {
      given = λ table agrees q.
          e.given table agrees q
          ∙ ap (λ l. l ++ at_zero q (mark_thing (drop_mark d table b) ∷ [])) (inv.given table agrees q)
          ∙ given-push d table q (given q (g.T.Outlet.items c.args.out.now)) so_far b
          ∙ ap (λ l. given q (g.T.Outlet.items c.args.out.now) ++ at_zero q (map mark_thing (marks_for d table l))) (sym (range-push from b le));
      drops = λ table agrees.
          e.drops table agrees
          ∙ ap (λ l. l ++ decided d table (b ∷ [])) (inv.drops table agrees)
          ∙ decided-push d table (g.T.Outlet.drops c.args.out.now) so_far b
          ∙ ap (λ l. g.T.Outlet.drops c.args.out.now ++ decided d table l) (sym (range-push from b le));
      bound = λ table agrees.
          let most : c.max-bound.result ≡ max c.loop-batch.bound c.in_ok-until.until = search rules in
          most
          ∙ ap₂ max (inv.bound table agrees) (e.bound table agrees)
          ∙ bound-push d table c.args.batches.now.bound so_far b
          ∙ ap (λ l. max c.args.batches.now.bound (greatest_bound (marks_for d table l))) (sym (range-push from b le));
      low = omega (arith, less);
      keeps = keeps-both g.T.Outlet _ _ _ inv.keeps e.keeps;
      few = (let so = inv.few in let one = e.few in omega (arith, so, one, le));
      ready = e.stays_ready;
    }

pub returns-clause-given : goal.returns-clause-given
returns-clause-given g c =
    let d = c.args.with.now in
    let next : ℕ = c.args.batches.now.next in
    let from : ℕ = c.first_new-from.result in
    let b : ℕ = c.loop-batch.batch in
    let is : from ≡ first_new d next c.args.time = c.first_new-from.ensures in
    let past = c.loop-batch-test.false in
    let low = c.loop-batch.invariant.low in
    let le = c.loop-batch.auto.batch in
    let count : b - from ≡ c.args.time / d.length + 1 - first_new d next c.args.time = omega (arith, is, past, low, le) in
    λ table agrees q.
    c.loop-batch.invariant.given table agrees q
    ∙ ap₂ (λ (a n : ℕ). given q (g.T.Outlet.items c.args.out.now) ++ at_zero q (map mark_thing (marks_for d table (range_with_len a n)))) is count

pub returns-clause-drops : goal.returns-clause-drops
returns-clause-drops g c =
    let d = c.args.with.now in
    let next : ℕ = c.args.batches.now.next in
    let from : ℕ = c.first_new-from.result in
    let b : ℕ = c.loop-batch.batch in
    let is : from ≡ first_new d next c.args.time = c.first_new-from.ensures in
    let past = c.loop-batch-test.false in
    let low = c.loop-batch.invariant.low in
    let le = c.loop-batch.auto.batch in
    let count : b - from ≡ c.args.time / d.length + 1 - first_new d next c.args.time = omega (arith, is, past, low, le) in
    λ table agrees.
    c.loop-batch.invariant.drops table agrees ∙ ap₂ (λ (a n : ℕ). g.T.Outlet.drops c.args.out.now ++ decided d table (range_with_len a n)) is count

pub returns-clause-batches : goal.returns-clause-batches
returns-clause-batches g c =
    let d = c.args.with.now in
    let next : ℕ = c.args.batches.now.next in
    let from : ℕ = c.first_new-from.result in
    let b : ℕ = c.loop-batch.batch in
    let is : from ≡ first_new d next c.args.time = c.first_new-from.ensures in
    let past = c.loop-batch-test.false in
    let low = c.loop-batch.invariant.low in
    let le = c.loop-batch.auto.batch in
    let count : b - from ≡ c.args.time / d.length + 1 - first_new d next c.args.time = omega (arith, is, past, low, le) in
    let later : c.max.result ≡ max next (c.args.time / d.length + 1) = search rules in
    λ table agrees.
    let most = c.loop-batch.invariant.bound table agrees ∙ ap₂ (λ (a n : ℕ). max c.args.batches.now.bound (greatest_bound (marks_for d table (range_with_len a n)))) is count in
    λ i. record { next = later i; bound = most i }

pub returns-clause-few : goal.returns-clause-few
returns-clause-few g c =
    let d = c.args.with.now in
    let next : ℕ = c.args.batches.now.next in
    let from : ℕ = c.first_new-from.result in
    let b : ℕ = c.loop-batch.batch in
    let is : from ≡ first_new d next c.args.time = c.first_new-from.ensures in
    let past = c.loop-batch-test.false in
    let low = c.loop-batch.invariant.low in
    let le = c.loop-batch.auto.batch in
    let count : b - from ≡ c.args.time / d.length + 1 - first_new d next c.args.time = omega (arith, is, past, low, le) in
    let all = length-newly d next c.args.time in
    let so = c.loop-batch.invariant.few in
    omega (arith, count, all, so)

pub returns-in_err-until-clause-keeps : goal.returns-in_err-until-clause-keeps
returns-in_err-until-clause-keeps g c = keeps-both g.T.Outlet _ _ _ c.loop-batch.invariant.keeps c.in_err-until.ensures.keeps
