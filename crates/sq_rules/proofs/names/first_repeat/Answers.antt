use Rattle.std.proofs.Common.{◌≡◌, true, false, sym, ◌∙◌, arith}
use Rattle.std.specs.List.{list_any}
use Rattle.std.specs.Str.{bytes_eq}
use Rattle.sq_rules.proofs.NamingLemmas.{repeat_after-found, repeat_after-new}
use Rattle.sq_rules.proofs.names.first_repeat.Goals as goal

pub returns-then-not-is_new-clause-first : goal.returns-then-not-is_new-clause-first
returns-then-not-is_new-clause-first c =
    let found : list_any (λ k. bytes_eq c.as_str.result.now k.now) c.loop-place.seen.keys ≡ true = grind arith in
    sym (repeat_after-found c.loop-place.seen.keys c.as_str.result c.args.names.now c.loop-place.place c.index-names-place.result c.loop-place-test.true c.index-names-place.is c.as_str.ensures found)
    ∙ c.loop-place.invariant

pub loop-place-preserved : goal.loop-place-preserved
loop-place-preserved c =
    let fresh : list_any (λ k. bytes_eq c.as_str.result.now k.now) c.loop-place.seen.keys ≡ false = grind arith in
    let grown = rw fresh at c.in_ok-is_new.ensures.keys in
    rw grown (sym (repeat_after-new c.loop-place.seen.keys c.as_str.result c.args.names.now c.loop-place.place c.index-names-place.result c.loop-place-test.true c.index-names-place.is c.as_str.ensures fresh) ∙ c.loop-place.invariant)
