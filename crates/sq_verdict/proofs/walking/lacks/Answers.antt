use Rattle.std.proofs.Common.{◌∙◌, sym, refl, length, map}
use Rattle.std.specs.Prelude.{nat_lt}
use Rattle.std.proofs.lemmas.Option.{slice_get_read}
use Rattle.sq_wanted.specs.Showing.{count_of}
use Rattle.sq_verdict.proofs.PlaceLemmas.{any_here, any_later}
use Rattle.sq_verdict.proofs.walking.lacks.Goals as goal

pub returns-then-has_more : goal.returns-then-has_more
returns-then-has_more c =
    λ record_at before hold placed.
    let os = c.args.outputs.now in
    let i = c.loop-i.i in
    let o = c.index-outputs-i.result in
    let at = slice_get_read os (length os) i o refl c.loop-i-test.true c.index-outputs-i.is in
    any_here (λ o. nat_lt (count_of before o.0) (length o.1)) record_at (map (λ t. t.items) c.args.streams.now) os i o at (c.loop-i.invariant record_at before hold placed)
    (sym c.if-has_more.true ∙ c.has_more.ensures record_at before hold (placed i o at))

pub loop-i-preserved : goal.loop-i-preserved
loop-i-preserved c =
    λ record_at before hold placed.
    let os = c.args.outputs.now in
    let i = c.loop-i.i in
    let o = c.index-outputs-i.result in
    let at = slice_get_read os (length os) i o refl c.loop-i-test.true c.index-outputs-i.is in
    any_later (λ o. nat_lt (count_of before o.0) (length o.1)) record_at (map (λ t. t.items) c.args.streams.now) os i o at (c.loop-i.invariant record_at before hold placed)
    (sym c.if-has_more.false ∙ c.has_more.ensures record_at before hold (placed i o at))
