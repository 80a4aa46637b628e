use Rattle.std.proofs.Common.{◌≡◌, ◌∙◌, ap, sym, true, get_or, arith}
use Rattle.std.proofs.lemmas.Bool.Decides.{nat_tests}
use Rattle.std.proofs.lemmas.List.{drop_all}
use Rattle.sq_csv.specs.Cuts.{below_128, ends_line, stays_quoted}
use Rattle.sq_csv.proofs.FieldLemmas.{drop_at, line_quoteless, quote_behind, skips_bits, skips_kept, skips_low}
use Rattle.sq_csv.proofs.fields.cut_quote.Goals as goal
use Rattle.sq_csv.proofs.fields.cut_quote.Goals.{then-ascii, else-ascii}

pub loop-at-init : goal.loop-at-init
loop-at-init c =
    let begun = c.skip_quoted-begin in
    let kept : below_128 c.if-ascii.bits ≡ begun.result.1 = elim c.if-ascii.branch [
      | then-ascii w ↦ ap below_128 w.bits-is ∙ sym w.if-ascii.true
      | else-ascii w ↦ ap below_128 w.bits-is ∙ sym w.if-ascii.false
    ] in
    skips_kept stays_quoted c.args.text.now c.args.from begun.result.0 c.if-ascii.bits begun.result.1 begun.ensures kept

pub loop-at-preserved-then-byte-gt34 : goal.loop-at-preserved-then-byte-gt34
loop-at-preserved-then-byte-gt34 c =
    let l = c.loop-at in
    skips_bits stays_quoted c.args.text.now c.args.from l.at l.bits l.invariant c.loop-at-test.true (grind (arith, nat_tests, c.if-byte-gt34.true))

pub loop-at-preserved : goal.loop-at-preserved
loop-at-preserved c =
    let l = c.loop-at in
    let here : stays_quoted (get_or c.args.text.now l.at 0) ≡ true = grind (arith, nat_tests) in
    skips_low stays_quoted c.args.text.now c.args.from l.at l.bits l.invariant c.loop-at-test.true here (omega (arith, c.if-byte-gt34.false))

pub returns-in-34-clause-first : goal.returns-in-34-clause-first
returns-in-34-clause-first c =
    let l = c.loop-at in
    quote_behind c.args.text.now c.args.from l.at (below_128 l.bits) l.invariant c.loop-at-test.true c.in-34.is

pub returns-in-34-clause-ascii : goal.returns-in-34-clause-ascii
returns-in-34-clause-ascii c =
    let l = c.loop-at in
    l.invariant.ascii

pub returns-in-10-clause-none : goal.returns-in-10-clause-none
returns-in-10-clause-none c =
    let text = c.args.text.now in
    let l = c.loop-at in
    λ none. line_quoteless text c.args.from l.at (below_128 l.bits) l.invariant (ap ends_line (drop_at text l.at 10 c.loop-at-test.true c.in-10.is))

pub returns-clause-none : goal.returns-clause-none
returns-clause-none c =
    let text = c.args.text.now in
    let l = c.loop-at in
    λ none. line_quoteless text c.args.from l.at (below_128 l.bits) l.invariant (ap ends_line (drop_all l.at text (omega (arith, c.loop-at-test.false))))
