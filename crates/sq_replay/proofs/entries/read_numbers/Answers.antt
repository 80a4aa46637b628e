use Rattle.std.proofs.Common.{◌∙◌, sym, arith, get_or, []}
use Rattle.sq_replay.proofs.EntryLemmas.{pick_on, pick_off, picks_end, read_below}
use Rattle.sq_replay.proofs.StreamLemmas.{no_front, pushed}
use Rattle.sq_replay.proofs.entries.read_numbers.Goals as goal

pub loop-line-init : goal.loop-line-init
loop-line-init c = no_front c.new-numbers.result.items _ c.new-numbers.ensures.items

pub returns-in_default-clause-bad : goal.returns-in_default-clause-bad
returns-in_default-clause-bad c =
    pick_off c.loop-line.numbers.items c.args.lines.now c.loop-line.line-index _ _ c.loop-line-test.true (sym c.read_short_number.ensures ∙ c.in_default.is) c.loop-line.invariant

pub overflow_cast-number : goal.overflow_cast-number
overflow_cast-number c =
    let line = get_or c.args.lines.now c.loop-line.line-index (0, record { ref_ptr = (0, 0); now = [] }) in
    let low = read_below 10 4294967296 line.1.now c.in-Some.number (sym c.read_short_number.ensures ∙ c.in-Some.is) in
    omega (arith, low)

pub loop-line-preserved : goal.loop-line-preserved
loop-line-preserved c =
    pick_on c.loop-line.numbers.items c.push.new.self.items c.args.lines.now c.loop-line.line-index _ c.in-Some.number _ c.loop-line-test.true (sym c.read_short_number.ensures ∙ c.in-Some.is)
    (pushed c.push.result c.loop-line.numbers.items c.push.new.self.items c.in-Some.number c.push.ensures.items c.if-is_err.ensures.value) c.loop-line.invariant

pub returns-clause-numbers : goal.returns-clause-numbers
returns-clause-numbers c = picks_end c.loop-line.numbers.items c.args.lines.now c.loop-line.line-index _ c.loop-line-test.false c.loop-line.invariant
