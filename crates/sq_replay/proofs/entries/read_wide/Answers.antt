use Rattle.std.proofs.Common.{◌≡◌, ℕ, ◌<◌, false, get_or, length, arith}
use Rattle.std.proofs.lemmas.Bool.Decides.{nat_tests}
use Rattle.sq_replay.proofs.EntryLemmas.{digits_off, digits_on, wide_below, wide_end, wide_on}
use Rattle.sq_value.specs.Texts.{is_digit}
use Rattle.sq_replay.proofs.entries.read_wide.Goals.{then-byte-lt48-via-then-byte-lt48, then-byte-lt48-via-else-byte-lt48+then-byte-gt57}
use Rattle.sq_replay.proofs.entries.read_wide.Goals as goal

under : (b : ℕ) → b < 48 → is_digit b ≡ false
under b h = grind (arith, nat_tests)

over : (b : ℕ) → 57 < b → is_digit b ≡ false
over b h = grind (arith, nat_tests)

pub overflow_mul-number : goal.overflow_mul-number
overflow_mul-number c =
    let next = wide_below c.loop-byte.number 0 c.loop-byte.byte-index c.loop-byte.invariant.below (omega arith) (omega arith) in
    omega (arith, next)

pub overflow_add-number : goal.overflow_add-number
overflow_add-number c =
    let next = wide_below c.loop-byte.number 9 c.loop-byte.byte-index c.loop-byte.invariant.below (omega arith) (omega arith) in
    omega (arith, c.from.ensures, next)

pub loop-byte-preserved : goal.loop-byte-preserved
loop-byte-preserved c =
    let text = c.args.text.now in
    let l = c.loop-byte in
    let next = wide_below l.number 9 l.byte-index l.invariant.below (omega arith) (omega arith) in
    record {
      so_far = wide_on text l.byte-index l.number c.from.result _ c.loop-byte-test.true c.from.ensures l.invariant.so_far;
      digits = digits_on text l.byte-index _ c.loop-byte-test.true c.if-byte-lt48.false c.if-byte-gt57.false l.invariant.digits;
      below = omega (arith, c.from.ensures, c.if-byte-gt57.false, next.0);
    }

pub returns : goal.returns
returns c =
    let text = c.args.text.now in
    let l = c.loop-byte in
    let some : 0 < length text = grind (arith, nat_tests, c.is_empty.ensures, c.if-is_empty.false) in
    wide_end text l.byte-index l.number some c.if-text-gt-CAPACITY_DIGITS.false c.loop-byte-test.false l.invariant.digits l.invariant.so_far

pub returns-then-byte-lt48 : goal.returns-then-byte-lt48
returns-then-byte-lt48 c =
    let text = c.args.text.now in
    let i = c.loop-byte.byte-index in
    let none : is_digit (get_or text i 0) ≡ false = elim c.then-byte-lt48.branch [ then-byte-lt48-via-then-byte-lt48 w ↦ under (get_or text i 0) w.if-byte-lt48.true | then-byte-lt48-via-else-byte-lt48+then-byte-gt57 w ↦ over (get_or text i 0) w.if-byte-gt57.true ] in
    digits_off text i c.loop-byte-test.true none c.loop-byte.invariant.digits
