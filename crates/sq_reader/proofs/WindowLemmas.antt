-- A window of a file is one of a network.
use Rattle.std.proofs.Common.{◌≡◌, ℕ, ◌*◌, ◌<◌, ◌≤◌, ◌^◌, Bool, true, false, not, ◌&&◌, ℤ, pos, negsuc, arith}
use Rattle.std.specs.Prelude.{nat_le, int_le, ◌*ℤ◌}
use Rattle.std.proofs.lemmas.Bool.Decides.{nat_tests}
use Rattle.sq_aggfn.specs.Windows.{IsWindow}
use Rattle.sq_reader.specs.Columns.{window_read}
use Rattle.sq_rules.specs.Windows.{is_span, is_window}
use Rattle.sq_words.proofs.Bools.{and_true}

pub window_is : (size advance phase : ℤ) → is_window size advance phase ≡ true → IsWindow (window_read size advance phase)
window_is size advance phase h =
    let whole = and_true (is_span size advance && int_le (pos 0) phase) (not (int_le advance phase)) h in
    let start = and_true (is_span size advance) (int_le (pos 0) phase) whole.0 in
    by size advance phase start.0 start.1 whole.1
  where
    at_most : (m n : ℕ) → nat_le m n ≡ true → m ≤ n
    at_most m n h = grind (arith, nat_tests)

    below : (m n : ℕ) → not (nat_le n m) ≡ true → m < n
    below m n h = grind (arith, nat_tests)

    none : false ≡ true → ⊥
    none e = cc

    no-size : (a b c : Bool) → (a && false && b && c) ≡ true → ⊥
    no-size true b c e = cc
    no-size false b c e = cc

    by : (size advance phase : ℤ) → is_span size advance ≡ true → int_le (pos 0) phase ≡ true → not (int_le advance phase) ≡ true → IsWindow (window_read size advance phase)
    by (pos size) (pos advance) (pos phase) span from less =
        let a = and_true (int_le (pos 1) (pos advance) && int_le (pos advance) (pos size) && int_le (pos size) (pos (2 ^ 32))) (int_le (pos size) (pos 4096 *ℤ pos advance)) span in
        let b = and_true (int_le (pos 1) (pos advance) && int_le (pos advance) (pos size)) (int_le (pos size) (pos (2 ^ 32))) a.0 in
        let c = and_true (int_le (pos 1) (pos advance)) (int_le (pos advance) (pos size)) b.0 in
        record {
          moves = at_most 1 advance c.0;
          covers = at_most advance size c.1;
          bounded = at_most size (2 ^ 32) b.1;
          few = at_most size (4096 * advance) a.1;
          begins = below phase advance less;
        }
    by (pos size) (pos advance) (negsuc phase) span from less = absurd (none from)
    by (pos size) (negsuc advance) phase span from less = absurd (none span)
    by (negsuc size) (pos advance) phase span from less = absurd (no-size (int_le (pos 1) (pos advance)) (int_le (negsuc size) (pos (2 ^ 32))) (int_le (negsuc size) (pos 4096 *ℤ pos advance)) span)
    by (negsuc size) (negsuc advance) phase span from less = absurd (none span)
