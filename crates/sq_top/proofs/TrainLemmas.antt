-- A train is at least one step, frames are at least two, and rows are 1 to 1,000,000.
use Rattle.std.proofs.Common.{◌≡◌, ℕ, ◌-◌, ◌^◌, ◌<◌, ◌≤◌, Bool, true, false, ◌&&◌, List, [], ◌∷◌, refl, subst, arith, Option, Some, None}
use Rattle.std.specs.Prelude.{nat_le, nat_lt, codes, if◌then◌else◌}
use Rattle.std.specs.Option.{option_map, option_and_then}
use Rattle.std.specs.List.{list_all}
use Rattle.std.proofs.lemmas.Bool.Decides.{nat_tests}
use Rattle.sq_words.specs.Lists.{same_bytes}
use Rattle.sq_value.specs.Texts.{are_digits, number_in}
use Rattle.sq_command.specs.declared.RunArgs.{RunArgs}
use Rattle.sq_command.specs.declared.Command.{Command}
use Rattle.sq_command.specs.declared.Command.TheVariants as command
use Rattle.sq_command.specs.Commands.{Given, args_of, audit_args, command_in, gen_args, given_from, is_known_option, known_args, lone, number_or, number_within, rule_of, run_args, tap_args, tick_in, option_values}
use Rattle.sq_value.specs.CommandWords.{Word, may_name}
use Rattle.sq_words.proofs.Bools.{and_true}

within_least : (t : Bool) (low high : ℕ) (w : Word) (k : ℕ) → (are_digits 20 w && (nat_le low (number_in w) && nat_le (number_in w) high)) ≡ t → number_within low high w ≡ Some k → low ≤ k
within_least true low high w k e h =
    let is : number_in w ≡ k = let both : Some (number_in w) ≡ Some k = rw e at h in cc in
    let least = (and_true (nat_le low (number_in w)) (nat_le (number_in w) high) (and_true (are_digits 20 w) (nat_le low (number_in w) && nat_le (number_in w) high) e).1).0 in
    subst (λ m. low ≤ m) is (grind (arith, nat_tests))
within_least false low high w k e h = let both : ◌≡◌ {A = Option ℕ} None (Some k) = rw e at h in cc

number_least : (default low high : ℕ) (o : Option Word) (k : ℕ) → low ≤ default → number_or default low high o ≡ Some k → low ≤ k
number_least default low high None k least h = let is : default ≡ k = cc in subst (λ m. low ≤ m) is least
number_least default low high (Some w) k least h = within_least (are_digits 20 w && (nat_le low (number_in w) && nat_le (number_in w) high)) low high w k refl h

abbrev HasLeast : Option RunArgs → Type 0
HasLeast None = Unit {0}
HasLeast (Some a) = (1 ≤ a.train) × (2 ≤ a.frames)

bounded : {A : Type 0} (f : A → Option RunArgs) (o : Option A) → ((x : A) → o ≡ Some x → HasLeast (f x)) → HasLeast (option_and_then f o)
bounded f None all = tt
bounded f (Some x) all = all x refl

given_least : (gs : List Given) → HasLeast (args_of gs)
given_least gs =
    bounded _ (lone (option_values None gs))
    (λ net e. bounded _ net
    (λ file e2. bounded _ (lone (option_values (Some (codes "capacities")) gs))
    (λ capacities e0. bounded _ (lone (option_values (Some (codes "seed")) gs))
    (λ seed e3. bounded _ (lone (option_values (Some (codes "policy")) gs))
    (λ policy e4. bounded _ (lone (option_values (Some (codes "picks")) gs))
    (λ picks e5. bounded _ (lone (option_values (Some (codes "train")) gs))
    (λ train e6. bounded _ (lone (option_values (Some (codes "frames")) gs))
    (λ frames e1. bounded _ (number_or 0 0 (2 ^ 64 - 1) seed)
    (λ seed_is e7. bounded _ (number_or 16 1 4096 train)
    (λ train_is e8. bounded _ (number_or 256 2 16384 frames)
    (λ frames_is e10. bounded _ (rule_of policy picks)
    (λ rule_is e9. (number_least 16 1 4096 train train_is (omega arith) e8, number_least 256 2 16384 frames frames_is (omega arith) e10)))))))))))))

known_least : (t : Bool) (gs : List Given) → list_all (λ g. is_known_option g.0) gs ≡ t → HasLeast (known_args gs)
known_least true gs e = rw e (given_least gs)
known_least false gs e = rw e tt

run_least : (ws : List Word) → HasLeast (run_args ws)
run_least ws = bounded _ (given_from ws None) (λ gs e. known_least (list_all (λ g. is_known_option g.0) gs) gs refl)

-- a train is at least one step and frames are two, rows are within their limits, the network of an audit may be that of a run, and a
-- tick is one
abbrev IsWithin : Option Command → Type 0
IsWithin None = Unit {0}
IsWithin (Some (command.Run a)) = (1 ≤ a.train) × (2 ≤ a.frames)
IsWithin (Some (command.Gen number rows)) = (1 ≤ rows) × (rows ≤ 1000000)
IsWithin (Some (command.Audit net text)) = may_name net ≡ true
IsWithin (Some (command.Tap net stream tick history query)) = tick < 2 ^ 40

of_run : (o : Option RunArgs) → HasLeast o → IsWithin (option_map command.Run o)
of_run None has = tt
of_run (Some a) has = has

of_gen : {A : Type 0} (f : A → Option Command) (o : Option A) → ((x : A) → o ≡ Some x → IsWithin (f x)) → IsWithin (option_and_then f o)
of_gen f None all = tt
of_gen f (Some x) all = all x refl

within_most : (t : Bool) (low high : ℕ) (w : Word) (k : ℕ) → (are_digits 20 w && (nat_le low (number_in w) && nat_le (number_in w) high)) ≡ t → number_within low high w ≡ Some k → k ≤ high
within_most true low high w k e h =
    let is : number_in w ≡ k = let both : Some (number_in w) ≡ Some k = rw e at h in cc in
    let most = (and_true (nat_le low (number_in w)) (nat_le (number_in w) high) (and_true (are_digits 20 w) (nat_le low (number_in w) && nat_le (number_in w) high) e).1).1 in
    subst (λ m. m ≤ high) is (grind (arith, nat_tests))
within_most false low high w k e h = let both : ◌≡◌ {A = Option ℕ} None (Some k) = rw e at h in cc

gen_within : (ws : List Word) → IsWithin (gen_args ws)
gen_within [] = tt
gen_within (number ∷ []) = tt
gen_within (number ∷ rows ∷ []) =
    of_gen _ (number_within 0 (2 ^ 64 - 1) number)
    (λ n e. of_gen _ (number_within 1 1000000 rows)
    (λ k e1. (
      within_least (are_digits 20 rows && (nat_le 1 (number_in rows) && nat_le (number_in rows) 1000000)) 1 1000000 rows k refl e1,
      within_most (are_digits 20 rows && (nat_le 1 (number_in rows) && nat_le (number_in rows) 1000000)) 1 1000000 rows k refl e1,
    )))
gen_within (number ∷ rows ∷ w ∷ ws) = tt

audit_by : (t : Bool) (net text : Word) → (may_name net && may_name text) ≡ t → IsWithin (audit_args (net ∷ text ∷ []))
audit_by true net text e = rw e ((and_true (may_name net) (may_name text) e).0)
audit_by false net text e = rw e tt

audit_within : (ws : List Word) → IsWithin (audit_args ws)
audit_within [] = tt
audit_within (net ∷ []) = tt
audit_within (net ∷ text ∷ []) = audit_by (may_name net && may_name text) net text refl
audit_within (net ∷ text ∷ w ∷ ws) = tt

tick_low : (w : Word) (t : ℕ) → tick_in w ≡ Some t → t < 2 ^ 40
tick_low w t h = by (are_digits 13 w && nat_lt (number_in w) (2 ^ 40)) refl h
  where
    by : (b : Bool) → (are_digits 13 w && nat_lt (number_in w) (2 ^ 40)) ≡ b → tick_in w ≡ Some t → t < 2 ^ 40
    by true e h' =
        let is : number_in w ≡ t = let both : Some (number_in w) ≡ Some t = rw e at h' in cc in
        let low = (and_true (are_digits 13 w) (nat_lt (number_in w) (2 ^ 40)) e).1 in
        subst (λ k. k < 2 ^ 40) is (grind (arith, nat_tests))
    by false e h' = let both : ◌≡◌ {A = Option ℕ} None (Some t) = rw e at h' in cc

tap_by : (named : Bool) (net stream : List ℕ) (tick history : ℕ) (query : List ℕ) → tick < 2 ^ 40
    → IsWithin (if named then Some (command.Tap net stream tick history query) else None)
tap_by true net stream tick history query low = low
tap_by false net stream tick history query low = tt

tap_within : (ws : List Word) → IsWithin (tap_args ws)
tap_within [] = tt
tap_within (net ∷ []) = tt
tap_within (net ∷ stream ∷ []) = tt
tap_within (net ∷ stream ∷ tick ∷ []) = tt
tap_within (net ∷ stream ∷ tick ∷ history ∷ []) = tt
tap_within (net ∷ stream ∷ tick ∷ history ∷ query ∷ []) =
    of_gen _ (tick_in tick)
    (λ t e. of_gen _ (tick_in history)
    (λ h e1. tap_by (may_name net && (may_name stream && may_name query)) net stream t h query (tick_low tick t e)))
tap_within (net ∷ stream ∷ tick ∷ history ∷ query ∷ w ∷ ws) = tt

command_by : (run audit gen tap : Bool) (w : Word) (ws : List Word) → same_bytes w (codes "run") ≡ run → same_bytes w (codes "audit") ≡ audit → same_bytes w (codes "gen") ≡ gen
    → same_bytes w (codes "tap") ≡ tap → IsWithin (command_in (w ∷ ws))
command_by true audit gen tap w ws e f h i = rw e (of_run (run_args ws) (run_least ws))
command_by false true gen tap w ws e f h i = rw (e, f) (audit_within ws)
command_by false false true tap w ws e f h i = rw (e, f, h) (gen_within ws)
command_by false false false true w ws e f h i = rw (e, f, h, i) (tap_within ws)
command_by false false false false w ws e f h i = rw (e, f, h, i) tt

command_within : (ws : List Word) → IsWithin (command_in ws)
command_within [] = tt
command_within (w ∷ ws) = command_by (same_bytes w (codes "run")) (same_bytes w (codes "audit")) (same_bytes w (codes "gen")) (same_bytes w (codes "tap")) w ws refl refl refl refl

pub command_least : (ws : List Word) (args : RunArgs) → command_in ws ≡ Some (command.Run args) → (1 ≤ args.train) × (2 ≤ args.frames)
command_least ws args h = subst IsWithin h (command_within ws)

pub gen_rows : (ws : List Word) (number rows : ℕ) → command_in ws ≡ Some (command.Gen number rows) → (1 ≤ rows) × (rows ≤ 1000000)
gen_rows ws number rows h = subst IsWithin h (command_within ws)

pub audit_named : (ws : List Word) (net text : List ℕ) → command_in ws ≡ Some (command.Audit net text) → may_name net ≡ true
audit_named ws net text h = subst IsWithin h (command_within ws)

pub tap_tick : (ws : List Word) (net stream : List ℕ) (tick history : ℕ) (query : List ℕ) → command_in ws ≡ Some (command.Tap net stream tick history query) → tick < 2 ^ 40
tap_tick ws net stream tick history query h = subst IsWithin h (command_within ws)
