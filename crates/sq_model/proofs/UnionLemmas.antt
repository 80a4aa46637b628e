-- A Union needs no numbers of its inputs: a stable sort by time keeps them in order.
use Rattle.std.proofs.Common.{◌≡◌, ◌∙◌, ap, sym, refl, ℕ, ◌+◌, List, [], ◌∷◌, ◌++◌, map, arith}
use Rattle.std.proofs.lemmas.List.{map-append}
use Rattle.std.specs.List.{flat_map}
use Rattle.std.specs.Cmp.{IsStrictWeakOrder}
use Rattle.std.proofs.lemmas.Bool.Decides.{nat_tests}
use Rattle.sq_value.specs.declared.Tuple.{Tuple}
use Rattle.sq_words.specs.Lists.{ports_from, ports_of, sort_by}
use Rattle.sq_words.proofs.Sorting.{sort_map}
use Rattle.sq_lists.specs.Merge.{PortTuple, tuple_earlier, union}
use Rattle.sq_model.specs.Unions.{tuple_sooner}

pub sooner_orders : IsStrictWeakOrder tuple_sooner
sooner_orders = record {
  one_way = λ x y h. grind (arith, nat_tests);
  chain = λ x y z p q. grind (arith, nat_tests);
}

abbrev tuple_of : PortTuple → Tuple
tuple_of e = e.1

unnumbered : (port : ℕ) (xs : List Tuple) → map tuple_of (map (λ x. (port, x)) xs) ≡ xs
unnumbered port [] = refl
unnumbered port (x ∷ xs) = ap (λ ys. x ∷ ys) (unnumbered port xs)

all_unnumbered : (stream : ℕ → List Tuple) (port : ℕ) (inputs : List ℕ) → map tuple_of (ports_from port (map stream inputs)) ≡ flat_map stream inputs
all_unnumbered stream port [] = refl
all_unnumbered stream port (s ∷ inputs) =
    map-append tuple_of (map (λ x. (port, x)) (stream s)) (ports_from (port + 1) (map stream inputs))
    ∙ ap (λ xs. xs ++ map tuple_of (ports_from (port + 1) (map stream inputs))) (unnumbered port (stream s))
    ∙ ap (λ ys. stream s ++ ys) (all_unnumbered stream (port + 1) inputs)

pub union_is_sorted : (stream : ℕ → List Tuple) (inputs : List ℕ) → sort_by tuple_sooner (flat_map stream inputs) ≡ union (map stream inputs)
union_is_sorted stream inputs =
    ap (sort_by tuple_sooner) (sym (all_unnumbered stream 0 inputs)) ∙ sort_map tuple_of tuple_earlier tuple_sooner (λ a b. refl) (ports_of (map stream inputs))
