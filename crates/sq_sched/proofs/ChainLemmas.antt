-- Chains of which the first list is a ready list.
use Rattle.std.proofs.Common.{◌≡◌, ℕ, zero, suc, ◌-◌, ◌<◌, ◌≤◌, false, true, List, [], ◌∷◌, Option, Some, None, length, map, drop, refl, ap, sym, ◌∙◌, arith}
use Rattle.std.specs.Prelude.{is_some, MatchOption}
use Rattle.std.specs.List.{range_with_len}
use Rattle.std.proofs.Math.Seq.{drop-length}
use Rattle.std.proofs.lemmas.List.{length-map}
use Rattle.std.proofs.lemmas.List.FromFn.{length-range_with_len}
use Rattle.sq_link.specs.ChainLists.{Chained, StandsIn, IsLoose, IsChained, without as all_but}
use Rattle.sq_sched.specs.ReadyLists.{without_actor, AreActors, OnlyOnce, ready_in, IsReadyList}
use Rattle.sq_sched.proofs.ReadyLemmas.{contained, not-contained, stands, once-apart, without-all, length-without, few, room}
use Rattle.sq_words.specs.Lists.{contains_number, nth}
use Rattle.sq_link.proofs.ChainLemmas.{first-without}

-- what stands in a list stands in the first, where there is one alone
in-first : (lists : List (List ℕ)) (l n : ℕ) → length lists ≡ 1 → StandsIn n (nth lists l) → StandsIn n (nth lists 0)
in-first [] l n one h = absurd (omega arith)
in-first (xs ∷ []) zero n one h = h
in-first (xs ∷ []) (suc l) n one h = absurd h
in-first (xs ∷ ys ∷ lists) l n one h = absurd (omega arith)

pub once-in : (chains : Chained) → IsChained chains → OnlyOnce (ready_in chains)
once-in chains sound = once-apart (ready_in chains) (sound.once 1)

pub below-in : (n count : ℕ) (chains : Chained) (a : ℕ) → IsReadyList n chains count → IsChained chains → StandsIn a (ready_in chains) → a < n
below-in n count chains a r sound there = rw (← r.each) (sound.below 1 a there)

pub actors-in : (n count : ℕ) (chains : Chained) → IsReadyList n chains count → IsChained chains → AreActors n (ready_in chains)
actors-in n count chains r sound x here = below-in n count chains x r sound (stands (ready_in chains) x here)

pub few-in : (n count : ℕ) (chains : Chained) → IsReadyList n chains count → IsChained chains → length (ready_in chains) ≤ n
few-in n count chains r sound = few n (ready_in chains) (once-in chains sound) (actors-in n count chains r sound)

pub room-in : (n count : ℕ) (chains : Chained) (a : ℕ) → IsReadyList n chains count → IsChained chains → a < n → contains_number (ready_in chains) a ≡ false → count < n
room-in n count chains a r sound low new =
    let fits = room n (ready_in chains) a low new (once-in chains sound) (actors-in n count chains r sound) in
    omega (arith, fits, r.counted)

pub loose-in : (n count : ℕ) (chains : Chained) (a : ℕ) → IsReadyList n chains count → a < n → contains_number (ready_in chains) a ≡ false → IsLoose chains a
loose-in n count chains a r low new = record {
  outside = record {
    below = rw r.each low;
    nowhere = λ l h. let there = contained (ready_in chains) a (in-first chains.lists l a r.one h) in absurd (cc (new, there));
  };
  not_free = rw r.none_free (λ h. h);
}

-- an actor is ready where its node names a list
pub listed-in : (n count : ℕ) (chains : Chained) (a : ℕ) (o : Option ℕ) → IsReadyList n chains count
    → MatchOption o ((l : ℕ) → ¬ (StandsIn a (nth chains.lists l))) (λ l. (l < length chains.lists) × StandsIn a (nth chains.lists l))
    → is_some o ≡ contains_number (ready_in chains) a
listed-in n count chains a None r h = sym (not-contained (ready_in chains) a (h 0))
listed-in n count chains a (Some l) r h = sym (contained (ready_in chains) a (in-first chains.lists l a r.one h.1))

pub none-above : (n count : ℕ) (chains : Chained) (a : ℕ) → IsReadyList n chains count → IsChained chains → n ≤ a → contains_number (ready_in chains) a ≡ false
none-above n count chains a r sound high = not-contained (ready_in chains) a (λ there. let low = below-in n count chains a r sound there in absurd (omega (arith, low, high)))

pub ready-none : (n : ℕ) → IsReadyList n (record { lists = [] ∷ []; free = drop n (range_with_len 0 n); nodes = n }) 0
ready-none n = record { one = refl; none_free = none; each = refl; counted = refl }
  where
    none : drop n (range_with_len 0 n) ≡ []
    none = ap (λ (k : ℕ). drop k (range_with_len 0 n)) (sym (length-range_with_len 0 n)) ∙ drop-length (range_with_len 0 n)

abbrev pub taken : Chained → ℕ → Chained
taken chains a = record chains { lists = map (all_but a) chains.lists }

pub list-taken : (chains : Chained) (a : ℕ) → IsChained chains → ready_in (taken chains a) ≡ without_actor a (ready_in chains)
list-taken chains a sound = first-without chains.lists a ∙ without-all a (ready_in chains) (sound.once 1)

pub ready-taken : (n count : ℕ) (chains : Chained) (a : ℕ) → IsReadyList n chains count → IsChained chains → contains_number (ready_in chains) a ≡ true
    → IsReadyList n (taken chains a) (count - 1)
ready-taken n count chains a r sound here = record {
  one = length-map chains.lists (all_but a) ∙ r.one;
  none_free = r.none_free;
  each = r.each;
  counted = omega (arith, r.counted, ap length (list-taken chains a sound), length-without a (ready_in chains) here);
}
