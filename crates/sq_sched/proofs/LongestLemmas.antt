-- The actor that `longest` names is one of those for which most items wait, and the lowest of them.
use Rattle.std.proofs.Common.{◌≡◌, ℕ, ◌+◌, ◌<◌, ◌≤◌, cond, Bool, true, false, ◌||◌, ◌&&◌, List, [], ◌∷◌, length, drop, add-one, refl, arith}
use Rattle.std.specs.Prelude.{◌==◌, nat_lt, slice_index}
use Rattle.std.proofs.Math.Seq.{drop-cons}
use Rattle.std.proofs.lemmas.Bool.Decides.{nat_tests}
use Rattle.sq_sched.specs.Policies.{IsLongest, longer, longest_from, longest}
use Rattle.sq_words.specs.Lists.{contains_number}

-- no fewer items wait for one actor than for another, and where they have as many it isn't higher
record Leads (waits : List ℕ) (actor other : ℕ) : Type 0 where
  pub most : slice_index waits other ≤ slice_index waits actor
  pub lowest : slice_index waits other ≡ slice_index waits actor → actor ≤ other

leads-self : (waits : List ℕ) (actor : ℕ) → Leads waits actor actor
leads-self waits actor = record { most = omega arith; lowest = λ _. omega arith }

leads-on : (waits : List ℕ) (a b c : ℕ) → Leads waits a b → Leads waits b c → Leads waits a c
leads-on waits a b c h k = record { most = omega (arith, h.most, k.most); lowest = λ e. both e (omega (arith, h.most, k.most, e)) }
  where
    both : slice_index waits c ≡ slice_index waits a → slice_index waits b ≡ slice_index waits a → a ≤ c
    both e f =
        let g : slice_index waits c ≡ slice_index waits b = omega (arith, e, f) in
        omega (arith, h.lowest f, k.lowest g)

-- of two actors the longer leads both
longer-leads : (waits : List ℕ) (best actor : ℕ) → Leads waits (longer waits best actor) best × Leads waits (longer waits best actor) actor
longer-leads waits best actor = by (nat_lt p q || ((p == q) && nat_lt actor best)) refl
  where
    p : ℕ
    p = slice_index waits best

    q : ℕ
    q = slice_index waits actor

    by : (b : Bool) → (nat_lt p q || ((p == q) && nat_lt actor best)) ≡ b → Leads waits (cond b actor best) best × Leads waits (cond b actor best) actor
    by true h = (record { most = grind (arith, nat_tests, h); lowest = λ e. grind (arith, nat_tests, h, e) }, leads-self waits actor)
    by false h = (leads-self waits best, record { most = grind (arith, nat_tests, h); lowest = λ e. grind (arith, nat_tests, h, e) })

same-leads : (waits : List ℕ) (a x y : ℕ) → (x == y) ≡ true → Leads waits a x → Leads waits a y
same-leads waits a x y h k = let e : x ≡ y = grind (arith, nat_tests, h) in rw (← e) k

-- the longest leads the first, and all that follow
first-led : (waits : List ℕ) (first : ℕ) (actors : List ℕ) → Leads waits (longest_from waits first actors) first
first-led waits first [] = leads-self waits first
first-led waits first (actor ∷ actors) =
    let next = longer waits first actor in
    leads-on waits (longest_from waits next actors) next first (first-led waits next actors) (longer-leads waits first actor).0

others-led : (waits : List ℕ) (first : ℕ) (actors : List ℕ) (other : ℕ) → contains_number actors other ≡ true → Leads waits (longest_from waits first actors) other
others-led waits first [] other h = absurd (cc h)
others-led waits first (actor ∷ actors) other h = by (actor == other) refl h (others-led waits next actors other)
  where
    next : ℕ
    next = longer waits first actor

    end : ℕ
    end = longest_from waits next actors

    by : (same : Bool) → (actor == other) ≡ same → (same || contains_number actors other) ≡ true → (contains_number actors other ≡ true → Leads waits end other) → Leads waits end other
    by true e h later = same-leads waits end actor other e (leads-on waits end next actor (first-led waits next actors) (longer-leads waits first actor).1)
    by false e h later = later h

all-led : (waits : List ℕ) (first : ℕ) (actors : List ℕ) (other : ℕ) → contains_number (first ∷ actors) other ≡ true → Leads waits (longest_from waits first actors) other
all-led waits first actors other h = by (first == other) refl h
  where
    by : (same : Bool) → (first == other) ≡ same → (same || contains_number actors other) ≡ true → Leads waits (longest_from waits first actors) other
    by true e h = same-leads waits (longest_from waits first actors) first other e (first-led waits first actors)
    by false e h = others-led waits first actors other h

pub longest-is : (waits ready : List ℕ) → IsLongest waits ready (longest waits ready)
longest-is waits [] = record { most = λ other h. absurd (cc h); lowest = λ other h. absurd (cc h) }
longest-is waits (actor ∷ actors) = record {
  most = λ other h. (all-led waits actor actors other h).most;
  lowest = λ other h. (all-led waits actor actors other h).lowest;
}

pub longer-ready : (waits ready : List ℕ) (best actor : ℕ) → contains_number ready best ≡ true → contains_number ready actor ≡ true → contains_number ready (longer waits best actor) ≡ true
longer-ready waits ready best actor h k = by (nat_lt (slice_index waits best) (slice_index waits actor) || ((slice_index waits best == slice_index waits actor) && nat_lt actor best))
  where
    by : (b : Bool) → contains_number ready (cond b actor best) ≡ true
    by true = k
    by false = h

-- the best of the first is led on by the actor at the next place
pub longest-on : (waits ready : List ℕ) (i best actor : ℕ) → i < length ready → actor ≡ slice_index ready i
    → longest_from waits (longer waits best actor) (drop (i + 1) ready) ≡ longest_from waits best (drop i ready)
longest-on waits ready i best actor low here = rw (add-one, here, drop-cons ready i 0) refl

pub ruleset longest_lemmas = (longest-is)
