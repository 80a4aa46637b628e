-- One more arc keeps what holds of the arcs that stand.
use Rattle.std.proofs.Common.{◌≡◌, ◌≢◌, ℕ, zero, suc, ◌+◌, ◌*◌, ◌<◌, ◌≤◌, eqb, cond, Bool, true, false, ◌||◌, List, [], ◌∷◌, ◌++◌, length, Option, Some, Vec, slice_get, refl, ap, sym, ◌∙◌, subst, arith, inl, inr, ◌⊎◌}
use Rattle.std.specs.declared.alloc.Global.{Global}
use Rattle.std.proofs.lemmas.Bool.{cases_lt, cases_eq, or_left, or_right}
use Rattle.std.proofs.lemmas.Map.Views.{exact_unsigned_eq}
use Rattle.std.proofs.lemmas.Option.{slice_get_within}
use Rattle.sq_words.specs.Lists.{contains_number}
use Rattle.sq_words.proofs.Bools.{or_cases, or_false}
use Rattle.sq_words.proofs.Lists.{contains_append, contains_middle, get_next}
use Rattle.sq_words.proofs.Numbers.{eqb_true}
use Rattle.sq_left.proofs.MergeLemmas.{eqb-not}
use Rattle.sq_flow.specs.declared.wires.Arc.{Arc}
use Rattle.sq_flow.specs.declared.wires.Wires.{Wires}
use Rattle.sq_flow.specs.Wiring.{numbers_in, rows_in, arcs_read, arcs_from, followers_of, Climbs, from_of, arc_port, to_of, arc_place, times_in}
use Rattle.sq_flow.proofs.SendLemmas.{times-append}
use Rattle.sq_core.specs.declared.join.Feed.{Feed}
use Rattle.sq_core.specs.Joining.{feeds_of, IsGiver, AreFeeds, IsOf, AddsArc, IsJoining, Fixed, once_more}

-- the item at a place of a list with one more
pub get-front : {A : Type 0} (xs : List A) (x : A) (i : ℕ) → i < length xs → slice_get (xs ++ x ∷ []) i ≡ slice_get xs i
get-front [] x i h = absurd (omega (arith, h))
get-front (y ∷ xs) x zero h = refl
get-front (y ∷ xs) x (suc i) h = get-front xs x i (omega (arith, h))

pub get-cases : {A : Type 0} (xs : List A) (x : A) (i : ℕ) (y : A) → slice_get (xs ++ x ∷ []) i ≡ Some y → (slice_get xs i ≡ Some y) ⊎ ((i ≡ length xs) × (x ≡ y))
get-cases [] x zero y is = inr (refl, cc is)
get-cases [] x (suc i) y is = cc is
get-cases (z ∷ xs) x zero y is = inl is
get-cases (z ∷ xs) x (suc i) y is =
    elim (get-cases xs x i y is) [
      | inl h ↦ inl h
      | inr h ↦ inr (ap suc h.0, h.1)
    ]

pub length_more : {A : Type 0} (xs : List A) (x : A) → length (xs ++ x ∷ []) ≡ length xs + 1
length_more [] x = refl
length_more (y ∷ xs) x = (let h = length_more xs x in omega (arith, h))

-- how often an arc stands in a row that may have one more, and what stands there
times-cell : (a k : ℕ) (b c : Bool) (xs : List ℕ) → times_in a (cond b (cond c (xs ++ k ∷ []) xs) xs) ≡ times_in a xs + cond b (cond c (cond (eqb k a) 1 0) 0) 0
times-cell a k true true xs = times-append a xs k
times-cell a k true false xs = omega arith
times-cell a k false c xs = omega arith

none-said : (b c : Bool) → ◌≡◌ {A = ℕ} (cond b (cond c 0 0) 0) 0
none-said true true = refl
none-said true false = refl
none-said false c = refl

get-cell : (k : ℕ) (b c : Bool) (xs : List ℕ) (p a : ℕ) → slice_get (cond b (cond c (xs ++ k ∷ []) xs) xs) p ≡ Some a → (slice_get xs p ≡ Some a) ⊎ (k ≡ a)
get-cell k true true xs p a is =
    elim (get-cases xs k p a is) [
      | inl old ↦ inl old
      | inr new ↦ inr new.1
    ]
get-cell k true false xs p a is = inl is
get-cell k false c xs p a is = inl is

times-none : (k : ℕ) (xs : List ℕ) → ((place x : ℕ) → slice_get xs place ≡ Some x → x < k) → times_in k xs ≡ 0
times-none k [] low = refl
times-none k (x ∷ xs) low =
    let away : x ≢ k = (let h = low 0 x refl in omega (arith, h)) in
    let z : ◌≡◌ {A = ℕ} (cond (eqb x k) 1 0) 0 = ap (λ b. cond b 1 0) (eqb-not x k away) in
    let more = times-none k xs (λ place y is. low (suc place) y is) in
    omega (arith, z, more)

-- a bare row at the end has nothing
pub numbers_bare : (xs : List (Vec ℕ Global)) (v : Vec ℕ Global) → v.items ≡ [] → (r : ℕ) → numbers_in (slice_get (xs ++ v ∷ []) r) ≡ numbers_in (slice_get xs r)
numbers_bare [] v is zero = is
numbers_bare [] v is (suc r) = refl
numbers_bare (x ∷ xs) v is zero = refl
numbers_bare (x ∷ xs) v is (suc r) = numbers_bare xs v is r

pub rows_bare : (xs : List (Vec (Vec ℕ Global) Global)) (v : Vec (Vec ℕ Global) Global) → v.items ≡ [] → (r : ℕ) → rows_in (slice_get (xs ++ v ∷ []) r) ≡ rows_in (slice_get xs r)
rows_bare [] v is zero = is
rows_bare [] v is (suc r) = refl
rows_bare (x ∷ xs) v is zero = refl
rows_bare (x ∷ xs) v is (suc r) = rows_bare xs v is r

-- ---- a list with one more number, once

pub there-cases : (xs : List ℕ) (x y : ℕ) → contains_number (xs ++ x ∷ []) y ≡ true → (contains_number xs y ≡ true) ⊎ (x ≡ y)
there-cases xs x y h =
    elim (or_cases (contains_number xs y) (eqb x y || false) (sym (contains_append xs (x ∷ []) y) ∙ h)) [
      | inl old ↦ inl old
      | inr new ↦ inr (exact_unsigned_eq x y (sym (or_false (eqb x y)) ∙ new))
    ]

climbs-more : (xs : List ℕ) (x : ℕ) → Climbs xs → ((y : ℕ) → contains_number xs y ≡ true → y < x) → Climbs (xs ++ x ∷ [])
climbs-more [] x h low = (λ y is. cc is, _)
climbs-more (z ∷ xs) x h low = (
  λ y is. elim (there-cases xs x y is) [
    | inl old ↦ h.0 y old
    | inr new ↦ (let l = low z (ap (λ b. b || contains_number xs z) (eqb_true z z refl)) in omega (arith, l, new))
  ],
  climbs-more xs x h.1 (λ y is. low y (or_right (eqb z y) _ is)),
)

once-there : (xs : List ℕ) (x : ℕ) → contains_number (once_more x xs) x ≡ true
once-there xs x = by (contains_number xs x) refl
  where
    by : (b : Bool) → contains_number xs x ≡ b → contains_number (cond b xs (xs ++ x ∷ [])) x ≡ true
    by true is = is
    by false is = contains_middle xs [] x

once-stays : (xs : List ℕ) (x y : ℕ) → contains_number xs y ≡ true → contains_number (once_more x xs) y ≡ true
once-stays xs x y h = by (contains_number xs x)
  where
    by : (b : Bool) → contains_number (cond b xs (xs ++ x ∷ [])) y ≡ true
    by true = h
    by false = contains_append xs (x ∷ []) y ∙ or_left (contains_number xs y) _ h

once-cases : (xs : List ℕ) (x y : ℕ) → contains_number (once_more x xs) y ≡ true → (contains_number xs y ≡ true) ⊎ (x ≡ y)
once-cases xs x y = by (contains_number xs x)
  where
    by : (b : Bool) → contains_number (cond b xs (xs ++ x ∷ [])) y ≡ true → (contains_number xs y ≡ true) ⊎ (x ≡ y)
    by true h = inl h
    by false h = there-cases xs x y h

once-climbs : (xs : List ℕ) (x : ℕ) → Climbs xs → ((y : ℕ) → contains_number xs y ≡ true → y ≤ x) → Climbs (once_more x xs)
once-climbs xs x h low = by (contains_number xs x) refl
  where
    by : (b : Bool) → contains_number xs x ≡ b → Climbs (cond b xs (xs ++ x ∷ []))
    by true is = h
    by false is = climbs-more xs x h (λ y there.
        let l = low y there in
        elim (cases_eq y x) [
          | inl same ↦ (let no : true ≡ false = sym there ∙ ap (contains_number xs) same ∙ is in cc no)
          | inr other ↦ omega (arith, l, other)
        ])

module _ (shown : ℕ) (feeds : List (Vec Feed Global)) (at place : ℕ) (f : Feed) (arc : Arc) (w w' : Wires)
    (are : AreFeeds shown feeds) (there : slice_get (feeds_of feeds at) place ≡ Some f) (of : IsOf (Some arc) (Some f)) (to : arc.to ≡ at) (stands : arc.place ≡ place)
    (i : IsJoining shown feeds at place w) (adds : AddsArc arc w w') where
  abbrev k : ℕ
  k = length w.arcs.items

  many : length w'.arcs.items ≡ k + 1
  many = ap length adds.arcs ∙ length_more w.arcs.items arc

  row-same : (actor : ℕ) → actor ≡ at → arcs_read w' actor ≡ arcs_read w actor ++ k ∷ []
  row-same actor is = adds.inputs.added actor ∙ ap (λ b. cond b (arcs_read w actor ++ k ∷ []) (arcs_read w actor)) (eqb_true actor arc.to (is ∙ sym to))

  row-other : (actor : ℕ) → actor ≢ at → arcs_read w' actor ≡ arcs_read w actor
  row-other actor ne = adds.inputs.added actor ∙ ap (λ b. cond b (arcs_read w actor ++ k ∷ []) (arcs_read w actor)) (eqb-not actor arc.to (λ e. ne (e ∙ to)))

  arc-old : (a : ℕ) → a < k → slice_get w'.arcs.items a ≡ slice_get w.arcs.items a
  arc-old a low = ap (λ xs. slice_get xs a) adds.arcs ∙ get-front w.arcs.items arc a low

  arc-new : slice_get w'.arcs.items k ≡ Some arc
  arc-new = ap (λ xs. slice_get xs k) adds.arcs ∙ get_next w.arcs.items arc []

  abbrev IsNew : ℕ → ℕ → ℕ → Type 0
  IsNew actor port a = (actor ≡ at) × (port ≡ place) × (k ≡ a)

  read-cases : (actor port a : ℕ) → slice_get (arcs_read w' actor) port ≡ Some a → (slice_get (arcs_read w actor) port ≡ Some a) ⊎ IsNew actor port a
  read-cases actor port a is =
      elim (cases_eq actor at) [
        | inl same ↦ elim (get-cases (arcs_read w actor) k port a (ap (λ xs. slice_get xs port) (sym (row-same actor same)) ∙ is)) [
          | inl old ↦ inl old
          | inr new ↦ inr (same, new.0 ∙ ap (λ x. length (arcs_read w x)) same ∙ i.now, new.1)
        ]
        | inr other ↦ inl (ap (λ xs. slice_get xs port) (sym (row-other actor other)) ∙ is)
      ]

  arcs-in : (actor port a : ℕ) → slice_get (arcs_read w' actor) port ≡ Some a → a < length w'.arcs.items
  arcs-in actor port a is =
      elim (read-cases actor port a is) [
        | inl old ↦ (let low = i.arcs_in actor port a old in omega (arith, low, many))
        | inr new ↦ (let e = new.2 in omega (arith, e, many))
      ]

  -- a property of an arc, of an old one or of the new one
  by-arc : (P : ℕ → Option Arc → Type 0) (a : ℕ) → a < length w'.arcs.items → (a < k → P a (slice_get w.arcs.items a)) → P k (Some arc) → P a (slice_get w'.arcs.items a)
  by-arc P a low old new =
      elim (cases_lt a k) [
        | inl less ↦ subst (P a) (sym (arc-old a less)) (old less)
        | inr past ↦ (let e : k ≡ a = omega (arith, past, low, many) in subst (λ b. P b (slice_get w'.arcs.items b)) e (subst (P k) (sym arc-new) new))
      ]

  from-in : (a : ℕ) → a < length w'.arcs.items → IsGiver shown (length feeds) (from_of (slice_get w'.arcs.items a))
  from-in a low = by-arc (λ b o. IsGiver shown (length feeds) (from_of o)) a low (i.from_in a) (subst (IsGiver shown (length feeds)) (sym of.0) (are.from_in at place f there))

  -- and of an arc that is read at a port
  by-read : (P : ℕ → ℕ → Option Arc → Type 0) → ((actor port a : ℕ) → slice_get (arcs_read w actor) port ≡ Some a → P actor port (slice_get w.arcs.items a)) → P at place (Some arc)
      → (actor port a : ℕ) → slice_get (arcs_read w' actor) port ≡ Some a → P actor port (slice_get w'.arcs.items a)
  by-read P old new actor port a is =
      elim (read-cases actor port a is) [
        | inl was ↦ subst (P actor port) (sym (arc-old a (i.arcs_in actor port a was))) (old actor port a was)
        | inr here ↦ subst (λ b. P actor port (slice_get w'.arcs.items b)) here.2
            (subst (P actor port) (sym arc-new) (subst (λ x. P x port (Some arc)) (sym here.0) (subst (λ p. P at p (Some arc)) (sym here.1) new)))
      ]

  abbrev Said : ℕ → ℕ → Option Arc → ℕ
  Said actor port o = cond (eqb actor (from_of o)) (cond (eqb port (arc_port o)) 1 0) 0

  none-yet : (actor port : ℕ) → times_in k (arcs_from w actor port) ≡ 0
  none-yet actor port = times-none k (arcs_from w actor port) (λ p x is. i.readers_in actor port p x is)

  read : (actor port a : ℕ) → a < length w'.arcs.items → times_in a (arcs_from w' actor port) ≡ Said actor port (slice_get w'.arcs.items a)
  read actor port a low =
      let row = arcs_from w actor port in
      let b = eqb actor arc.from in
      let c = eqb port arc.port in
      ap (times_in a) (adds.readers.added actor port) ∙ times-cell a k b c row
      ∙ by-arc (λ x o. times_in x row + cond b (cond c (cond (eqb k x) 1 0) 0) 0 ≡ Said actor port o) a low
      (λ less. let away : k ≢ a = omega (arith, less) in
      let none = none-said b c in
      let old = i.read actor port a less in
      ap (λ t. times_in a row + cond b (cond c (cond t 1 0) 0) 0) (eqb-not k a away) ∙ (omega (arith, none, old)))
      (let none = none-yet actor port in ap (λ t. times_in k row + cond b (cond c (cond t 1 0) 0) 0) (eqb_true k k refl) ∙ (omega (arith, none)))

  readers-in : (actor port p a : ℕ) → slice_get (arcs_from w' actor port) p ≡ Some a → a < length w'.arcs.items
  readers-in actor port p a is =
      elim (get-cell k (eqb actor arc.from) (eqb port arc.port) (arcs_from w actor port) p a (ap (λ xs. slice_get xs p) (sym (adds.readers.added actor port)) ∙ is)) [
        | inl old ↦ (let low = i.readers_in actor port p a old in omega (arith, low, many))
        | inr new ↦ omega (arith, new, many)
      ]

  length-other : (actor : ℕ) → actor ≢ at → length (arcs_read w' actor) ≡ length (arcs_read w actor)
  length-other actor ne = ap length (row-other actor ne)

  -- the followers of an actor are as before, or they are those of where the new arc comes from
  by-follower : (P : List ℕ → Type 0) (actor : ℕ) → P (followers_of w actor) → (actor ≡ arc.from → P (once_more arc.to (followers_of w actor))) → P (followers_of w' actor)
  by-follower P actor old new =
      elim (cases_eq actor arc.from) [
        | inl same ↦ subst P (sym (adds.followers.added actor ∙ ap (λ b. cond b (once_more arc.to (followers_of w actor)) (followers_of w actor)) (eqb_true actor arc.from same))) (new same)
        | inr other ↦ subst P (sym (adds.followers.added actor ∙ ap (λ b. cond b (once_more arc.to (followers_of w actor)) (followers_of w actor)) (eqb-not actor arc.from other))) old
      ]

  followed : (a : ℕ) → a < length w'.arcs.items → contains_number (followers_of w' (from_of (slice_get w'.arcs.items a))) (to_of (slice_get w'.arcs.items a)) ≡ true
  followed a low = by-arc (λ b o. contains_number (followers_of w' (from_of o)) (to_of o) ≡ true) a low
      (λ less. by-follower (λ l. contains_number l (to_of (slice_get w.arcs.items a)) ≡ true) (from_of (slice_get w.arcs.items a)) (i.followed a less)
      (λ same. once-stays (followers_of w (from_of (slice_get w.arcs.items a))) arc.to (to_of (slice_get w.arcs.items a)) (i.followed a less)))
      (ap (λ l. contains_number l arc.to) (adds.followers.added arc.from ∙ ap (λ b. cond b (once_more arc.to (followers_of w arc.from)) (followers_of w arc.from)) (eqb_true arc.from arc.from refl))
      ∙ once-there (followers_of w arc.from) arc.to)

  followers-low : (actor follower : ℕ) → contains_number (followers_of w' actor) follower ≡ true → 8 * follower < 8 * at + (place + 1)
  followers-low actor follower = by-follower (λ l. contains_number l follower ≡ true → 8 * follower < 8 * at + (place + 1)) actor
      (λ h. let low = i.followers_low actor follower h in omega (arith, low))
      (λ same h. elim (once-cases (followers_of w actor) arc.to follower h) [
        | inl old ↦ (let low = i.followers_low actor follower old in omega (arith, low))
        | inr new ↦ omega (arith, new, to)
      ])

  -- a follower that stands already isn't behind this operator
  upto-here : (actor follower : ℕ) → contains_number (followers_of w actor) follower ≡ true → follower ≤ arc.to
  upto-here actor follower h = (let low = i.followers_low actor follower h in let few = place-few in omega (arith, low, few, to))
    where
      place-few : place < 8
      place-few = (let low = slice_get_within (feeds_of feeds at) place f there in let few = are.ports at in omega (arith, low, few))

  -- one more arc of this operator
  pub joining-more : IsJoining shown feeds at (place + 1) w'
  joining-more =
      record {
        inputs_len = adds.inputs.len ∙ i.inputs_len;
        readers_len = adds.readers.len ∙ i.readers_len;
        count = (let c = i.count in omega (arith, c, many));
        before = λ actor low. length-other actor (omega (arith, low)) ∙ i.before actor low;
        now = ap length (row-same at refl) ∙ length_more (arcs_read w at) k ∙ ap (λ n. n + 1) i.now;
        later = λ actor high. length-other actor (omega (arith, high)) ∙ i.later actor high;
        arcs_in = arcs-in;
        from_in = from-in;
        joined = by-read (λ actor port o. (to_of o ≡ actor) × (arc_place o ≡ port)) i.joined (to, stands);
        fed = by-read (λ actor port o. IsOf o (slice_get (feeds_of feeds actor) port)) i.fed (subst (IsOf (Some arc)) (sym there) of);
        read = read;
        readers_in = readers-in;
        followers_len = adds.followers.len ∙ i.followers_len;
        followed = followed;
        followers_low = followers-low;
        climbs = λ actor. by-follower Climbs actor (i.climbs actor) (λ same. once-climbs (followers_of w actor) arc.to (i.climbs actor) (upto-here actor));
      }

pub fixed-more : (a b c : Wires) → Fixed a b → Fixed b c → Fixed a c
fixed-more a b c f g = record { replay = g.replay ∙ f.replay; sheds = g.sheds ∙ f.sheds; shown = g.shown ∙ f.shown; order = g.order ∙ f.order }
