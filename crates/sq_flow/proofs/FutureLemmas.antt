-- Futures under weaker tests, and small facts of numbers and lists.
use Rattle.std.proofs.Common.{◌≡◌, ◌≢◌, ℕ, ◌+◌, ◌≤◌, eqb, cond, Bool, true, false, ◌||◌, List, [], ◌∷◌, ◌++◌, length, Option, Some, None, refl, ap, sym, ◌∙◌, subst, append_assoc, arith}
use Rattle.std.specs.Prelude.{slice_get, is_some}
use Rattle.std.proofs.lemmas.Option.{same_Some, slice_get_within}
use Rattle.sq_value.specs.declared.Value.{Value}
use Rattle.sq_words.specs.Lists.{IsPrefixOf}
use Rattle.sq_item.specs.declared.Item.{Item}
use Rattle.sq_item.specs.declared.Mark.{Mark}
use Rattle.sq_item.specs.SoundItems.{IsSoundItem}
use Rattle.sq_item.specs.Things.{Thing, Content, Sign, Body, spread, spread_all, mark_part, body_part}
use Rattle.sq_oper.specs.declared.tally.Position.{Position}
use Rattle.sq_oper.specs.Entries.{Entry, at_port}
use Rattle.sq_oper.specs.Order.{content_fits, AllFit, IsFuture}
use Rattle.sq_oper.specs.Outflow.{given, ItemsSound, ThingsUpTo}
use Rattle.sq_oper.proofs.GivenLemmas.{ThingsUpTo-split}
use Rattle.sq_left.specs.Remainder.{Net, Holding, Each}
use Rattle.sq_left.specs.Heads.{AllFine}
use Rattle.sq_left.proofs.MergeLemmas.{eqb-no, eqb-not}
use Rattle.sq_left.proofs.ActorSteps.{EachPort, PortFacts, taken_at}
use Rattle.sq_left.proofs.WorldSteps.{EachPort-from, Each-from, spread-not-before}
use Rattle.sq_paged.specs.Fronts.{first_time}
use Rattle.sq_flow.specs.Wiring.{pushed_by, AllOutsFine}
use Rattle.sq_heads.specs.Heads.{FirstNotBefore, NextUpTo}
use Rattle.sq_heads.specs.declared.Next.TheVariants.{Feed}
use Rattle.sq_left.proofs.HeadWords.{ItemsNotBefore}
use Rattle.std.proofs.lemmas.Map.Views.{exact_unsigned_eq}
use Rattle.sq_words.proofs.Numbers.{eqb_true}

load-weaker : (marks marks' : ℕ → Bool) (fits fits' : ℕ → List Value → Bool) (port : ℕ) (content : Content)
    → (marks port ≡ true → marks' port ≡ true) → ((fields : List Value) → fits port fields ≡ true → fits' port fields ≡ true)
    → content_fits marks fits port content ≡ true → content_fits marks' fits' port content ≡ true
load-weaker marks marks' fits fits' port (Sign mark) f g h = f h
load-weaker marks marks' fits fits' port (Body fields) f g h = g fields h

pub fit-weaker : (marks marks' : ℕ → Bool) (fits fits' : ℕ → List Value → Bool) (es : List Entry)
    → ((port : ℕ) → marks port ≡ true → marks' port ≡ true) → ((port : ℕ) (fields : List Value) → fits port fields ≡ true → fits' port fields ≡ true)
    → AllFit marks fits es → AllFit marks' fits' es
fit-weaker marks marks' fits fits' [] f g h = tt
fit-weaker marks marks' fits fits' (e ∷ es) f g h =
    (load-weaker marks marks' fits fits' e.port e.thing.content (f e.port) (g e.port) h.0, fit-weaker marks marks' fits fits' es f g h.1)

pub future-weaker : (marks marks' : ℕ → Bool) (fits fits' : ℕ → List Value → Bool) (place : Position) (es : List Entry)
    → ((port : ℕ) → marks port ≡ true → marks' port ≡ true) → ((port : ℕ) (fields : List Value) → fits port fields ≡ true → fits' port fields ≡ true)
    → IsFuture marks fits place es → IsFuture marks' fits' place es
future-weaker marks marks' fits fits' place es f g h = record { in_order = h.in_order; fitting = fit-weaker marks marks' fits fits' es f g h.fitting }

fit-port : (marks marks' : ℕ → Bool) (fits fits' : ℕ → List Value → Bool) (p : ℕ) (xs : List Thing)
    → (marks p ≡ true → marks' p ≡ true) → ((fields : List Value) → fits p fields ≡ true → fits' p fields ≡ true)
    → AllFit marks fits (at_port p xs) → AllFit marks' fits' (at_port p xs)
fit-port marks marks' fits fits' p [] f g h = tt
fit-port marks marks' fits fits' p (x ∷ xs) f g h = (load-weaker marks marks' fits fits' p x.content f g h.0, fit-port marks marks' fits fits' p xs f g h.1)

pub future-port : (marks marks' : ℕ → Bool) (fits fits' : ℕ → List Value → Bool) (place : Position) (p : ℕ) (xs : List Thing)
    → (marks p ≡ true → marks' p ≡ true) → ((fields : List Value) → fits p fields ≡ true → fits' p fields ≡ true)
    → IsFuture marks fits place (at_port p xs) → IsFuture marks' fits' place (at_port p xs)
future-port marks marks' fits fits' place p xs f g h = record { in_order = h.in_order; fitting = fit-port marks marks' fits fits' p xs f g h.fitting }

pub ports-from-head : (net : Net) (w : Holding) (items : ℕ → List Item) (place : ℕ → ℕ) (first : ℕ → Option ℕ) (ended : ℕ → Bool) (clock actor t p at : ℕ)
    → ((a : ℕ) → w.queue a ≡ spread_all (items a)) → ((a : ℕ) → AllFine clock (items a)) → ((a : ℕ) → first a ≡ first_time (items a))
    → ((port arc : ℕ) → slice_get (net.arcs actor) port ≡ Some arc → ended arc ≡ w.done (net.from arc))
    → ((port arc : ℕ) → slice_get (net.arcs actor) port ≡ Some arc → place arc ≡ port)
    → NextUpTo (net.arcs actor) first ended (length (net.arcs actor)) (Feed t p at)
    → EachPort (PortFacts net w t p at) 0 (net.arcs actor)
ports-from-head net w items place first ended clock actor t p at queue fine begins ends joined h =
    EachPort-from (PortFacts net w t p at) 0 (net.arcs actor) (λ port arc e.
    let zero_is : port ≡ 0 + port = omega arith in
    subst (λ q. PortFacts net w t p at q arc) zero_is (facts port arc e))
  where
    as-items : (done : Bool) (port : ℕ) (o : Option ℕ) (its : List Item) → o ≡ first_time its → FirstNotBefore done t p port o → ItemsNotBefore done t p port its
    as-items done port None [] e k = k
    as-items done port (Some u) [] e k = cc
    as-items done port None (i ∷ its) e k = cc
    as-items done port (Some u) (i ∷ its) e k = let same : u ≡ i.time = same_Some u i.time e in rw (← same) k

    facts : (port arc : ℕ) → slice_get (net.arcs actor) port ≡ Some arc → PortFacts net w t p at port arc
    facts port arc e =
        let test = h.3 port arc (slice_get_within (net.arcs actor) port arc e) e in
        let test' : FirstNotBefore (w.done (net.from arc)) t p port (first arc) = subst (λ d. FirstNotBefore d t p port (first arc)) (ends port arc e) test in
        record {
          is_fed = by (eqb port p) refl;
          head = rw (queue arc) (spread-not-before clock (w.done (net.from arc)) t p port (items arc) (fine arc) (as-items (w.done (net.from arc)) port (first arc) (items arc) (begins arc) test'));
        }
      where
        by : (b : Bool) → eqb port p ≡ b → eqb port p ≡ eqb arc at
        by true t =
            let same : arc ≡ at = same_Some arc at (sym e ∙ ap (slice_get (net.arcs actor)) (exact_unsigned_eq port p t) ∙ h.1) in
            t ∙ sym (eqb_true arc at same)
        by false t =
            let ne : arc ≢ at = λ same. eqb-no port p t (sym (joined port arc e) ∙ ap place same ∙ joined p at h.1) in
            t ∙ sym (eqb-not arc at ne)

pub moves-fed : (items mid : ℕ → List Item) (more new : ℕ → List Thing) (at : ℕ) (item : Item)
    → items at ≡ item ∷ mid at → ((a : ℕ) → a ≢ at → mid a ≡ items a)
    → (a : ℕ) → new a ≡ spread_all (mid a) ++ more a → spread_all (items a) ++ more a ≡ taken_at at (spread item) a ++ new a
moves-fed items mid more new at item whole others a e = by (eqb a at) refl
  where
    by : (b : Bool) → eqb a at ≡ b → spread_all (items a) ++ more a ≡ cond b (spread item) [] ++ new a
    by true t =
        let same : a ≡ at = exact_unsigned_eq a at t in
        let front : items a ≡ item ∷ mid a = rw same whole in
        ap (λ z. spread_all z ++ more a) front ∙ append_assoc (spread item) (spread_all (mid a)) (more a) ∙ ap (λ z. spread item ++ z) (sym e)
    by false t = ap (λ z. spread_all z ++ more a) (sym (others a (eqb-no a at t))) ∙ sym e

spread-time : (c : ℕ) (item : Item) → IsSoundItem item → ThingsUpTo c (spread item) → item.time ≤ c
spread-time c item s h = by item.mark item.body s.some h
  where
    by : (m : Option Mark) (b : Option (List Value)) → (is_some m || is_some b) ≡ true → ThingsUpTo c (mark_part item.time m ++ body_part item.time b) → item.time ≤ c
    by None None s h = cc
    by None (Some f) s h = h.0
    by (Some m) None s h = h.0
    by (Some m) (Some f) s h = h.0

pub outs-fine : (c : ℕ) (outs : List (ℕ × Item)) → ItemsSound outs → ((q : ℕ) → ThingsUpTo c (given q outs)) → AllOutsFine c outs
outs-fine c [] s h = tt
outs-fine c (out ∷ outs) s h =
    let own : ThingsUpTo c (cond (eqb out.0 out.0) (spread out.1) []) = (ThingsUpTo-split c (cond (eqb out.0 out.0) (spread out.1) []) (given out.0 outs) (h out.0)).0 in
    let own' : ThingsUpTo c (spread out.1) = rw (eqb_true out.0 out.0 refl) at own in (
      spread-time c out.1 s.0 own',
      s.0,
      outs-fine c outs s.1 (λ q. (ThingsUpTo-split c (cond (eqb out.0 q) (spread out.1) []) (given q outs) (h q)).1),
    )

pub own-pushed : (actor : ℕ) (outs : List (ℕ × Item)) (port : ℕ) → pushed_by actor outs actor port ≡ given port outs
own-pushed actor outs port = ap (λ b. cond b (given port outs) []) (eqb_true actor actor refl)

pub not-pushed : (actor other : ℕ) (outs : List (ℕ × Item)) → other ≢ actor → (port : ℕ) → pushed_by actor outs other port ≡ []
not-pushed actor other outs ne port = ap (λ b. cond b (given port outs) []) (eqb-not actor other (λ e. ne (sym e)))

-- the arc that is fed is no arc of another actor
pub apart-from : (net : Net) (to : ℕ → ℕ) (actor at p : ℕ) (xs : List Thing) → ((other port arc : ℕ) → slice_get (net.arcs other) port ≡ Some arc → to arc ≡ other)
    → slice_get (net.arcs actor) p ≡ Some at → (other : ℕ) → other ≢ actor → Each (λ a. taken_at at xs a ≡ []) (net.arcs other)
apart-from net to actor at p xs leads is other ne =
    Each-from (λ a. taken_at at xs a ≡ []) (net.arcs other) (λ port arc e.
    let away : arc ≢ at = λ same. ne (sym (leads other port arc e) ∙ ap to same ∙ leads actor p at is) in
    ap (λ b. cond b xs []) (eqb-not arc at away))

-- the first item that is taken leaves the rest fine
pub fine-after : (c at : ℕ) (items mid : ℕ → List Item) (item : Item) → items at ≡ item ∷ mid at → ((a : ℕ) → a ≢ at → mid a ≡ items a)
    → ((a : ℕ) → AllFine c (items a)) → (a : ℕ) → AllFine c (mid a)
fine-after c at items mid item whole others fine a = by (eqb a at) refl
  where
    by : (b : Bool) → eqb a at ≡ b → AllFine c (mid a)
    by true t =
        let same : a ≡ at = exact_unsigned_eq a at t in
        let front : AllFine c (item ∷ mid at) = subst (AllFine c) whole (fine at) in
        rw same front.2
    by false t = subst (AllFine c) (sym (others a (eqb-no a at t))) (fine a)

-- what was shown and is still to come stays what it was
pub goes-on : {A : Type 0} (shown pushed was is after : List A) → was ≡ pushed ++ is → after ≡ shown ++ pushed → shown ++ was ≡ after ++ is
goes-on shown pushed was is after e f = ap (λ z. shown ++ z) e ∙ sym (append_assoc shown pushed is) ∙ ap (λ z. z ++ is) (sym f)

-- a part of what was given is a prefix of what was given and is still to come
pub prefix-chain : {A : Type 0} (xs shown pushed was : List A) → IsPrefixOf xs (shown ++ pushed) → IsPrefixOf pushed was → IsPrefixOf xs (shown ++ was)
prefix-chain xs shown pushed was (k, e) (n, f) =
    (k ++ n, ap (λ z. shown ++ z) f ∙ sym (append_assoc shown pushed n) ∙ ap (λ z. z ++ n) e ∙ append_assoc xs k n)
