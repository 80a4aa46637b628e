-- Wires that were joined arc by arc are shaped.
use Rattle.std.proofs.Common.{◌≡◌, ◌≢◌, ℕ, zero, suc, ◌+◌, ◌<◌, ◌≤◌, eqb, cond, true, false, ◌||◌, List, [], ◌∷◌, length, Option, Some, None, Vec, slice_get, refl, ap, sym, ◌∙◌, subst, arith, inl, inr}
use Rattle.std.specs.declared.alloc.Global.{Global}
use Rattle.std.proofs.lemmas.Bool.{cases_lt, cases_eq}
use Rattle.sq_left.specs.Remainder.{Net, is_known_actor, IsLaidOut}
use Rattle.sq_left.proofs.MergeLemmas.{eqb-not}
use Rattle.sq_flow.specs.declared.wires.Arc.{Arc}
use Rattle.sq_flow.specs.declared.wires.Wires.{Wires}
use Rattle.sq_flow.specs.Wiring.{net_of, arcs_read, arcs_from, followers_of, Climbs, from_of, arc_port, times_in, IsShaped}
use Rattle.sq_core.specs.declared.join.Feed.{Feed}
use Rattle.sq_core.specs.Joining.{feeds_of, IsGiver, AreFeeds, CanJoin, IsOf, IsJoining, IsJoined, IsActorOrder, JoinsAll, ReadsEarlier, AllKnown, known_by, Fixed}
use Rattle.sq_left.proofs.WorldSteps.{Each-from}
use Rattle.sq_words.proofs.Numbers.{eqb_true}

-- a table has nothing past its end
pub no-feeds : (feeds : List (Vec Feed Global)) (actor : ℕ) → length feeds ≤ actor → feeds_of feeds actor ≡ []
no-feeds [] actor h = refl
no-feeds (x ∷ xs) zero h = absurd (omega (arith, h))
no-feeds (x ∷ xs) (suc actor) h = no-feeds xs actor (omega (arith, h))

known-same : (net : Net) (order : List ℕ) (actor : ℕ) → is_known_actor net order actor ≡ known_by net.replay order actor
known-same net [] actor = refl
known-same net (last ∷ earlier) actor = ap (λ b. eqb actor last || b) (known-same net earlier actor)

of-known : (replay : ℕ) (order : List ℕ) (fs : List Feed) (port : ℕ) (o : Option Arc) → AllKnown replay order fs → IsOf o (slice_get fs port) → known_by replay order (from_of o) ≡ true
of-known replay order fs port None all is = absurd is
of-known replay order [] port (Some arc) all is = absurd is
of-known replay order (f ∷ fs) zero (Some arc) all is = ap (known_by replay order) is.0 ∙ all.0
of-known replay order (f ∷ fs) (suc port) (Some arc) all is = of-known replay order fs port (Some arc) all.1 is

-- arcs of which each comes from another actor are none
none-from : (arcs : List ℕ) → ((arc : ℕ) → slice_get arcs 0 ≡ Some arc → times_in arc arcs ≡ 0) → arcs ≡ []
none-from [] h = refl
none-from (arc ∷ arcs) h =
    let one : ◌≡◌ {A = ℕ} (cond (eqb arc arc) 1 0) 1 = ap (λ b. cond b 1 0) (eqb_true arc arc refl) in
    let none = h arc refl in
    absurd (omega (arith, one, none))

giver-low : (shown ops actor : ℕ) → shown ≤ ops → IsGiver shown ops actor → actor < ops + 1
giver-low shown ops actor low (inl h) = omega (arith, low, h)
giver-low shown ops actor low (inr h) = omega (arith, h)

-- an output is no giver
no-giver : (shown ops actor : ℕ) → shown ≤ actor → actor < ops → IsGiver shown ops actor → ⊥
no-giver shown ops actor high low (inl h) = omega (arith, high, h)
no-giver shown ops actor high low (inr h) = omega (arith, low, h)

module _ (shown : ℕ) (feeds : List (Vec Feed Global)) (w : Wires) (are : AreFeeds shown feeds) (i : IsJoining shown feeds (length feeds) 0 w) (replay : w.replay ≡ length feeds) where
  wired : (order : List ℕ) → ReadsEarlier (length feeds) feeds order → IsLaidOut (net_of w) order
  wired [] h = _
  wired (last ∷ earlier) h = (
    λ e. h.0 (e ∙ replay),
    Each-from _ (arcs_read w last) (λ port arc is. (
      i.arcs_in last port arc is,
      known-same (net_of w) earlier (from_of (slice_get w.arcs.items arc))
          ∙ ap (λ r. known_by r earlier (from_of (slice_get w.arcs.items arc))) replay
          ∙ of-known (length feeds) earlier (feeds_of feeds last) port (slice_get w.arcs.items arc) h.1 (i.fed last port arc is),
    )),
    wired earlier h.2,
  )

  many : (actor : ℕ) → length (arcs_read w actor) ≡ length (feeds_of feeds actor)
  many actor =
      elim (cases_lt actor (length feeds)) [
        | inl low ↦ i.before actor low
        | inr past ↦ elim (cases_eq actor (length feeds)) [
          | inl same ↦ ap (λ x. length (arcs_read w x)) same ∙ i.now ∙ sym (ap length (no-feeds feeds actor past))
          | inr other ↦ i.later actor (omega (arith, past, other)) ∙ sym (ap length (no-feeds feeds actor past))
        ]
      ]

  joined-all : IsJoined feeds w
  joined-all = record { many = many; fed = i.fed }

  outputs-end : (actor port : ℕ) → shown ≤ actor → actor < length feeds → arcs_from w actor port ≡ []
  outputs-end actor port high low = none-from (arcs_from w actor port) (λ arc is.
      let there = i.readers_in actor port 0 arc is in
      let other : actor ≢ from_of (slice_get w.arcs.items arc) = λ e. no-giver shown (length feeds) actor high low (subst (IsGiver shown (length feeds)) (sym e) (i.from_in arc there)) in
      i.read actor port arc there ∙ ap (λ b. cond b (cond (eqb port (arc_port (slice_get w.arcs.items arc))) 1 0) 0) (eqb-not actor (from_of (slice_get w.arcs.items arc)) other))

  shaped-all : w.shown ≡ shown → w.sheds ≤ shown → shown ≤ length feeds → IsActorOrder (length feeds) feeds w.order.items → IsShaped w (length feeds)
  shaped-all same sheds low order =
      record {
        replay_is = replay;
        few = (let f = are.few in omega (arith, f));
        few_arcs = (let f = are.few in let c = i.count in omega (arith, f, c));
        sheds_in = omega (arith, same, sheds);
        shown_in = (omega (arith, same, low));
        inputs_len = i.inputs_len;
        readers_len = i.readers_len;
        arcs_in = i.arcs_in;
        ports = λ actor. (let m = many actor in let p = are.ports actor in omega (arith, m, p));
        from_in = λ arc there. giver-low shown (length feeds) (from_of (slice_get w.arcs.items arc)) low (i.from_in arc there);
        joined = i.joined;
        read = i.read;
        readers_in = i.readers_in;
        outputs_end = λ actor port high below. outputs-end actor port (omega (arith, same, high)) below;
        followers_len = i.followers_len;
        followed = i.followed;
        followers_in = λ actor follower h. (let f = i.followers_low actor follower h in omega (arith, f));
        followers_climb = i.climbs;
        wired = wired w.order.items order.earlier;
        listed = λ actor k. order.listed actor (sym (known-same (net_of w) w.order.items actor ∙ ap (λ r. known_by r w.order.items actor) replay) ∙ k);
        ordered = λ actor low. known-same (net_of w) w.order.items actor ∙ ap (λ r. known_by r w.order.items actor) replay ∙ order.ordered actor low;
      }

-- all ports of an operator are joined
pub joining-next : (shown : ℕ) (feeds : List (Vec Feed Global)) (at place : ℕ) (w : Wires) → AreFeeds shown feeds → IsJoining shown feeds at place w → place ≡ length (feeds_of feeds at) → IsJoining shown feeds (at + 1) 0 w
joining-next shown feeds at place w are i is =
    record {
      inputs_len = i.inputs_len;
      readers_len = i.readers_len;
      count = (let c = i.count in let p = are.ports at in omega (arith, c, p, is));
      before = λ actor low. elim (cases_lt actor at) [
        | inl less ↦ i.before actor less
        | inr past ↦ (let e : actor ≡ at = omega (arith, low, past) in subst (λ x. length (arcs_read w x) ≡ length (feeds_of feeds x)) (sym e) (i.now ∙ is))
      ];
      now = i.later (at + 1) (omega arith);
      later = λ actor high. i.later actor (omega (arith, high));
      arcs_in = i.arcs_in;
      from_in = i.from_in;
      joined = i.joined;
      fed = i.fed;
      read = i.read;
      readers_in = i.readers_in;
      followers_len = i.followers_len;
      followed = i.followed;
      followers_low = λ actor follower h. (let low = i.followers_low actor follower h in let p = are.ports at in omega (arith, low, p, is));
      climbs = i.climbs;
    }

-- wires that were joined to the last operator join all
pub joined-whole : (sheds shown : ℕ) (feeds : List (Vec Feed Global)) (order : Vec ℕ Global) (at : ℕ) (first w : Wires) → CanJoin sheds shown feeds order.items → at ≡ length feeds → IsJoining shown feeds at 0 w
    → Fixed first w → first.replay ≡ length feeds → first.sheds ≡ sheds → first.shown ≡ shown → first.order ≡ order → JoinsAll sheds shown feeds order w
joined-whole sheds shown feeds order at first w can is joining fixed replay drops outputs list =
    let all = subst (λ p. IsJoining shown feeds p 0 w) is joining in
    let end = fixed.replay ∙ replay in
    let low = can.sheds in
    let same = fixed.sheds ∙ drops in
    record {
      shaped = shaped-all shown feeds w can.feeds all end (fixed.shown ∙ outputs) (omega (arith, low, same)) can.shown (subst (λ o. IsActorOrder (length feeds) feeds o.items) (sym (fixed.order ∙ list)) can.order);
      joined = joined-all shown feeds w can.feeds all end;
      sheds = same;
      shown = fixed.shown ∙ outputs;
      order = fixed.order ∙ list;
    }
