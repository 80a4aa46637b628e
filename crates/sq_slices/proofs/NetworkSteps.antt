-- Box after box, in the order in which each stands behind what it takes.
use Rattle.std.proofs.Common.{◌≡◌, ℕ, true, List, map, slice_get, Option, Some, None, refl, ap, sym, ◌∙◌, subst}
use Rattle.std.specs.List.{AllByRecursion}
use Rattle.std.proofs.lemmas.List.Elements.{recursion_from_All}
use Rattle.sq_value.specs.declared.Tuple.{Tuple}
use Rattle.sq_words.specs.Lists.{nth, contains_number}
use Rattle.sq_model.proofs.Alls.{All-every}
use Rattle.sq_words.proofs.Alls.{all_at}
use Rattle.sq_graph.specs.Wires.{producer_of, inputs_of}
use Rattle.sq_graph.specs.declared.Producer.TheVariants.{Source, Port}
use Rattle.sq_net.specs.declared.Network.{Network}
use Rattle.sq_net.specs.declared.Node.{Node}
use Rattle.sq_net.specs.SoundNetworks.{IsSound, HasWindow}
use Rattle.sq_model.specs.FullStreams.{produced, full_stream, box_list_at}
use Rattle.sq_shard.proofs.Networks.{gives-all}
use Rattle.sq_shard.proofs.Parts.{contained}
use Rattle.sq_model.proofs.FullLemmas.{full_follows}
use Rattle.sq_model.proofs.PlacedLemmas.{placed_of}
use Rattle.sq_shard.proofs.InOrder.{by-order}
use Rattle.sq_slices.specs.declared.Reach.{Reach}
use Rattle.sq_slices.specs.Slices.{SourcesAgree}
use Rattle.sq_slices.specs.Reaches.{own_reach, union_reach, box_reach_at, reach_given, FollowsReaches}
use Rattle.sq_slices.specs.Laws.{FedWithinAt, AreInTime, AnswersSlices, SlicesAnswerSlices}
use Rattle.sq_slices.proofs.ReachLemmas.{Agreed, AgreedIf, AllAgreed, own-agreed, union-agreed}
use Rattle.sq_slices.proofs.BoxSteps.{IsFedInTime, Law, box-step}

pub fed-in-time : (n : Network) → IsSound n → (delay : Option ℕ) (sources : List (List Tuple)) → AreInTime n delay sources
    → (at : ℕ) (b : Node) → slice_get n.boxes at ≡ Some b → IsFedInTime delay b.body (nth (map (full_stream n sources) (inputs_of n.wires at)) 0)
fed-in-time n sound None sources calm at b there = tt
fed-in-time n sound (Some delay) sources calm at b there = (
  gives-all n sound sources calm.0 at b there b.body refl,
  subst (λ o. FedWithinAt delay o (nth (map (full_stream n sources) (inputs_of n.wires at)) 0)) there (calm.1 at),
)

pub moved : (lo hi : ℕ) (o p : Option Reach) (xs vs ys ws : List Tuple) → o ≡ p → xs ≡ vs → ys ≡ ws → AgreedIf lo hi p vs ws → AgreedIf lo hi o xs ys
moved lo hi o p xs vs ys ws e f g h =
    subst (λ q. AgreedIf lo hi q xs ys) (sym e) (subst (λ zs. AgreedIf lo hi p zs ys) (sym f) (subst (λ zs. AgreedIf lo hi p vs zs) (sym g) h))

module _ (n : Network) (sound : IsSound n) (delay : Option ℕ) (reaches : ℕ → Option Reach) (follows : FollowsReaches n delay reaches)
    (sources part : List (List Tuple)) (lo hi : ℕ) (agree : SourcesAgree lo hi sources part) (calm : AreInTime n delay sources) (mine : AreInTime n delay part) where
  abbrev Holds : ℕ → Type 0
  Holds s = Law lo hi reaches (full_stream n sources) (full_stream n part) s

  box-holds : (at port : ℕ) (o : Option Node) → slice_get n.boxes at ≡ o → AllByRecursion Holds (inputs_of n.wires at)
      → AgreedIf lo hi (box_reach_at delay o (map reaches (inputs_of n.wires at))) (box_list_at o port (map (full_stream n sources) (inputs_of n.wires at))) (box_list_at o port (map (full_stream n part) (inputs_of n.wires at)))
  box-holds at port None e all = tt
  box-holds at port (Some b) e all =
      box-step lo hi reaches (full_stream n sources) (full_stream n part) delay b.body port (inputs_of n.wires at)
      (all_at (λ (b : Node). HasWindow b.body) n.boxes at b (recursion_from_All (λ (b : Node). HasWindow b.body) n.boxes sound.windows) e) all
      (fed-in-time n sound delay sources calm at b e) (fed-in-time n sound delay part mine at b e)

  full-given : (s : ℕ) → full_stream n sources s ≡ produced n sources (full_stream n sources) (producer_of n.wires s)
  full-given = full_follows n sources (placed_of n sound)

  part-given : (s : ℕ) → full_stream n part s ≡ produced n part (full_stream n part) (producer_of n.wires s)
  part-given = full_follows n part (placed_of n sound)

  by-none : (s : ℕ) → producer_of n.wires s ≡ None → Holds s
  by-none s is =
      moved lo hi (reaches s) None (full_stream n sources s) (produced n sources (full_stream n sources) None) (full_stream n part s) (produced n part (full_stream n part) None)
      (follows s ∙ ap (reach_given n delay reaches) is) (full-given s ∙ ap (produced n sources (full_stream n sources)) is) (part-given s ∙ ap (produced n part (full_stream n part)) is) tt

  by-source : (s k : ℕ) → producer_of n.wires s ≡ Some (Source k) → Holds s
  by-source s k is =
      moved lo hi (reaches s) (Some own_reach) (full_stream n sources s) (nth sources k) (full_stream n part s) (nth part k)
      (follows s ∙ ap (reach_given n delay reaches) is) (full-given s ∙ ap (produced n sources (full_stream n sources)) is) (part-given s ∙ ap (produced n part (full_stream n part)) is)
      (own-agreed lo hi (nth sources k) (nth part k) (agree k))

  by-port : (s at port : ℕ) → producer_of n.wires s ≡ Some (Port at port) → AllByRecursion Holds (inputs_of n.wires at) → Holds s
  by-port s at port is all =
      moved lo hi (reaches s) (box_reach_at delay (slice_get n.boxes at) (map reaches (inputs_of n.wires at)))
      (full_stream n sources s) (produced n sources (full_stream n sources) (Some (Port at port))) (full_stream n part s) (produced n part (full_stream n part) (Some (Port at port)))
      (follows s ∙ ap (reach_given n delay reaches) is) (full-given s ∙ ap (produced n sources (full_stream n sources)) is) (part-given s ∙ ap (produced n part (full_stream n part)) is)
      (box-holds at port (slice_get n.boxes at) refl all)

  agreed : (s : ℕ) → Holds s
  agreed s = by-order n (placed_of n sound) Holds by-none by-source by-port s

pub slices-answer : (n : Network) → IsSound n → (delay : Option ℕ) (reaches : ℕ → Option Reach) → FollowsReaches n delay reaches → SlicesAnswerSlices n delay reaches
slices-answer n sound delay reaches follows s r is sources part lo hi agree calm mine =
    (subst (λ o. AgreedIf lo hi o (full_stream n sources s) (full_stream n part s)) is (agreed n sound delay reaches follows sources part lo hi agree calm mine s)).1

-- several streams, in slices that reach as far as all of them do
pub all-answer : (n : Network) → IsSound n → (delay : Option ℕ) (reaches : ℕ → Option Reach) → FollowsReaches n delay reaches
    → (streams : List ℕ) (r : Reach) → union_reach (map reaches streams) ≡ Some r → (s : ℕ) → contains_number streams s ≡ true → AnswersSlices n delay s r
all-answer n sound delay reaches follows streams r is s has sources part lo hi agree calm mine =
    let all = union-agreed lo hi (full_stream n sources) (full_stream n part) reaches streams
    (All-every (Law lo hi reaches (full_stream n sources) (full_stream n part)) (agreed n sound delay reaches follows sources part lo hi agree calm mine) streams) in
    let each = (subst (λ o. AllAgreed lo hi (full_stream n sources) (full_stream n part) o streams) is all).1 in
    (contained (λ s. Agreed lo hi r (full_stream n sources s) (full_stream n part s)) streams s each has).1
