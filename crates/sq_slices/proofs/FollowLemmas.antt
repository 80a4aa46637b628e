-- The reaches that are worked out in rounds follow the boxes; and where a stream can't be sliced, some box is the reason.
use Rattle.std.proofs.Common.{◌≡◌, ℕ, suc, true, map, length, Option, Some, None, slice_get, refl, ap, ◌∙◌}
use Rattle.std.specs.Prelude.{is_some}
use Rattle.sq_words.specs.Lists.{numbers_to}
use Rattle.sq_graph.specs.Wires.{producers_of, producer_of, inputs_of}
use Rattle.sq_graph.specs.declared.Producer.TheVariants.{Source, Port}
use Rattle.sq_net.specs.declared.Network.{Network}
use Rattle.sq_model.specs.PlacedNetworks.{IsPlaced}
use Rattle.sq_shard.proofs.Reasons.{named}
use Rattle.sq_shard.proofs.RoundLemmas as rounds
use Rattle.sq_slices.specs.declared.Reach.{Reach}
use Rattle.sq_slices.specs.Reaches.{reach_numbered, reach_given, reach_of, reach_within, reaches_of, FollowsReaches, box_reach_at}
use Rattle.sq_slices.specs.Laws.{UncutAreNamed}

module _ (n : Network) (delay : Option ℕ) where
  port-alike : (f g : ℕ → Option Reach) (at port : ℕ) → map f (inputs_of n.wires at) ≡ map g (inputs_of n.wires at) → reach_given n delay f (Some (Port at port)) ≡ reach_given n delay g (Some (Port at port))
  port-alike f g at port e = ap (box_reach_at delay (slice_get n.boxes at)) e

  pub next-reaches : (k : ℕ) → map (λ s. reach_given n delay (reach_numbered (map (reach_within n delay k) (numbers_to (length (producers_of n.wires))))) (producer_of n.wires s)) (numbers_to (length (producers_of n.wires)))
      ≡ map (reach_within n delay (suc k)) (numbers_to (length (producers_of n.wires)))
  next-reaches = rounds.next-round n None (reach_given n delay) (λ f. refl) (λ f g k. refl) port-alike (reach_within n delay) (λ s. refl) (λ k s. refl)

  pub reaches-follow : IsPlaced n → FollowsReaches n delay (reach_numbered (reaches_of n delay))
  reaches-follow = rounds.follows n None (reach_given n delay) (λ f. refl) (λ f g k. refl) port-alike (reach_within n delay) (λ s. refl) (λ k s. refl)

  pub reach-of-follows : IsPlaced n → FollowsReaches n delay (reach_of n delay)
  reach-of-follows = rounds.settles n None (reach_given n delay) (λ f. refl) (λ f g k. refl) port-alike (reach_within n delay) (λ s. refl) (λ k s. refl)

module _ (n : Network) (placed : IsPlaced n) (delay : Option ℕ) (reaches : ℕ → Option Reach) (follows : FollowsReaches n delay reaches) where
  of-source : (s k : ℕ) → producer_of n.wires s ≡ Some (Source k) → is_some (reaches s) ≡ true
  of-source s k is = ap (λ (o : Option Reach). is_some o) (follows s ∙ ap (reach_given n delay reaches) is)

  of-port : (s at port : ℕ) → producer_of n.wires s ≡ Some (Port at port) → is_some (reaches s) ≡ is_some (box_reach_at delay (slice_get n.boxes at) (map reaches (inputs_of n.wires at)))
  of-port s at port is = ap (λ (o : Option Reach). is_some o) (follows s ∙ ap (reach_given n delay reaches) is)

  pub uncut-named : UncutAreNamed n delay reaches
  uncut-named =
      named n placed (λ s. is_some (reaches s)) (λ at. is_some (box_reach_at delay (slice_get n.boxes at) (map reaches (inputs_of n.wires at)))) of-source of-port
