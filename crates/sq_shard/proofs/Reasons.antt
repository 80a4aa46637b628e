-- Where a stream has no known value, some box is the reason: what it takes is known, and what it gives is not.
use Rattle.std.proofs.Common.{◌≡◌, ℕ, ◌<◌, Bool, true, false, not, ◌&&◌, List, [], ◌∷◌, length, Option, Some, None, slice_get, refl, ap, sym, ◌∙◌, subst}
use Rattle.std.specs.List.{list_all, All, AllByRecursion}
use Rattle.std.proofs.lemmas.List.Elements.{recursion_from_All}
use Rattle.sq_words.proofs.Alls.{all_at}
use Rattle.sq_graph.specs.declared.BoxWires.{BoxWires}
use Rattle.sq_graph.specs.Wires.{producer_of, inputs_of, inputs_at}
use Rattle.sq_graph.specs.declared.Producer.TheVariants.{Source, Port}
use Rattle.sq_graph.specs.Order.{is_there}
use Rattle.sq_graph.proofs.Reach.{port_is_box}
use Rattle.sq_net.specs.declared.Network.{Network}
use Rattle.sq_model.specs.PlacedNetworks.{IsPlaced}
use Rattle.sq_shard.proofs.InOrder.{by-order}

module _ (n : Network) (placed : IsPlaced n) where
  pub inputs-there : (at : ℕ) → AllByRecursion (λ s. is_there (producer_of n.wires s) ≡ true) (inputs_of n.wires at)
  inputs-there at = taken (slice_get n.wires.boxes at) refl
    where
      taken : (o : Option BoxWires) → slice_get n.wires.boxes at ≡ o → AllByRecursion (λ s. is_there (producer_of n.wires s) ≡ true) (inputs_at o)
      taken None e = tt
      taken (Some b) e =
          recursion_from_All (λ s. is_there (producer_of n.wires s) ≡ true) b.inputs
          (all_at (λ (b : BoxWires). All (λ s. is_there (producer_of n.wires s) ≡ true) b.inputs) n.wires.boxes at b
          (recursion_from_All (λ (b : BoxWires). All (λ s. is_there (producer_of n.wires s) ≡ true) b.inputs) n.wires.boxes placed.wired) e)

  -- known: of each stream; gives: whether what a box gives is known
  module _ (known gives : ℕ → Bool) (of-source : (s k : ℕ) → producer_of n.wires s ≡ Some (Source k) → known s ≡ true)
      (of-port : (s at port : ℕ) → producer_of n.wires s ≡ Some (Port at port) → known s ≡ gives at) where
    abbrev Reason : Type 0
    Reason = (at : ℕ) × (at < length n.boxes) × ((list_all known (inputs_of n.wires at) && not (gives at)) ≡ true)

    abbrev Named : ℕ → Type 0
    Named s = is_there (producer_of n.wires s) ≡ true → known s ≡ false → Reason

    unknown-named : (inputs : List ℕ) → AllByRecursion Named inputs → AllByRecursion (λ s. is_there (producer_of n.wires s) ≡ true) inputs → list_all known inputs ≡ false → Reason
    unknown-named [] all there h = absurd (cc h)
    unknown-named (s ∷ inputs) all there h = first (known s) refl h (unknown-named inputs all.1 there.1)
      where
        first : (b : Bool) → known s ≡ b → (b && list_all known inputs) ≡ false → (list_all known inputs ≡ false → Reason) → Reason
        first true e h more = more h
        first false e h more = all.0 there.0 e

    by-none : (s : ℕ) → producer_of n.wires s ≡ None → Named s
    by-none s is there unknown = let no : false ≡ true = sym (ap is_there is) ∙ there in absurd (cc no)

    by-source : (s k : ℕ) → producer_of n.wires s ≡ Some (Source k) → Named s
    by-source s k is there unknown = let no : true ≡ false = sym (of-source s k is) ∙ unknown in absurd (cc no)

    by-port : (s at port : ℕ) → producer_of n.wires s ≡ Some (Port at port) → AllByRecursion Named (inputs_of n.wires at) → Named s
    by-port s at port is all there unknown = by_inputs (list_all known (inputs_of n.wires at)) refl
      where
        by_inputs : (b : Bool) → list_all known (inputs_of n.wires at) ≡ b → Reason
        by_inputs true e = (
          at,
          subst (λ k. at < k) placed.boxes (port_is_box n.wires s at port is),
          ap (λ b. b && not (gives at)) e ∙ ap not (sym (of-port s at port is) ∙ unknown),
        )
        by_inputs false e = unknown-named (inputs_of n.wires at) all (inputs-there at) e

    pub named : (s : ℕ) → Named s
    named s = by-order n placed Named by-none by-source by-port s
