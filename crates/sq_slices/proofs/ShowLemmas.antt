-- What a slice shows where batches are dropped, by how far streams reach.
use Rattle.std.proofs.Common.{◌≡◌, ℕ, ◌+◌, ◌^◌, ◌≤◌, Bool, true, false, cond, List, [], ◌∷◌, length, slice_get, Option, Some, None, refl, ap, sym, ◌∙◌, subst, arith}
use Rattle.std.proofs.lemmas.Option.{slice_get_past}
use Rattle.std.proofs.lemmas.List.Elements.{recursion_from_All}
use Rattle.std.specs.List.{AllByRecursion}
use Rattle.sq_value.specs.declared.Tuple.{Tuple}
use Rattle.sq_words.specs.Lists.{contains_number, nth}
use Rattle.sq_graph.specs.Wires.{Arc, arcs_of, producers_of, output_arc_at}
use Rattle.sq_place.specs.declared.DropAt.{DropAt}
use Rattle.sq_place.specs.declared.DropAt.TheVariants as at
use Rattle.sq_place.specs.declared.DropPoint.{DropPoint}
use Rattle.sq_place.specs.Places.{stream_on, stream_or}
use Rattle.sq_net.specs.declared.Network.{Network}
use Rattle.sq_net.specs.SoundNetworks.{IsSound}
use Rattle.sq_points.specs.Above.{drop_above_output, first_drop}
use Rattle.sq_points.specs.Limits.{KeepsDropLimits}
use Rattle.sq_points.specs.Points.{points_of}
use Rattle.sq_points.proofs.Bounds.{at_least}
use Rattle.sq_model.specs.FullStreams.{produced, full_stream, full_on, full_arc}
use Rattle.sq_model.specs.Shedding.{Replay, answer_of, full_at}
use Rattle.sq_model.proofs.FullLemmas.{full_follows}
use Rattle.sq_model.proofs.MeasuredLemmas.{all-measured}
use Rattle.sq_model.proofs.PlacedLemmas.{placed_of}
use Rattle.sq_model.specs.GivenLevels.{IsMeasured}
use Rattle.sq_words.proofs.Alls.{all_at}
use Rattle.sq_words.proofs.Bools.{and_true}
use Rattle.sq_slices.specs.declared.Reach.{Reach}
use Rattle.sq_slices.specs.Slices.{AgreeIn, SourcesAgree, slice}
use Rattle.sq_slices.specs.Reaches.{FollowsReaches}
use Rattle.sq_slices.specs.Laws.{AreInTime}
use Rattle.sq_slices.specs.Drops.{of_part, batch_begin, kept_until, epoch_before, BatchesAgree, drops_begun, ReachesInto, PlaceReachesInto, DropReachesInto, DropsReachInto, SlicesShowTheRun}
use Rattle.sq_slices.proofs.SliceLemmas.{narrower}
use Rattle.sq_slices.proofs.NetworkSteps.{slices-answer}
use Rattle.sq_slices.proofs.DropLemmas.{drop-same, show-same}

module _ (n : Network) (sound : IsSound n) where
  -- what an arc has is what its stream has; where there is no arc, nothing
  arc-stream : (xs : List (List Tuple)) (a : ℕ) → full_arc n xs a ≡ full_stream n xs (stream_on n.wires a)
  arc-stream xs a = by (slice_get (arcs_of n.wires) a)
    where
      by : (o : Option Arc) → full_on n xs o ≡ full_stream n xs (stream_or (length (producers_of n.wires)) o)
      by None = sym (full_follows n xs (placed_of n sound) (length (producers_of n.wires)) ∙ ap (produced n xs (full_stream n xs)) (slice_get_past (producers_of n.wires) (length (producers_of n.wires)) (omega arith)))
      by (Some x) = refl

  module _ (delay : Option ℕ) (reaches : ℕ → Option Reach) (follows : FollowsReaches n delay reaches)
      (sources part : List (List Tuple)) (lo hi : ℕ) (agree : SourcesAgree lo hi sources part) (calm : AreInTime n delay sources) (mine : AreInTime n delay part) where
    pub stream-agrees : (s a b : ℕ) → ReachesInto reaches lo hi s a b → AgreeIn a b (full_stream n sources s) (full_stream n part s)
    stream-agrees s a b into =
        narrower a into.1 a b (omega arith) into.3 (full_stream n sources s) (full_stream n part s)
        (slices-answer n sound delay reaches follows s into.0 into.2 sources part lo hi agree calm mine a into.1 into.4 into.5 into.6)

    pub arc-agrees : (x a b : ℕ) → ReachesInto reaches lo hi (stream_on n.wires x) a b → AgreeIn a b (full_arc n sources x) (full_arc n part x)
    arc-agrees x a b into = ap (slice a b) (arc-stream sources x) ∙ stream-agrees (stream_on n.wires x) a b into ∙ sym (ap (slice a b) (arc-stream part x))

-- ---- drop points

-- a sound network's epochs move on, and the batches of its drop points too where they keep the limits
epoch-moves : (n : Network) → IsSound n → 1 ≤ n.epoch
epoch-moves n sound = at_least 1 (2 ^ 34) n.epoch (and_true _ _ (and_true _ _ (and_true _ _ (and_true _ _ (and_true _ _ (and_true _ _ sound.within).0).0).0).0).0).1

measured-at : (ps : List DropPoint) → AllByRecursion IsMeasured ps → (w : ℕ) (p : DropPoint) → slice_get ps w ≡ Some p → 1 ≤ p.length
measured-at ps all w p there = (all_at IsMeasured ps w p all there).least

-- the first drop that passes a test is one of them
first-measured : (t : DropPoint → Bool) (v : ℕ) (ps : List DropPoint) → AllByRecursion IsMeasured ps → (d : ℕ × DropPoint) → first_drop t v ps ≡ Some d → 1 ≤ (d.1).length
first-measured t v [] all d is = absurd (cc is)
first-measured t v (q ∷ qs) all d is = by (t q) is (first-measured t (v + 1) qs all.1 d)
  where
    by : (b : Bool) → cond b (Some (v, q)) (first_drop t (v + 1) qs) ≡ Some d → (first_drop t (v + 1) qs ≡ Some d → 1 ≤ (d.1).length) → 1 ≤ (d.1).length
    by true e more = let same : q ≡ d.1 = cc in subst (λ (x : DropPoint). 1 ≤ x.length) same (all.0).least
    by false e more = more e

module _ (r : Replay) (sound : IsSound r.network) (limits : KeepsDropLimits r.network) (delay : Option ℕ) (reaches : ℕ → Option Reach) (follows : FollowsReaches r.network delay reaches)
    (part : List (List Tuple)) (lo hi : ℕ) (agree : SourcesAgree lo hi r.sources part) (count : length part ≡ length r.sources)
    (calm : AreInTime r.network delay r.sources) (mine : AreInTime r.network delay part) (a b : ℕ) where
  measured : AllByRecursion IsMeasured (points_of r.network)
  measured = recursion_from_All IsMeasured (points_of r.network) (all-measured r.network sound limits)

  at-place : (p : DropAt) (u v : ℕ) → PlaceReachesInto r.network reaches lo hi p u v → AgreeIn u v (full_at r p) (full_at (of_part r part) p)
  at-place (at.Stream s) u v into = stream-agrees r.network sound delay reaches follows r.sources part lo hi agree calm mine s u v into
  at-place (at.Arc x) u v into = arc-agrees r.network sound delay reaches follows r.sources part lo hi agree calm mine x u v into

  batches : (w : ℕ) (p : DropPoint) → 1 ≤ p.length → DropReachesInto r reaches lo hi a b p → BatchesAgree r part a b (Some (w, p))
  batches w p some h = (
    some,
    epoch-moves r.network sound,
    count,
    at-place p.at (batch_begin p a) (kept_until p b) h.0,
    λ s. narrower lo hi (epoch_before r (batch_begin p a)) b h.1 h.2 (nth r.sources s) (nth part s) (agree s),
  )

  above : (o : ℕ) → DropsReachInto r reaches lo hi a b (drop_above_output r.network o) → BatchesAgree r part a b (drop_above_output r.network o)
  above o = by (drop_above_output r.network o) refl
    where
      by : (d : Option (ℕ × DropPoint)) → drop_above_output r.network o ≡ d → DropsReachInto r reaches lo hi a b d → BatchesAgree r part a b d
      by None is h = tt
      by (Some d) is h = batches d.0 d.1 (first-measured (λ p. contains_number p.outputs o) 0 (points_of r.network) measured d is) h

  pub shows : (o : ℕ) → ReachesInto reaches lo hi (stream_on r.network.wires (output_arc_at r.network.wires o)) a b → DropsReachInto r reaches lo hi a b (drop_above_output r.network o)
      → AgreeIn a b (answer_of r o) (answer_of (of_part r part) o)
  shows o output drop =
      show-same r part o a b (above o drop) (arc-agrees r.network sound delay reaches follows r.sources part lo hi agree calm mine (output_arc_at r.network.wires o) a b output)

  pub drops : (w : ℕ) (p : DropPoint) → slice_get (points_of r.network) w ≡ Some p → DropReachesInto r reaches lo hi a b p → drops_begun r w p a b ≡ drops_begun (of_part r part) w p a b
  drops w p there h = drop-same r part w p a b (batches w p (measured-at (points_of r.network) measured w p there) h)

pub show-run : (r : Replay) → IsSound r.network → KeepsDropLimits r.network → (delay : Option ℕ) (reaches : ℕ → Option Reach) → FollowsReaches r.network delay reaches → SlicesShowTheRun r delay reaches
show-run r sound limits delay reaches follows part lo hi agree count calm mine a b =
    (shows r sound limits delay reaches follows part lo hi agree count calm mine a b, drops r sound limits delay reaches follows part lo hi agree count calm mine a b)
