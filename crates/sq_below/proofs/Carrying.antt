-- What is carried, as an equation along the boxes.
use Rattle.std.proofs.Common.{◌≡◌, ℕ, cond, length, refl, ap, arith}
use Rattle.std.specs.Prelude.{slice_get}
use Rattle.sq_graph.specs.Wires.{input_arcs_of}
use Rattle.sq_place.specs.declared.DropPoint.{DropPoint}
use Rattle.sq_place.specs.Places.{own_arcs}
use Rattle.sq_model.specs.Shedding.{Replay}
use Rattle.sq_below.specs.ArcStreams.{nothing_tagged, given_by_drop, lags_at, carried_by, carried_within, carried, box_tagged_at}
use Rattle.sq_place.proofs.Lists.{map-agree}
use Rattle.sq_place.proofs.Climbs.{producer_at, fixed}
use Rattle.sq_place.proofs.Wires.{arcs-rise}
use Rattle.sq_words.specs.Lists.{contains_number}
use Rattle.sq_below.proofs.RankWords.{HasRanks}

-- what is carried, as an equation along the boxes
pub carried-fixed : (r : Replay) (sound : HasRanks r.network) (d : ℕ) (p : DropPoint) (a : ℕ)
    → carried r d p a ≡ cond (contains_number (own_arcs r.network.wires p.at) a) (given_by_drop r d p) (carried_by r d p (carried r d p) (producer_at r.network.wires a))
carried-fixed r sound d p a =
    fixed r.network.wires sound.rank (arcs-rise r.network.wires sound.rank sound.ranked) (contains_number (own_arcs r.network.wires p.at)) (given_by_drop r d p) nothing_tagged (carried_within r d p) (carried_by r d p)
    (λ a. refl) (λ n a. refl) (λ g. refl) (λ g s. refl)
    (λ g h b q e. ap (box_tagged_at (slice_get r.network.boxes b) q (lags_at r d p b)) (map-agree g h (input_arcs_of r.network.wires b) e)) (length r.network.wires.boxes) a
    (λ c q e. let x = sound.ranked.low (_) c q e in omega (arith, x))
