-- The full stream at a drop point is that of its own arcs.
use Rattle.std.proofs.Common.{◌≡◌, true, [], ◌∷◌, length, get_or, Some, refl, ap, sym, ◌∙◌, subst}
use Rattle.std.specs.Prelude.{slice_get}
use Rattle.std.proofs.lemmas.Option.{slice_get-get_or}
use Rattle.sq_oper.specs.Order.{merge}
use Rattle.sq_oper.specs.Streams.{things}
use Rattle.sq_graph.specs.Wires.{Arc, Output, arcs_of, producers_of}
use Rattle.sq_place.specs.declared.DropPoint.{DropPoint}
use Rattle.sq_place.specs.declared.DropAt.{DropAt}
use Rattle.sq_place.specs.declared.DropAt.TheVariants as at
use Rattle.sq_place.specs.Places.{stream_or, own_arcs}
use Rattle.sq_place.proofs.Apart.{one-only}
use Rattle.sq_model.specs.FullStreams.{full_on, full_arc, full_stream}
use Rattle.sq_model.specs.Shedding.{Replay, full_at}
use Rattle.sq_below.specs.ArcContents.{Drop, toward, drop_fed, DropsFit}
use Rattle.sq_start.specs.Numbers.{place_stream}
use Rattle.sq_start.proofs.PointLemmas.{OwnArc}
use Rattle.sq_words.specs.Lists.{contains_number}
use Rattle.sq_points.specs.Above.{drop_on_arc}

no_arc : Arc
no_arc = record { stream = 0; taker = Output 0 }

own-full : (r : Replay) (p : DropPoint) (o : OwnArc r.network p) → full_arc r.network r.sources o.arc ≡ full_at r p.at
own-full r p o = by p.at refl
  where
    there : slice_get (arcs_of r.network.wires) o.arc ≡ Some (get_or (arcs_of r.network.wires) o.arc no_arc)
    there = slice_get-get_or (arcs_of r.network.wires) o.arc no_arc o.there

    by : (place : DropAt) → p.at ≡ place → full_arc r.network r.sources o.arc ≡ full_at r p.at
    by (at.Stream s) is =
        ap (full_on r.network r.sources) there
        ∙ sym (ap (λ y. full_stream r.network r.sources (stream_or (length (producers_of r.network.wires)) y)) there)
        ∙ ap (full_stream r.network r.sources) (o.stream ∙ ap (place_stream r.network) is)
        ∙ ap (full_at r) (sym is)
    by (at.Arc x) is =
        let own : contains_number (own_arcs r.network.wires (at.Arc x)) o.arc ≡ true = subst (λ z. contains_number (own_arcs r.network.wires z) o.arc ≡ true) is o.own in
        ap (full_arc r.network r.sources) (sym (one-only x o.arc own)) ∙ ap (full_at r) (sym is)

-- a drop that stands on an own arc of a point is fed what the point's is
pub own-fed : (r : Replay) → DropsFit r → (p : DropPoint) (o : OwnArc r.network p) (d : Drop) → drop_on_arc r.network o.arc ≡ Some d → drop_fed r d.1 ≡ drop_fed r p
own-fed r drops p o d on =
    ap (λ z. merge (z ∷ [])) (drops.takes_full d.0 d.1 o.arc o.there on ∙ ap (λ z. toward r z o.arc) on ∙ ap things (own-full r p o))
