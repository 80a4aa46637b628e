use Rattle.std.proofs.Common.{◌∙◌, List, ℕ, length, map, ap, sym, subst, refl, arith}
use Rattle.std.specs.List.{All}
use Rattle.std.proofs.lemmas.List.{length-map}
use Rattle.sq_value.specs.declared.Tuple.{Tuple}
use Rattle.sq_value.specs.Values.{IsStream}
use Rattle.sq_graph.specs.Wires.{Arc, arcs_of}
use Rattle.sq_place.specs.declared.DropPoint.{DropPoint}
use Rattle.sq_place.specs.Points.{point_at}
use Rattle.sq_place.specs.Places.{drop_places_of}
use Rattle.sq_place.proofs.Final.{drops-few}
use Rattle.sq_points.specs.Points.{windows_of}
use Rattle.sq_points.proofs.Bounds.{few_arcs, few_places}
use Rattle.sq_model.specs.FullStreams.{full_streams}
use Rattle.sq_model.specs.GivenLevels.{IsMeasured}
use Rattle.sq_model.proofs.ArcLemmas.{arcs_carry}
use Rattle.sq_model.proofs.PlacedLemmas.{placed_of}
use Rattle.sq_model.proofs.StreamLemmas.{full_are_streams}
use Rattle.sq_model.proofs.MeasuredLemmas.{all-measured}
use Rattle.sq_model.proofs.known.known_of.Goals as goal
use Rattle.sq_words.proofs.Lists.{length_map}

pub full_streams-requires-clause-placed : goal.full_streams-requires-clause-placed
full_streams-requires-clause-placed c = placed_of c.args.n.now c.requires.sound

pub full_streams-requires-clause-sources : goal.full_streams-requires-clause-sources
full_streams-requires-clause-sources c =
    let same = ap (λ (xs : List (List Tuple)). length xs) c.in_ok-copies.ensures in
    let one = length-map c.in_ok-copies.field-0.items (λ t. t.items) in
    let two = length-map c.args.sources.now (λ t. t.items) in
    let lists = c.requires.lists in
    let wired = c.requires.sound.agrees.sources in
    omega (arith, same, one, two, lists, wired)

pub returns-clause-safe : goal.returns-clause-safe
returns-clause-safe c =
    let n = c.args.n.now in
    let streams = c.in_ok-full_streams.ensures ∙ ap (full_streams n) c.in_ok-copies.ensures in
    record {
      streams = subst (All IsStream) (sym streams) (full_are_streams n (map (λ t. t.items) c.args.sources.now) c.requires.streams);
      measured = subst (All IsMeasured) (sym c.in_ok-points.ensures) (all-measured n c.requires.sound c.requires.limits);
      few_points =
          (let same = ap (λ (ps : List DropPoint). length ps) c.in_ok-points.ensures in
          let many = length_map (point_at n.wires (windows_of n) n.batch) (drop_places_of n.wires (windows_of n)) in
          let few = drops-few n.wires (windows_of n) in
          let all = few_places n c.requires.sound in
          omega (arith, same, many, few, all));
      few_arcs =
          (let same = ap (λ (as' : List ℕ). length as') (c.in_ok-arc_streams.ensures ∙ sym (arcs_carry n.wires)) in
          let many = length-map (arcs_of n.wires) (λ (a : Arc). a.stream) in
          let few = few_arcs n c.requires.sound in
          omega (arith, same, many, few));
      closed = c.in_ok-levels.ensures.closed;
    }

pub returns-clause-known : goal.returns-clause-known
returns-clause-known c = record {
  sound = c.requires.sound;
  streams = c.in_ok-full_streams.ensures ∙ ap (full_streams c.args.n.now) c.in_ok-copies.ensures;
  arcs = c.in_ok-arc_streams.ensures ∙ sym (arcs_carry c.args.n.now.wires);
  points = c.in_ok-points.ensures;
  levels = c.in_ok-levels.ensures.levels c.args.seed;
  seed = refl;
}
