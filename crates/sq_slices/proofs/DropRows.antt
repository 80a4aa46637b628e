-- Worked rows of the plans of a slice, and of the batches that it drops.
use Rattle.std.proofs.Common.{◌≡◌, refl, ℕ, List, [], ◌∷◌, map, Some, pos}
use Rattle.std.specs.Prelude.{codes}
use Rattle.rand_pcg.specs.Lcg.{state_after}
use Rattle.sq_value.specs.declared.Tuple.{Tuple}
use Rattle.sq_value.specs.declared.Kind.TheVariants as kind
use Rattle.sq_value.specs.declared.Value.TheVariants as value
use Rattle.sq_words.specs.Lists.{numbers_to}
use Rattle.sq_aggfn.specs.declared.Func.TheVariants as func
use Rattle.sq_graph.specs.declared.BoxKind.TheVariants as boxes
use Rattle.sq_lines.specs.LineTexts.{drop_line}
use Rattle.sq_net.specs.declared.Body.TheVariants.{Aggregate}
use Rattle.sq_net.specs.declared.Network.{Network}
use Rattle.sq_points.specs.Points.{points_of}
use Rattle.sq_model.specs.Shedding.{Replay}
use Rattle.sq_slices.specs.Slices.{slice}
use Rattle.sq_slices.specs.Drops.{drops_begun, of_part, plans_begun}

abbrev ticks : List Tuple
ticks = map (λ t. record { time = t; fields = value.Int (pos t) ∷ [] }) (numbers_to 16)

-- counts of 4 ticks; epochs and batches of 4 ticks
abbrev network : Network
network = record {
  epoch = 4;
  batch = 1;
  wires = record {
    sources = 1;
    boxes = record { kind = boxes.Aggregate; inputs = 0 ∷ []; ports = 1 } ∷ [];
    outputs = 1 ∷ [];
  };
  sources = record { name = codes "s"; file = []; schema = (codes "v", kind.Int) ∷ [] } ∷ [];
  boxes = record {
    name = codes "counts";
    body = Aggregate (func.Count ∷ []) [] (record { size = 4; advance = 4; phase = 0 });
    schemas = [];
    cost = 1;
    selectivity = 1000 ∷ [];
  } ∷ [];
  outputs = record { name = codes "o"; weight = 1; graph = (0, 0) ∷ (1000, 1000000) ∷ [] } ∷ [];
}

-- nothing may be spent, so each epoch behind one with a tuple has a plan that drops all
abbrev whole : Replay
whole = record { network = network; sources = ticks ∷ []; entries = (0, Some 0) ∷ []; seed = 0 }

abbrev part : ℕ → ℕ → Replay
part a b = of_part whole (slice a b ticks ∷ [])

abbrev epochs : Replay → List ℕ
epochs r = map (λ p. p.epoch) (plans_begun r 8 16)

abbrev dropped : Replay → List (List (List ℕ))
dropped r = map (λ p. drops_begun r 0 p 8 16) (points_of network)

row-plans : epochs whole ≡ 2 ∷ 3 ∷ []
row-plans = refl

row-plans-part : plans_begun (part 4 16) 8 16 ≡ plans_begun whole 8 16
row-plans-part = refl

-- without the epoch before it a slice has a plan of its own
row-plans-own : epochs (part 8 16) ≡ 3 ∷ []
row-plans-own = refl

-- where nothing comes in its last epoch or behind it, the plan of that isn't shown
row-plans-end : epochs (part 4 12) ≡ 2 ∷ []
row-plans-end = refl

row-drops : dropped whole ≡ (drop_line 0 2 1000 ∷ drop_line 0 3 1000 ∷ []) ∷ []
unfolding state_after
row-drops = refl

row-drops-part : dropped (part 4 16) ≡ dropped whole
unfolding state_after
row-drops-part = refl

row-drops-own : dropped (part 8 16) ≡ (drop_line 0 3 1000 ∷ []) ∷ []
unfolding state_after
row-drops-own = refl
