-- Networks of one box that takes the streams of all sources, worked out for the boxes with state.
use Rattle.std.proofs.Common.{◌≡◌, ◌∙◌, ap, sym, subst, ℕ, ◌<◌, ◌≤◌, ◌^◌, true, List, [], ◌∷◌, length, lit<, lit≤, map, refl, pos}
use Rattle.std.specs.Prelude.{codes}
use Rattle.std.specs.List.{All}
use Rattle.std.proofs.lemmas.List.Elements.{All-from_recursion}
use Rattle.sq_value.specs.declared.Value.TheVariants as value
use Rattle.sq_value.specs.declared.Kind.TheVariants as kind
use Rattle.sq_value.specs.declared.Tuple.{Tuple}
use Rattle.sq_words.specs.Lists.{numbers_to}
use Rattle.sq_value.specs.Values.{Columns}
use Rattle.sq_expr.specs.Trees.{Checked, Literal}
use Rattle.sq_aggfn.specs.declared.Func.TheVariants as func
use Rattle.sq_graph.specs.declared.BoxKind.{BoxKind}
use Rattle.sq_graph.specs.declared.BoxWires.{BoxWires}
use Rattle.sq_graph.specs.declared.Wiring.{Wiring}
use Rattle.sq_graph.specs.Wires.{producers_of, producer_of}
use Rattle.sq_graph.specs.Order.{is_there, order_of, IsWired, LiesOnCycle}
use Rattle.sq_graph.proofs.Placing.{order_acyclic}
use Rattle.sq_net.specs.declared.Body.{Body}
use Rattle.sq_net.specs.declared.Body.TheVariants as body
use Rattle.sq_net.specs.declared.Node.{Node}
use Rattle.sq_net.specs.declared.Source.{Source}
use Rattle.sq_net.specs.declared.Output.{Output}
use Rattle.sq_net.specs.declared.Network.{Network}
use Rattle.sq_net.specs.SoundNetworks.{HasWindow, kind_of_body}
use Rattle.sq_model.specs.FullStreams.{full_arc}
use Rattle.sq_model.specs.FullCounts.{full_fed_of, late_of}
use Rattle.sq_model.specs.PlacedNetworks.{IsPlaced}
use Rattle.sq_model.proofs.FedWords.{work_of}

abbrev at : ℕ → ℕ → Tuple
at t v = record { time = t; fields = value.Int (pos v) ∷ [] }

abbrev numbers : Columns
numbers = (codes "v", kind.Int) ∷ []

abbrev source : List ℕ → Source
source name = record { name = name; file = []; schema = numbers }

abbrev output : List ℕ → Output
output name = record { name = name; weight = 1; graph = (0, 0) ∷ (1000, 1000000) ∷ [] }

-- a box that takes sources 0, 1, .., and output o, which shows it
abbrev pub lone_wires : BoxKind → ℕ → Wiring
lone_wires kind sources = record { sources = sources; boxes = record { kind = kind; inputs = numbers_to sources; ports = 1 } ∷ []; outputs = sources ∷ [] }

abbrev lone : Body → List Source → Columns → Network
lone b sources schema = record {
  epoch = 1000;
  batch = 1;
  wires = lone_wires (kind_of_body b) (length sources);
  sources = sources;
  boxes = record { name = codes "b"; body = b; schemas = schema ∷ []; cost = 1; selectivity = 1000 ∷ [] } ∷ [];
  outputs = output (codes "o") ∷ [];
}

-- windows of size 10 by 5; arc 1 is the output's
abbrev sums : Network
sums = lone (body.Aggregate (func.Sum 0 ∷ []) [] (record { size = 10; advance = 5; phase = 0 })) (source (codes "s") ∷ []) ((codes "sum", kind.Int) ∷ [])

abbrev counted : List (List Tuple)
counted = (at 0 1 ∷ at 3 2 ∷ at 12 4 ∷ []) ∷ []

sums_shown : full_arc sums counted 1 ≡ at 0 3 ∷ at 5 4 ∷ at 10 4 ∷ []
sums_shown = refl

sums_late : map (late_of sums counted) (numbers_to 1) ≡ 0 ∷ []
sums_late = refl

-- a sort by v; what is no time is left out, and so is what comes behind a later time
abbrev sort : ℕ → Network
sort slack = lone (body.BSort 0 slack) (source (codes "s") ∷ []) numbers

abbrev lines : ℕ → List (List Tuple)
lines last = (at 5 3 ∷ at 6 1 ∷ at 7 last ∷ []) ∷ []

sorted_by_two : full_arc (sort 1) (lines 2) 1 ≡ at 1 1 ∷ at 2 2 ∷ at 3 3 ∷ []
sorted_by_two = refl

none_late : map (late_of (sort 1) (lines 2)) (numbers_to 1) ≡ 0 ∷ []
none_late = refl

sorted_by_one : full_arc (sort 0) (lines 2) 1 ≡ at 3 3 ∷ []
sorted_by_one = refl

two_late : map (late_of (sort 0) (lines 2)) (numbers_to 1) ≡ 2 ∷ []
two_late = refl

sorted_without_last : full_arc (sort 1) (lines 8) 1 ≡ at 1 1 ∷ at 3 3 ∷ []
sorted_without_last = refl

one_late : map (late_of (sort 1) (lines 8)) (numbers_to 1) ≡ 1 ∷ []
one_late = refl

-- each tuple is fed, late or not
sort_fed : map (full_fed_of (sort 0) (lines 2)) (numbers_to 1) ≡ 3 ∷ []
sort_fed = refl

-- pairs at most 2 ticks apart; arc 2 is the output's
abbrev pair_at : ℕ → ℕ → ℕ → Tuple
pair_at t l r = record { time = t; fields = value.Int (pos l) ∷ value.Int (pos r) ∷ [] }

abbrev pairs : Columns
pairs = (codes "l_v", kind.Int) ∷ (codes "r_v", kind.Int) ∷ []

abbrev always : Checked
always = record { scope = pairs; tree = Literal (value.Bool true) }

abbrev join : Network
join = lone (body.Join 2 always) (source (codes "l") ∷ source (codes "r") ∷ []) pairs

abbrev sides : List (List Tuple)
sides = (at 1 10 ∷ at 4 40 ∷ []) ∷ (at 3 30 ∷ at 6 60 ∷ []) ∷ []

pairs_shown : full_arc join sides 2 ≡ pair_at 3 10 30 ∷ pair_at 4 40 30 ∷ pair_at 6 40 60 ∷ []
pairs_shown = refl

join_fed : map (full_fed_of join sides) (numbers_to 1) ≡ 4 ∷ []
join_fed = refl

join_work : work_of join sides ≡ 7
join_work = refl

-- a sum of what is at most 1 tick from a left tuple; arc 2 is the output's
abbrev resample : Network
resample = lone (body.Resample 1 (func.Sum 0 ∷ [])) (source (codes "l") ∷ source (codes "r") ∷ []) ((codes "l_v", kind.Int) ∷ (codes "sum", kind.Int) ∷ [])

abbrev readings : List (List Tuple)
readings = (at 2 1 ∷ at 5 2 ∷ []) ∷ (at 1 10 ∷ at 3 20 ∷ at 4 30 ∷ []) ∷ []

sums_near : full_arc resample readings 2 ≡ pair_at 2 1 30 ∷ pair_at 5 2 30 ∷ []
sums_near = refl

resample_fed : map (full_fed_of resample readings) (numbers_to 1) ≡ 5 ∷ []
resample_fed = refl

resample_work : work_of resample readings ≡ 7
resample_work = refl

-- each network of such wires is placed, where the box's window is one
placed_by : (w : Wiring) (b : Node) (n : Network) → IsWired w → All (λ s. is_there (producer_of w s) ≡ true) w.outputs → length w.boxes ≤ length (order_of w)
    → length w.boxes ≡ 1 → length (producers_of w) < 2 ^ 32 → All (λ (x : BoxWires). length x.inputs ≤ 8) w.boxes
    → n.wires ≡ w → n.boxes ≡ b ∷ [] → HasWindow b.body → IsPlaced n
placed_by w b n wired shown ordered one few_streams few_inputs wires boxes window = record {
  boxes = ap (λ (v : Wiring). length v.boxes) wires ∙ one ∙ sym (ap (λ (bs : List Node). length bs) boxes);
  wired = subst (λ v. IsWired v) (sym wires) wired;
  shown = subst (λ v. All (λ s. is_there (producer_of v s) ≡ true) v.outputs) (sym wires) shown;
  acyclic = subst (λ v. (at : ℕ) → LiesOnCycle v at → ⊥) (sym wires) (order_acyclic w ordered);
  few_boxes = subst (λ (v : Wiring). length v.boxes < 2 ^ 32) (sym wires) (subst (λ k. k < 2 ^ 32) (sym one) (lit< tt));
  few_streams = subst (λ v. length (producers_of v) < 2 ^ 32) (sym wires) few_streams;
  few_inputs = subst (λ v. All (λ (x : BoxWires). length x.inputs ≤ 8) v.boxes) (sym wires) few_inputs;
  windows = subst (λ bs. All (λ (x : Node). HasWindow x.body) bs) (sym boxes) (All-from_recursion (λ (x : Node). HasWindow x.body) (b ∷ []) (window, tt));
}

pub placed_one : (kind : BoxKind) (b : Node) (n : Network) → n.wires ≡ lone_wires kind 1 → n.boxes ≡ b ∷ [] → HasWindow b.body → IsPlaced n
placed_one kind b n =
    let w = lone_wires kind 1 in
    let Is : ℕ → Type 0 = λ s. is_there (producer_of w s) ≡ true in
    placed_by w b n
    (All-from_recursion (λ (x : BoxWires). All Is x.inputs) w.boxes (All-from_recursion Is (0 ∷ []) (refl, tt), tt))
    (All-from_recursion Is (1 ∷ []) (refl, tt)) (lit≤ tt) refl (lit< tt)
    (All-from_recursion (λ (x : BoxWires). length x.inputs ≤ 8) w.boxes (lit≤ tt, tt))
