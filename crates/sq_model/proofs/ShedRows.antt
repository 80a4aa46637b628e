-- What networks drop, show and feed, worked out: two Aggregates one behind the other, one with wide windows, and one that feeds an
-- output and a second Aggregate.
use Rattle.std.proofs.Common.{◌≡◌, ℕ, true, List, [], ◌∷◌, refl, pos}
use Rattle.std.specs.Prelude.{map, Some, None, codes}
use Rattle.rand_pcg.specs.Lcg.{state_after}
use Rattle.sq_value.specs.declared.Value.TheVariants as value
use Rattle.sq_value.specs.declared.Kind.TheVariants as kind
use Rattle.sq_value.specs.declared.Tuple.{Tuple}
use Rattle.sq_words.specs.Lists.{numbers_to}
use Rattle.sq_aggfn.specs.declared.Func.{Func}
use Rattle.sq_aggfn.specs.declared.Func.TheVariants as func
use Rattle.sq_graph.specs.declared.BoxKind.TheVariants as boxes
use Rattle.sq_net.specs.declared.Network.{Network}
use Rattle.sq_net.specs.declared.Node.{Node}
use Rattle.sq_net.specs.declared.Output.{Output}
use Rattle.sq_net.specs.declared.Source.{Source}
use Rattle.sq_net.specs.declared.Body.TheVariants as body
use Rattle.sq_place.specs.Points.{until_of}
use Rattle.sq_model.specs.FullStreams.{full_arc}
use Rattle.sq_points.specs.Points.{points_of}
use Rattle.sq_model.specs.Shedding.{Replay, record_of, answer_of, batch_level, touched_batches}
use Rattle.sq_model.specs.KeptTuples.{kept_of, fed_of, work_of, turns_of}
use Rattle.sq_model.specs.PlanLines.{plans_shown}
use Rattle.sq_plan.specs.declared.closing.Shown.{Shown}

abbrev at : ℕ → ℕ → Tuple
at t v = record { time = t; fields = value.Int (pos v) ∷ [] }

abbrev ticks : List Tuple
ticks = map (λ t. at t t) (numbers_to 16)

-- one field of numbers, named v
abbrev source_s : Source
source_s = record { name = 115 ∷ []; file = []; schema = (118 ∷ [], kind.Int) ∷ [] }

abbrev aggregate_from : List ℕ → Func → ℕ → ℕ → ℕ → Node
aggregate_from name f size advance phase = record {
  name = name;
  body = body.Aggregate (f ∷ []) [] (record { size = size; advance = advance; phase = phase });
  schemas = [];
  cost = 1;
  selectivity = 1000 ∷ [];
}

abbrev aggregate : List ℕ → Func → ℕ → ℕ → Node
aggregate name f size advance = aggregate_from name f size advance 0

abbrev output : List ℕ → Output
output name = record { name = name; weight = 1; graph = (0, 0) ∷ (1000, 1000000) ∷ [] }

abbrev network_c : Network
network_c = record {
  epoch = 4;
  batch = 1;
  wires = record {
    sources = 1;
    boxes = record { kind = boxes.Aggregate; inputs = 0 ∷ []; ports = 1 } ∷ record { kind = boxes.Aggregate; inputs = 1 ∷ []; ports = 1 } ∷ [];
    outputs = 2 ∷ [];
  };
  sources = source_s ∷ [];
  boxes = aggregate (codes "a1") (func.Sum 0) 4 2 ∷ aggregate (codes "a2") (func.Max 0) 4 4 ∷ [];
  outputs = output (111 ∷ []) ∷ [];
}

abbrev pub row_5 : Replay
row_5 = record { network = network_c; sources = ticks ∷ []; entries = (1, Some 0) ∷ (3, None) ∷ []; seed = 0 }

row_5_full : full_arc network_c (ticks ∷ []) 2 ≡ at 0 14 ∷ at 4 30 ∷ at 8 46 ∷ at 12 54 ∷ []
row_5_full = refl

row_5_levels : map (λ e. batch_level row_5 e 0) (numbers_to 4) ≡ 0 ∷ 1000 ∷ 1000 ∷ 0 ∷ []
row_5_levels = refl

row_5_records : map (record_of row_5 0) (points_of network_c) ≡ (1 ∷ 2 ∷ []) ∷ []
unfolding state_after
row_5_records = refl

row_5_answer : answer_of row_5 0 ≡ at 0 14 ∷ at 12 54 ∷ []
unfolding state_after
row_5_answer = refl

row_5_kept : map (λ x. x.time) (kept_of row_5 0) ≡ 0 ∷ 1 ∷ 2 ∷ 3 ∷ 4 ∷ 5 ∷ 6 ∷ 12 ∷ 13 ∷ 14 ∷ 15 ∷ []
unfolding state_after
row_5_kept = refl

row_5_fed : map (fed_of row_5) (numbers_to 2) ≡ 11 ∷ 4 ∷ []
unfolding state_after
row_5_fed = refl

row_5_work : work_of row_5 ≡ 33
unfolding state_after
row_5_work = refl

-- the same with a batch of nothing before it: windows of size 10 and advance 5, epochs of 5 ticks, two tuples
abbrev network_b : Network
network_b = record {
  epoch = 5;
  batch = 1;
  wires = record { sources = 1; boxes = record { kind = boxes.Aggregate; inputs = 0 ∷ []; ports = 1 } ∷ []; outputs = 1 ∷ [] };
  sources = source_s ∷ [];
  boxes = aggregate (codes "a") (func.Sum 0) 10 5 ∷ [];
  outputs = output (111 ∷ []) ∷ [];
}

abbrev pub row_6 : Replay
row_6 = record { network = network_b; sources = (at 0 1 ∷ at 12 4 ∷ []) ∷ []; entries = (1, Some 0) ∷ (2, None) ∷ []; seed = 0 }

row_6_records : map (record_of row_6 0) (points_of network_b) ≡ (1 ∷ []) ∷ []
unfolding state_after
row_6_records = refl

row_6_touched : map (touched_batches row_6) (points_of network_b) ≡ (0 ∷ 1 ∷ 2 ∷ []) ∷ []
row_6_touched = refl

row_6_answer : answer_of row_6 0 ≡ at 0 1 ∷ at 10 4 ∷ []
unfolding state_after
row_6_answer = refl

row_6_fed : fed_of row_6 0 ≡ 2
unfolding state_after
row_6_fed = refl

-- the first Aggregate feeds an output and a second one of size 8 and advance 4
abbrev network_f : Network
network_f = record {
  epoch = 4;
  batch = 1;
  wires = record {
    sources = 1;
    boxes = record { kind = boxes.Aggregate; inputs = 0 ∷ []; ports = 1 } ∷ record { kind = boxes.Aggregate; inputs = 1 ∷ []; ports = 1 } ∷ [];
    outputs = 1 ∷ 2 ∷ [];
  };
  sources = source_s ∷ [];
  boxes = aggregate (codes "a1") (func.Sum 0) 4 2 ∷ aggregate (codes "q1") (func.Max 0) 8 4 ∷ [];
  outputs = output (112 ∷ []) ∷ output (113 ∷ []) ∷ [];
}

abbrev pub row_9 : Replay
row_9 = record { network = network_f; sources = ticks ∷ []; entries = (1, Some 0) ∷ (3, None) ∷ []; seed = 0 }

row_9_records : map (record_of row_9 0) (points_of network_f) ≡ (1 ∷ 2 ∷ []) ∷ []
unfolding state_after
row_9_records = refl

row_9_first : answer_of row_9 0 ≡ at 0 6 ∷ at 2 14 ∷ at 12 54 ∷ at 14 29 ∷ []
unfolding state_after
row_9_first = refl

row_9_second : answer_of row_9 1 ≡ at 0 30 ∷ at 12 54 ∷ []
unfolding state_after
row_9_second = refl

row_9_fed : map (fed_of row_9) (numbers_to 2) ≡ 15 ∷ 6 ∷ []
unfolding state_after
row_9_fed = refl

row_9_work : work_of row_9 ≡ 45
unfolding state_after
row_9_work = refl

-- what the plans of epochs save
abbrev fitting : ℕ → ℕ → ℕ → ℕ → Shown
fitting e load capacity saved = record { epoch = e; load = load; capacity = capacity; saved = saved; fits = true }

row_5_shown : plans_shown row_5 ≡ fitting 1 8000000 0 8000000 ∷ fitting 2 8000000 0 8000000 ∷ []
row_5_shown = refl

row_5_turns : turns_of row_5 ≡ 45
unfolding state_after
row_5_turns = refl

row_6_shown : plans_shown row_6 ≡ fitting 1 1000000 0 1000000 ∷ []
row_6_shown = refl

-- no capacity from epoch 0 on: each epoch but the first has a plan
plans_1 : plans_shown (record row_5 { entries = (0, Some 0) ∷ [] }) ≡ fitting 1 8000000 0 8000000 ∷ fitting 2 8000000 0 8000000 ∷ fitting 3 8000000 0 8000000 ∷ []
plans_1 = refl

-- 19 steps of 50,000 leave 50,000
plans_2 : plans_shown (record row_6 { entries = (1, Some 60000) ∷ [] }) ≡ fitting 1 1000000 60000 950000 ∷ []
plans_2 = refl

-- two batches of the windows of row 5 in one: batch 0 begins before the overload, batch 1 in it
abbrev pub wide_batch : Replay
wide_batch = record { network = record network_c { batch = 2 }; sources = ticks ∷ []; entries = (1, Some 0) ∷ (3, None) ∷ []; seed = 0 }

wide_batch_records : map (record_of wide_batch 0) (points_of (record network_c { batch = 2 })) ≡ (1 ∷ []) ∷ []
unfolding state_after
wide_batch_records = refl

wide_batch_answer : answer_of wide_batch 0 ≡ at 0 14 ∷ at 4 30 ∷ []
unfolding state_after
wide_batch_answer = refl

wide_batch_fed : map (fed_of wide_batch) (numbers_to 2) ≡ 11 ∷ 4 ∷ []
unfolding state_after
wide_batch_fed = refl

wide_batch_work : work_of wide_batch ≡ 33
unfolding state_after
wide_batch_work = refl

-- the second Aggregate of network c with the phase 2, so that a batch's tuples are kept for 2 ticks more
abbrev network_late : Network
network_late = record network_c { boxes = aggregate (codes "a1") (func.Sum 0) 4 2 ∷ aggregate_from (codes "a2") (func.Max 0) 4 4 2 ∷ [] }

abbrev pub late : Replay
late = record row_5 { network = network_late }

late_until : map (λ p. map (until_of p) (numbers_to 3)) (points_of network_late) ≡ (9 ∷ 13 ∷ 17 ∷ []) ∷ []
late_until = refl

late_full : full_arc network_late (ticks ∷ []) 2 ≡ at 2 22 ∷ at 6 38 ∷ at 10 54 ∷ at 14 29 ∷ []
late_full = refl

late_records : map (record_of late 0) (points_of network_late) ≡ (1 ∷ 2 ∷ []) ∷ []
unfolding state_after
late_records = refl

late_answer : answer_of late 0 ≡ at 2 22 ∷ at 14 29 ∷ []
unfolding state_after
late_answer = refl

-- ticks 9 to 11 are dropped early
late_kept : map (λ x. x.time) (kept_of late 0) ≡ 0 ∷ 1 ∷ 2 ∷ 3 ∷ 4 ∷ 5 ∷ 6 ∷ 7 ∷ 8 ∷ 12 ∷ 13 ∷ 14 ∷ 15 ∷ []
unfolding state_after
late_kept = refl

late_fed : map (fed_of late) (numbers_to 2) ≡ 13 ∷ 5 ∷ []
unfolding state_after
late_fed = refl

late_work : work_of late ≡ 36
unfolding state_after
late_work = refl

-- windows of size 10 by 5 from 3 on
abbrev late_alone : Network
late_alone = record network_b { boxes = aggregate_from (codes "a") (func.Sum 0) 10 5 3 ∷ [] }

late_alone_full : full_arc late_alone ((at 2 5 ∷ at 3 1 ∷ at 9 2 ∷ []) ∷ []) 1 ≡ at 3 3 ∷ at 8 2 ∷ []
late_alone_full = refl

late_alone_fed : fed_of (record { network = late_alone; sources = (at 2 5 ∷ at 3 1 ∷ at 9 2 ∷ []) ∷ []; entries = []; seed = 0 }) 0 ≡ 3
unfolding state_after
late_alone_fed = refl
