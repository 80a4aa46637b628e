-- Worked rows, by evaluation.
use Rattle.sq_work.specs.Scripts.{AcceptedReplay}
use Rattle.sq_net.specs.declared.Body.TheVariants.{Aggregate, BSort}
use Rattle.sq_lines.specs.Classes.{Ended, Shown, of_class}
use Rattle.sq_aggfn.specs.declared.Func.{Func}
use Rattle.std.proofs.Common.{List, map, refl, ℕ, [], ◌≡◌, ◌∷◌}
use Rattle.sq_net.specs.declared.Network.{Network}
use Rattle.sq_net.specs.declared.Node.{Node}
use Rattle.std.specs.Prelude.{None, Some, codes}
use Rattle.sq_due.proofs.DueWords.{all_text}
use Rattle.sq_status.proofs.Rows.{at}
use Rattle.sq_due.specs.Answers.{class_lines}
use Rattle.std.specs.Fmt.{digits}
use Rattle.sq_due.specs.Due.{due_of, replayed, work_in}
use Rattle.sq_work.proofs.Rows.{network, of_tuples, output, source}
use Rattle.sq_words.specs.Lists.{numbers_to}
use Rattle.rand_pcg.specs.Lcg.{state_after}
use Rattle.sq_value.specs.declared.Kind.TheVariants as kind
use Rattle.sq_graph.specs.declared.BoxKind.TheVariants as boxes
use Rattle.sq_aggfn.specs.declared.Func.TheVariants as func

abbrev replay : AcceptedReplay
replay = of_tuples network ((at 1 10 ∷ at 3 11 ∷ at 3 12 ∷ []) ∷ (at 2 20 ∷ at 3 21 ∷ []) ∷ [])

text_is : all_text (due_of replay) ≡ codes "o,1,10\no,2,20\no,3,11\no,3,12\no,3,21\n@box,u,5\n@end\n"
unfolding digits
text_is = refl

shown_is : of_class (Shown (codes "o")) (all_text (due_of replay)) ≡ class_lines (due_of replay) (Shown (codes "o"))
unfolding digits
shown_is = refl

ended_is : of_class Ended (all_text (due_of replay)) ≡ class_lines (due_of replay) Ended
unfolding digits
ended_is = refl

-- five at the box and five at the output
work_is : work_in (replayed replay) ≡ 10
work_is = refl

-- a BSort that has no room: what comes too late has a line of its own
abbrev sort_box : Node
sort_box = record { name = codes "bs"; body = BSort 0 0; schemas = ((codes "at", kind.Int) ∷ []) ∷ []; cost = 1; selectivity = 1000 ∷ [] }

abbrev sorted : AcceptedReplay
sorted =
    of_tuples (record {
      epoch = 1000;
      batch = 1;
      wires = record { sources = 1; boxes = record { kind = boxes.BSort; inputs = 0 ∷ []; ports = 1 } ∷ []; outputs = 1 ∷ [] };
      sources = record { name = codes "s"; file = codes "s.csv"; schema = (codes "at", kind.Int) ∷ [] } ∷ [];
      boxes = sort_box ∷ [];
      outputs = output ∷ [];
    }) ((at 5 3 ∷ at 6 1 ∷ at 7 2 ∷ []) ∷ [])

late_is : all_text (due_of sorted) ≡ codes "o,3,3\n@box,bs,3\n@late,bs,2\n@end\n"
unfolding digits
late_is = refl

-- an Aggregate of an Aggregate: 16 steps at the drop, 16 and 8 at the boxes, and 4 at the output
abbrev window_box : List ℕ → Func → ℕ → Node
window_box name f advance = record {
  name = name;
  body = Aggregate (f ∷ []) [] (record { size = 4; advance = advance; phase = 0 });
  schemas = ((codes "t", kind.Int) ∷ []) ∷ [];
  cost = 1;
  selectivity = 1000 ∷ [];
}

abbrev nested : Network
nested = record {
  epoch = 4;
  batch = 1;
  wires = record {
    sources = 1;
    boxes = record { kind = boxes.Aggregate; inputs = 0 ∷ []; ports = 1 } ∷ record { kind = boxes.Aggregate; inputs = 1 ∷ []; ports = 1 } ∷ [];
    outputs = 2 ∷ [];
  };
  sources = source (codes "s") (codes "s.csv") ∷ [];
  boxes = window_box (codes "a1") (func.Sum 0) 2 ∷ window_box (codes "a2") (func.Max 0) 4 ∷ [];
  outputs = output ∷ [];
}

abbrev fed : AcceptedReplay
fed = of_tuples nested (map (λ t. at t t) (numbers_to 16) ∷ [])

nested_work : work_in (replayed fed) ≡ 44
unfolding state_after
nested_work = refl

-- and where capacity lacks for two epochs
abbrev short : AcceptedReplay
short = record fed { entries = (1, Some 0) ∷ (3, None) ∷ [] }

short_text : all_text (due_of short)
    ≡ codes "o,0,14\no,12,54\n@drop,0,1,1000\n@drop,0,2,1000\n@plan,1,8000000,0,8000000,fits\n@plan,2,8000000,0,8000000,fits\n@box,a1,11\n@box,a2,4\n@end\n"
unfolding state_after digits
short_text = refl

short_work : work_in (replayed short) ≡ 33
unfolding state_after
short_work = refl
