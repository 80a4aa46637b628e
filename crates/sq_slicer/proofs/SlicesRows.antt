-- Worked rows, by evaluation.
use Rattle.std.proofs.Common.{◌≡◌, refl, ℕ, false, true, List, [], ◌∷◌, Some, None, Err}
use Rattle.std.specs.Prelude.{codes}
use Rattle.std.specs.Fmt.{digits}
use Rattle.sq_value.specs.declared.Kind.TheVariants as kind
use Rattle.sq_value.specs.Values.{Columns}
use Rattle.sq_aggfn.specs.declared.Func.TheVariants as func
use Rattle.sq_graph.specs.declared.BoxKind.TheVariants as boxes
use Rattle.sq_net.specs.declared.Body.{Body}
use Rattle.sq_net.specs.declared.Body.TheVariants.{Aggregate, BSort}
use Rattle.sq_net.specs.declared.NetErr.TheVariants as net
use Rattle.sq_net.specs.declared.Network.{Network}
use Rattle.sq_net.specs.declared.Node.{Node}
use Rattle.sq_net.specs.declared.Output.{Output}
use Rattle.sq_teller.specs.declared.Ending.TheVariants as status
use Rattle.sq_teller.specs.Replies.{Refuses}
use Rattle.sq_slicer.specs.Words.{slices_asked}
use Rattle.sq_slicer.specs.Lines.{has_no_slices, slices_text}
use Rattle.sq_slicer.specs.Answers.{slices_by}

-- ---- words

words_plain : slices_asked (codes "a.toml" ∷ []) ≡ Some (record { delay = None; net = codes "a.toml" })
words_plain = refl

words_delay : slices_asked (codes "--delay" ∷ codes "60" ∷ codes "a" ∷ []) ≡ Some (record { delay = Some 60; net = codes "a" })
words_delay = refl

words_none : slices_asked [] ≡ None
words_none = refl

words_dash : slices_asked (codes "-a" ∷ []) ≡ None
words_dash = refl

words_more : slices_asked (codes "a" ∷ codes "b" ∷ []) ≡ None
words_more = refl

words_no_number : slices_asked (codes "--delay" ∷ codes "6s" ∷ codes "a" ∷ []) ≡ None
words_no_number = refl

words_no_network : slices_asked (codes "--delay" ∷ codes "60" ∷ []) ≡ None
words_no_network = refl

words_longer : slices_asked (codes "--delay" ∷ codes "00000000000060" ∷ codes "a" ∷ []) ≡ None
words_longer = refl

words_delay_behind : slices_asked (codes "a" ∷ codes "--delay" ∷ codes "60" ∷ []) ≡ None
words_delay_behind = refl

-- ---- texts

abbrev columns : Columns
columns = (codes "symbol", kind.Text) ∷ (codes "price", kind.Int) ∷ []

abbrev node : List ℕ → Body → Node
node name b = record { name = name; body = b; schemas = columns ∷ []; cost = 1; selectivity = [] }

abbrev outputs_named : List (List ℕ) → List Output
outputs_named [] = []
outputs_named (name ∷ names) = record { name = name; weight = 1; graph = [] } ∷ outputs_named names

-- trades counted in windows of 60 ticks every 20; and sorted
abbrev network : Network
network = record {
  epoch = 1000;
  batch = 1;
  wires = record {
    sources = 1;
    boxes = record { kind = boxes.Aggregate; inputs = 0 ∷ []; ports = 1 } ∷ record { kind = boxes.BSort; inputs = 0 ∷ []; ports = 1 } ∷ [];
    outputs = 1 ∷ 2 ∷ 0 ∷ [];
  };
  sources = record { name = codes "trades"; file = []; schema = columns } ∷ [];
  boxes = node (codes "counts") (Aggregate (func.Count ∷ []) [] (record { size = 60; advance = 20; phase = 5 })) ∷ node (codes "sorted") (BSort 1 3) ∷ [];
  outputs = outputs_named (codes "o" ∷ codes "p" ∷ codes "q" ∷ []);
}

text_uncut : slices_text network None ≡ codes "o,sliced,0,40,20,5\np,uncut\nq,sliced,0,0,1,0\n@uncut,sorted,bsort\n"
unfolding digits
text_uncut = refl

uncut_is_lost : has_no_slices network None ≡ true
uncut_is_lost = refl

-- slices of the run reach the delay further back than those of the outputs
text_delay : slices_text network (Some 9) ≡ codes "o,sliced,0,40,20,5\np,sliced,0,9,1,0\nq,sliced,0,0,1,0\n@run,9,40,20,5\n"
unfolding digits
text_delay = refl

delayed_is_kept : has_no_slices network (Some 9) ≡ false
delayed_is_kept = refl

-- ---- answers

answer_bad_network : slices_by (record { delay = None; net = codes "a" }) (Err net.Toml) ≡ Refuses (status.BadNetwork net.Toml)
answer_bad_network = refl
