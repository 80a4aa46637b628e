-- The boxes of the joined network, and the network of its parts.
use Rattle.std.proofs.Common.{◌≡◌, ◌∙◌, ap, sym, ℕ, ◌+◌, ◌<◌, Bool, cond, List, [], ◌∷◌, ◌++◌, length, drop, get_or, Some, arith, append_assoc}
use Rattle.std.specs.Prelude.{remove, unwrap_or}
use Rattle.sq_value.specs.Values.{Columns}
use Rattle.sq_graph.specs.declared.Wiring.{Wiring}
use Rattle.sq_net.specs.declared.Network.{Network}
use Rattle.sq_net.specs.declared.Node.{Node}
use Rattle.sq_net.specs.declared.Output.{Output}
use Rattle.sq_net.specs.declared.Source.{Source}
use Rattle.sq_net.specs.Streams.{columns_of_stream}
use Rattle.sq_joined.specs.Staying.{staying, stays}
use Rattle.sq_joined.specs.Joining.{tap_box, columns, joined_by, joined_wires}
use Rattle.sq_joined.proofs.Steps.{rest_more}

-- ---- boxes that are moved one by one

kept_on : {X : Type 0} (keep : List Bool) (at : ℕ) (x : X) (rest olds news all : List X) → news ≡ olds ++ cond (stays keep at) (x ∷ []) [] → olds ++ staying (drop at keep) (x ∷ rest) ≡ all
    → news ++ staying (drop (at + 1) keep) rest ≡ all
kept_on keep at x rest olds news all pushed so_far =
    ap (λ xs. xs ++ staying (drop (at + 1) keep) rest) pushed
    ∙ append_assoc olds (cond (stays keep at) (x ∷ []) []) (staying (drop (at + 1) keep) rest)
    ∙ ap (λ xs. olds ++ xs) (sym (rest_more keep at x rest))
    ∙ so_far

first_and_rest : {X : Type 0} (before : List X) (x : X) → 0 < length before → x ≡ get_or before 0 x → before ≡ x ∷ remove before 0
first_and_rest [] x some is = absurd (omega arith)
first_and_rest (y ∷ ys) x some is = ap (λ z. z ∷ ys) (sym is)

pub kept_step : {X : Type 0} (keep : List Bool) (at : ℕ) (x : X) (before rest olds news all : List X) → 0 < length before → x ≡ get_or before 0 x → rest ≡ remove before 0
    → news ≡ olds ++ cond (stays keep at) (x ∷ []) [] → olds ++ staying (drop at keep) before ≡ all → news ++ staying (drop (at + 1) keep) rest ≡ all
kept_step keep at x before rest olds news all some is left pushed so_far =
    kept_on keep at x rest olds news all pushed
    (ap (λ xs. olds ++ staying (drop at keep) xs) (sym (first_and_rest before x some is ∙ ap (λ ys. x ∷ ys) (sym left))) ∙ so_far)

pub joined_list : {X : Type 0} (front : List X) (x : X) (back one more all : List X) → one ≡ front → more ≡ one ++ x ∷ [] → all ≡ more ++ back → all ≡ front ++ x ∷ back
joined_list front x back one more all is pushed appended =
    appended ∙ ap (λ xs. xs ++ back) (pushed ∙ ap (λ xs. xs ++ x ∷ []) is) ∙ append_assoc front (x ∷ []) back

-- ---- the network

pub columns_are : (n : Network) (stream : ℕ) (cs : Columns) → columns_of_stream n stream ≡ Some cs → columns n stream ≡ cs
columns_are n stream cs is = ap (λ o. unwrap_or o []) is

pub net_is : (n : Network) (stream from : ℕ) (q : Network) (keep : List Bool) (wires : Wiring) (sources : List Source) (boxes : List Node) (outputs : List Output)
    → wires ≡ joined_wires n.wires keep stream q.wires → sources ≡ n.sources → boxes ≡ staying keep n.boxes ++ tap_box (columns n stream) (columns q 0) from ∷ q.boxes → outputs ≡ q.outputs
    → record { epoch = n.epoch; batch = 1; wires = wires; sources = sources; boxes = boxes; outputs = outputs } ≡ joined_by n keep stream from q
net_is n stream from q keep wires sources boxes outputs wired sourced boxed shown =
    ap (λ (w : Wiring). network w sources boxes outputs) wired
    ∙ ap (λ (ss : List Source). network (joined_wires n.wires keep stream q.wires) ss boxes outputs) sourced
    ∙ ap (λ (bs : List Node). network (joined_wires n.wires keep stream q.wires) n.sources bs outputs) boxed
    ∙ ap (network (joined_wires n.wires keep stream q.wires) n.sources (staying keep n.boxes ++ tap_box (columns n stream) (columns q 0) from ∷ q.boxes)) shown
  where
    network : Wiring → List Source → List Node → List Output → Network
    network w ss bs os = record { epoch = n.epoch; batch = 1; wires = w; sources = ss; boxes = bs; outputs = os }

pub boxes_are : (n : Network) (stream from : ℕ) (q : Network) (keep : List Bool) (front back all : List Node) (tap : Node) (cs ds : Columns) → front ≡ n.boxes → back ≡ q.boxes → tap ≡ tap_box cs ds from
    → columns_of_stream n stream ≡ Some cs → columns_of_stream q 0 ≡ Some ds → all ≡ staying keep front ++ tap ∷ back
    → all ≡ staying keep n.boxes ++ tap_box (columns n stream) (columns q 0) from ∷ q.boxes
boxes_are n stream from q keep front back all tap cs ds at_front at_back is plain asked joined =
    joined
    ∙ ap (λ (bs : List Node). staying keep bs ++ tap ∷ back) at_front
    ∙ ap (λ (b : Node). staying keep n.boxes ++ b ∷ back)
    (is ∙ ap (λ (x : Columns). tap_box x ds from) (sym (columns_are n stream cs plain)) ∙ ap (λ (x : Columns). tap_box (columns n stream) x from) (sym (columns_are q 0 ds asked)))
    ∙ ap (λ (bs : List Node). staying keep n.boxes ++ tap_box (columns n stream) (columns q 0) from ∷ bs) at_back
