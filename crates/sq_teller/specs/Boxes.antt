-- The line that names a box.
use Rattle.std.specs.Prelude.{ℕ, List, [], ◌++◌, Option, Some, None, slice_get, codes}
use Rattle.sq_net.specs.declared.Body.{Body}
use Rattle.sq_net.specs.declared.Body.TheVariants.{Filter, Map, Union, BSort, Aggregate, Join, Resample}
use Rattle.sq_net.specs.declared.Network.{Network}
use Rattle.sq_net.specs.declared.Node.{Node}

abbrev pub kind_text : Body → List ℕ
kind_text (Filter preds) = codes "filter"
kind_text (Map exprs) = codes "map"
kind_text Union = codes "union"
kind_text (BSort by slack) = codes "bsort"
kind_text (Aggregate funcs group window) = codes "aggregate"
kind_text (Join size on) = codes "join"
kind_text (Resample size funcs) = codes "resample"

-- MARK,NAME,KIND
abbrev pub box_text : List ℕ → Option Node → List ℕ
box_text mark None = []
box_text mark (Some b) = mark ++ (codes "," ++ (b.name ++ (codes "," ++ (kind_text b.body ++ codes "\n"))))

abbrev pub box_at : Network → Option ℕ → Option Node
box_at n None = None
box_at n (Some at) = slice_get n.boxes at

-- the line of the box of this number, or nothing where there is none
abbrev pub named_box : List ℕ → Network → Option ℕ → List ℕ
named_box mark n at = box_text mark (box_at n at)
