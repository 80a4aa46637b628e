-- The network that the generator's stream is for.
use Rattle.std.specs.Prelude.{ℕ, List, [], ◌∷◌, ◌++◌, codes}
use Rattle.std.specs.List.{flat_map}

abbrev pub net_lines : List (List ℕ)
net_lines =
    codes "version = 1"
    ∷ codes "epoch = 3600"
    ∷ codes "[[source]]"
    ∷ codes "name = \"trades\""
    ∷ codes "file = \"trades.csv\""
    ∷ codes "fields = [\"at:int\", \"sym:text\", \"price:int\"]"
    ∷ codes "[[box]]"
    ∷ codes "name = \"bs\""
    ∷ codes "kind = \"bsort\""
    ∷ codes "in = [\"trades\"]"
    ∷ codes "by = \"at\""
    ∷ codes "slack = 8"
    ∷ codes "[[box]]"
    ∷ codes "name = \"av\""
    ∷ codes "kind = \"aggregate\""
    ∷ codes "in = [\"bs\"]"
    ∷ codes "size = 600"
    ∷ codes "advance = 60"
    ∷ codes "group = [\"sym\"]"
    ∷ codes "give = [[\"avg\", \"avg\", \"price\"]]"
    ∷ codes "cost = 4"
    ∷ codes "selectivity = [333]"
    ∷ codes "[[box]]"
    ∷ codes "name = \"mx\""
    ∷ codes "kind = \"aggregate\""
    ∷ codes "in = [\"av\"]"
    ∷ codes "size = 3600"
    ∷ codes "advance = 3600"
    ∷ codes "give = [[\"top\", \"max\", \"avg\"]]"
    ∷ codes "[[output]]"
    ∷ codes "name = \"avgs\""
    ∷ codes "from = \"av\""
    ∷ codes "[[output]]"
    ∷ codes "name = \"tops\""
    ∷ codes "from = \"mx\""
    ∷ codes "graph = [[0, 0], [500, 800000], [1000, 1000000]]"
    ∷ []

unfoldable pub net_text : List ℕ
net_text = flat_map (λ line. line ++ codes "\n") net_lines
