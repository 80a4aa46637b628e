-- Where keys stand in what boxes give.
--     places passes i xs                  the numbers of the items that pass, where the first has number i
--     box_cut on_time body widths cuts    what a part has of what a box gives, where it has these cuts of the inputs
--     FollowsCuts n by on_time cuts       cuts of all streams of a network that follow the boxes; cuts_of n by on_time are these
--     loses_key n on_time cuts at         a box gives neither a key nor a whole stream, though it takes them
use Rattle.std.specs.Prelude.{◌≡◌, ℕ, zero, suc, ◌+◌, ◌==◌, ◌&&◌, ◌||◌, nat_lt, Bool, true, false, not, if◌then◌else◌, List, [], ◌∷◌, ◌++◌, map, length, Option, Some, None, slice_get, slice_index_or}
use Rattle.std.specs.List.{filter, list_any, list_all}
use Rattle.sq_words.specs.Lists.{numbers_to, contains_number}
use Rattle.sq_value.specs.Values.{Columns}
use Rattle.sq_expr.specs.Keys.{bare_of, equated}
use Rattle.sq_graph.specs.Wires.{producers_of, producer_of, inputs_of}
use Rattle.sq_graph.specs.declared.Producer.{Producer}
use Rattle.sq_graph.specs.declared.Producer.TheVariants.{Source, Port}
use Rattle.sq_net.specs.declared.Network.{Network}
use Rattle.sq_net.specs.declared.Node.{Node}
use Rattle.sq_net.specs.declared.Body.{Body}
use Rattle.sq_net.specs.declared.Body.TheVariants.{Filter, Map, Union, BSort, Aggregate, Join, Resample}
use Rattle.sq_net.specs.Streams.{columns_of_stream}
use Rattle.sq_shard.specs.Cuts.{column_at}
use Rattle.sq_shard.specs.declared.Cut.{Cut}
use Rattle.sq_shard.specs.declared.Cut.TheVariants.{Whole, By}

abbrev pub places : {X : Type 0} → (X → Bool) → ℕ → List X → List ℕ
places passes i [] = []
places passes i (x ∷ xs) = if passes x then i ∷ places passes (i + 1) xs else places passes (i + 1) xs

-- whether what an expression gives is one of these columns as it is
abbrev pub is_among : List ℕ → Option ℕ → Bool
is_among columns None = false
is_among columns (Some i) = contains_number columns i

abbrev pub is_pair_of : ℕ → ℕ → ℕ × ℕ → Bool
is_pair_of i j pair = (pair.0 == i && pair.1 == j) || (pair.0 == j && pair.1 == i)

-- whether one of some pairs is of these columns
abbrev pub joins_on : ℕ → ℕ → List (ℕ × ℕ) → Bool
joins_on i j pairs = list_any (is_pair_of i j) pairs

-- the same cut, by other columns
abbrev pub cut_through : (List ℕ → List ℕ) → Cut → Cut
cut_through f Whole = Whole
cut_through f (By columns) = By (f columns)

-- a key that isn't one of so many columns is none
abbrev pub own : ℕ → Cut → Cut
own width cut = cut_through (λ columns. filter (λ c. nat_lt c width) columns) cut

abbrev pub cut_at : List Cut → ℕ → Cut
cut_at cuts i = slice_index_or cuts i (By [])

-- of two streams that come together: whole where both are, and cut by the columns that are keys of both
abbrev pub both_cut : Cut → Cut → Cut
both_cut Whole Whole = Whole
both_cut (By columns) (By others) = By (filter (contains_number others) columns)
both_cut a b = By []

abbrev pub union_cut : List Cut → Cut
union_cut [] = By []
union_cut (a ∷ []) = a
union_cut (a ∷ b ∷ cuts) = both_cut a (union_cut (b ∷ cuts))

-- the columns of one side that the predicate makes equal to some column of the other; the left one has `width` columns
abbrev pub left_keys : ℕ → List (ℕ × ℕ) → List ℕ → List ℕ → List ℕ
left_keys width pairs ls rs = filter (λ l. nat_lt l width && list_any (λ r. joins_on l (width + r) pairs) rs) ls

abbrev pub right_keys : ℕ → List (ℕ × ℕ) → List ℕ → List ℕ → List ℕ
right_keys width pairs ls rs = filter (λ r. list_any (λ l. nat_lt l width && joins_on l (width + r) pairs) ls) rs

-- pairs: beside a whole side the key is that of the other; else the predicate must make both keys equal
abbrev pub join_cut : ℕ → List (ℕ × ℕ) → Cut → Cut → Cut
join_cut width pairs Whole Whole = Whole
join_cut width pairs (By ls) Whole = By (filter (λ l. nat_lt l width) ls)
join_cut width pairs Whole (By rs) = By (map (λ r. width + r) rs)
join_cut width pairs (By ls) (By rs) = By (left_keys width pairs ls rs ++ map (λ r. width + r) (right_keys width pairs ls rs))

-- a left tuple is answered by all the right ones near it, whatever their keys: so the right side must be whole, and the key is that
-- of the left one
abbrev pub resample_cut : ℕ → Cut → Cut → Cut
resample_cut width left Whole = own width left
resample_cut width left (By rs) = By []

-- a Filter keeps each column, a Map where its expression is the bare field, an Aggregate where it groups by it. A BSort counts
-- tuples, so it keeps the key only where it leaves out none for being late: `on_time` says that no BSort does. `widths` are how
-- many columns the first and the second input have
abbrev pub box_cut : Bool → Body → ℕ × ℕ → List Cut → Cut
box_cut on_time (Filter preds) widths cuts = cut_at cuts 0
box_cut on_time (Map exprs) widths cuts = cut_through (λ columns. places (λ e. is_among columns (bare_of e.tree)) 0 exprs) (cut_at cuts 0)
box_cut on_time Union widths cuts = union_cut cuts
box_cut on_time (BSort by slack) widths cuts = cut_through (λ columns. if on_time then columns else []) (cut_at cuts 0)
box_cut on_time (Aggregate funcs group window) widths cuts = cut_through (λ columns. places (contains_number columns) 0 group) (cut_at cuts 0)
box_cut on_time (Join size on) widths cuts = join_cut widths.0 (equated on.tree) (cut_at cuts 0) (own widths.1 (cut_at cuts 1))
box_cut on_time (Resample size funcs) widths cuts = resample_cut widths.0 (cut_at cuts 0) (cut_at cuts 1)

abbrev pub box_cut_at : Bool → Option Node → ℕ × ℕ → List Cut → Cut
box_cut_at on_time None widths cuts = By []
box_cut_at on_time (Some b) widths cuts = box_cut on_time b.body widths cuts

abbrev pub width_of : Option Columns → ℕ
width_of None = 0
width_of (Some columns) = length columns

-- how many columns the first and the second of some streams have
abbrev pub width_at : Network → Option ℕ → ℕ
width_at n None = 0
width_at n (Some s) = width_of (columns_of_stream n s)

abbrev pub input_widths : Network → List ℕ → ℕ × ℕ
input_widths n inputs = (width_at n (slice_get inputs 0), width_at n (slice_get inputs 1))

abbrev pub source_cut : Option ℕ → Cut
source_cut None = Whole
source_cut (Some column) = By (column ∷ [])

abbrev pub cut_given : Network → List (Option ℕ) → Bool → (ℕ → Cut) → Option Producer → Cut
cut_given n by on_time cuts None = By []
cut_given n by on_time cuts (Some (Source s)) = source_cut (column_at by s)
cut_given n by on_time cuts (Some (Port at port)) =
    box_cut_at on_time (slice_get n.boxes at) (input_widths n (inputs_of n.wires at)) (map cuts (inputs_of n.wires at))

-- each stream's cut is what its producer makes of the cuts of the streams that it takes
abbrev pub FollowsCuts : Network → List (Option ℕ) → Bool → (ℕ → Cut) → Type 0
FollowsCuts n by on_time cuts = (s : ℕ) → cuts s ≡ cut_given n by on_time cuts (producer_of n.wires s)

-- the cut of a stream, where it stands behind fewer boxes than `boxes`
abbrev pub cut_within : Network → List (Option ℕ) → Bool → ℕ → ℕ → Cut
cut_within n by on_time zero s = By []
cut_within n by on_time (suc boxes) s = cut_given n by on_time (cut_within n by on_time boxes) (producer_of n.wires s)

-- without a cycle no stream stands behind more boxes than there are
abbrev pub cut_of : Network → List (Option ℕ) → Bool → ℕ → Cut
cut_of n by on_time s = cut_within n by on_time (length n.boxes + 1) s

-- the cuts of all streams, by number
abbrev pub cuts_of : Network → List (Option ℕ) → Bool → List Cut
cuts_of n by on_time = map (cut_of n by on_time) (numbers_to (length (producers_of n.wires)))

-- whether a part has the stream whole or by a key
abbrev pub is_known_cut : Cut → Bool
is_known_cut Whole = true
is_known_cut (By []) = false
is_known_cut (By (c ∷ columns)) = true

-- whether a box loses the key: what it takes has one, or is whole, and what it gives is neither
abbrev pub loses_key : Network → Bool → (ℕ → Cut) → ℕ → Bool
loses_key n on_time cuts at =
    list_all (λ s. is_known_cut (cuts s)) (inputs_of n.wires at)
    && not (is_known_cut (box_cut_at on_time (slice_get n.boxes at) (input_widths n (inputs_of n.wires at)) (map cuts (inputs_of n.wires at))))
