-- The items of an array, read one after another: those so far stand in front of what the rest gives.
use Rattle.std.proofs.Common.{◌≡◌, ◌∙◌, ap, subst, refl, ℕ, ◌+◌, ◌<◌, ◌≤◌, List, [], ◌∷◌, ◌++◌, drop, length, get_or, Option, Some, None, append_assoc, append-nil, sym}
use Rattle.std.proofs.lemmas.List.{drop_all}
use Rattle.toml.specs.Data.{Data, Items, item}
use Rattle.toml.specs.View.{view, items_view}
use Rattle.toml.specs.declared.value.Value.{Value}
use Rattle.toml.proofs.Views.{items_view-drop}
use Rattle.sq_tables.specs.Documents.{each_item, onto}
use Rattle.sq_tables.proofs.DocumentLemmas.{with_front}

-- the item at a place, as a loop over the array has it, stands before the rest
pub item_at : (vs ws : List Value) → ws ≡ vs → (i : ℕ) (v : Value) → i < length ws → v ≡ get_or ws i v → items_view (drop i vs) ≡ item (view v) (items_view (drop (i + 1) vs))
item_at vs ws same i v low is =
    let at : items_view (drop i ws) ≡ item (view v) (items_view (drop (i + 1) ws)) = items_view-drop ws i v low ∙ ap (λ w. item (view w) (items_view (drop (i + 1) ws))) (sym is) in
    subst (λ us. items_view (drop i us) ≡ item (view v) (items_view (drop (i + 1) us))) same at

-- in front of all stands nothing
pub front_none : {A : Type 0} (o : Option (List A)) → with_front [] o ≡ o
front_none None = refl
front_none (Some xs) = refl

front_one : {A : Type 0} (front : List A) (x : A) (o : Option (List A)) → with_front (front ++ x ∷ []) o ≡ with_front front (onto (Some x) o)
front_one front x None = refl
front_one front x (Some xs) = ap (λ ys. Some ys) (append_assoc front (x ∷ []) xs)

-- an item that gives something stands behind those so far
pub front_more : {A : Type 0} (f : Data → Option A) (ds : Items) (d : Data) (rest : Items) (front : List A) (x : A) → ds ≡ item d rest → f d ≡ Some x → with_front (front ++ x ∷ []) (each_item f rest) ≡ with_front front (each_item f ds)
front_more f ds d rest front x at read =
    front_one front x (each_item f rest) ∙ ap (λ o. with_front front (onto o (each_item f rest))) (sym read) ∙ ap (λ es. with_front front (each_item f es)) (sym at)

-- an item that gives nothing leaves nothing
pub front_stop : {A : Type 0} (f : Data → Option A) (ds : Items) (d : Data) (rest : Items) (front : List A) → ds ≡ item d rest → f d ≡ None → with_front front (each_item f ds) ≡ None
front_stop f ds d rest front at read =
    ap (λ es. with_front front (each_item f es)) at ∙ ap (λ o. with_front front (onto o (each_item f rest))) read

-- behind the last item nothing is left
pub front_all : {A : Type 0} (f : Data → Option A) (vs ws : List Value) → ws ≡ vs → (i : ℕ) (front : List A) → length ws ≤ i → with_front front (each_item f (items_view (drop i vs))) ≡ Some front
front_all f vs ws same i front end =
    ap (λ us. with_front front (each_item f (items_view (drop i us)))) (sym same) ∙ ap (λ us. with_front front (each_item f (items_view us))) (drop_all i ws end) ∙ ap (λ ys. Some ys) (append-nil front)
