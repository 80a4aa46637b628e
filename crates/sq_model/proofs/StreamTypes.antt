-- Where what the sources recorded fits their schemas, each full stream fits its columns.
use Rattle.std.proofs.Common.{◌≡◌, ℕ, zero, suc, ◌+◌, ◌<◌, true, List, [], ◌∷◌, map, length, Option, Some, None, refl, ap, sym, ◌∙◌, subst, arith}
use Rattle.std.specs.Prelude.{slice_get, codes}
use Rattle.std.specs.Option.{option_map}
use Rattle.std.specs.List.{All, filter_map, cons_option, AllByRecursion}
use Rattle.std.proofs.lemmas.List.Elements.{recursion_from_All}
use Rattle.sq_value.specs.declared.Tuple.{Tuple}
use Rattle.sq_value.specs.Values.{Columns, fields_fit, kinds_of}
use Rattle.sq_words.specs.Lists.{ports_of, nth}
use Rattle.sq_expr.specs.Trees.{Checked}
use Rattle.sq_graph.specs.declared.BoxWires.{BoxWires}
use Rattle.sq_graph.specs.Wires.{producer_of, inputs_of, inputs_at}
use Rattle.sq_graph.specs.declared.Producer.{Producer}
use Rattle.sq_graph.specs.declared.Producer.TheVariants.{Source, Port}
use Rattle.sq_graph.specs.Order.{is_there}
use Rattle.sq_lists.specs.Merge.{union}
use Rattle.sq_lists.specs.Merge as whole
use Rattle.sq_net.specs.declared.Body.{Body}
use Rattle.sq_net.specs.declared.Body.TheVariants as body
use Rattle.sq_net.specs.declared.Node.{Node}
use Rattle.sq_net.specs.declared.Source as source
use Rattle.sq_net.specs.declared.Network.{Network}
use Rattle.sq_net.specs.Columns.{first_columns, second_columns}
use Rattle.sq_net.specs.SoundNetworks.{IsSound, IsOver, IsTypedBody, input_columns}
use Rattle.sq_net.specs.Streams.{columns_of_port, columns_given, columns_of_stream}
use Rattle.sq_net.proofs.StreamLemmas.{stream_typed}
use Rattle.sq_model.specs.FullStreams.{box_list, produced, full_within, box_list_at}
use Rattle.sq_model.proofs.NumberLemmas.{producer_has_number}
use Rattle.sq_model.proofs.Alls.{time_of, union-sorted}
use Rattle.sq_model.proofs.Alls.{by_key}
use Rattle.sq_model.proofs.Alls.{All-kept, All-sorted, All-joined}
use Rattle.sq_model.specs.FittingStreams.{FitsOption, SourcesFit, StreamsFit}
use Rattle.sq_model.proofs.BoxTypes.{FitsColumns, same-kinds, map-fits, bsort-keeps, aggregate-fits, join-fits, resample-fits, sided}
use Rattle.sq_model.proofs.PortLow.{port-low}
use Rattle.sq_words.proofs.Lists.{has_item}
use Rattle.sq_words.proofs.Alls.{all_at, all_weaker}

-- each stream fits its columns
abbrev Aligned : List Columns → List (List Tuple) → Type 0
Aligned [] [] = Unit {0}
Aligned [] (xs ∷ xss) = ⊥
Aligned (cs ∷ css) [] = ⊥
Aligned (cs ∷ css) (xs ∷ xss) = FitsColumns cs xs × Aligned css xss

first-fits : (css : List Columns) (xss : List (List Tuple)) → Aligned css xss → FitsColumns (first_columns css) (nth xss 0)
first-fits [] [] h = tt
first-fits [] (xs ∷ xss) h = absurd h
first-fits (cs ∷ css) [] h = absurd h
first-fits (cs ∷ css) (xs ∷ xss) h = h.0

second-fits : (css : List Columns) (xss : List (List Tuple)) → Aligned css xss → FitsColumns (second_columns css) (nth xss 1)
second-fits [] [] h = tt
second-fits [] (xs ∷ xss) h = absurd h
second-fits (cs ∷ css) [] h = absurd h
second-fits (cs ∷ css) (xs ∷ xss) h = first-fits css xss h.1

all-alike : (ds : Columns) (css : List Columns) (xss : List (List Tuple)) → AllByRecursion (λ cs. cs ≡ ds) css → Aligned css xss → AllByRecursion (FitsColumns ds) xss
all-alike ds [] [] e h = tt
all-alike ds [] (xs ∷ xss) e h = absurd h
all-alike ds (cs ∷ css) [] e h = absurd h
all-alike ds (cs ∷ css) (xs ∷ xss) e h = (subst (λ z. FitsColumns z xs) e.0 h.0, all-alike ds css xss e.1 h.1)

-- the only port's columns
only-columns : (cs ds : Columns) (ports : List Columns) (q : ℕ) → ports ≡ ds ∷ [] → slice_get ports q ≡ Some cs → ds ≡ cs
only-columns cs ds ports zero e s = let same : Some ds ≡ Some cs = ap (λ (l : List Columns). slice_get l 0) (sym e) ∙ s in cc same
only-columns cs ds ports (suc q) e s = let bad : None ≡ Some cs = ap (λ (l : List Columns). slice_get l (suc q)) (sym e) ∙ s in absurd (cc bad)

box-fits : (b : Body) (css : List Columns) (xss : List (List Tuple)) (ports : List Columns) (q : ℕ) (cs : Columns) → IsTypedBody css b ports → Aligned css xss → slice_get ports q ≡ Some cs → FitsColumns cs (box_list b q xss)
box-fits (body.Filter ps) css xss ports q cs t h s =
    same-kinds cs (first_columns css) (all_at (λ ds. kinds_of ds ≡ kinds_of (first_columns css)) ports q cs (recursion_from_All (λ ds. kinds_of ds ≡ kinds_of (first_columns css)) ports t.2) s)
    (box_list (body.Filter ps) q xss) (All-kept (λ (x : Tuple). fields_fit (first_columns css) x.fields ≡ true) _ (nth xss 0) (first-fits css xss h))
box-fits (body.Map es) css xss ports q cs t h s =
    subst (λ z. FitsColumns z (box_list (body.Map es) q xss)) (only-columns cs t.0 ports q t.1 s)
    (map-fits (first_columns css) t.0 es
    (all_weaker (IsOver (first_columns css)) (λ (e : Checked). e.scope ≡ first_columns css) (λ e k. k.0) es (recursion_from_All (IsOver (first_columns css)) es t.2)) t.3 (nth xss 0) (first-fits css xss h))
box-fits body.Union css xss ports q cs t h s =
    subst (λ z. FitsColumns z (union xss)) (only-columns cs (first_columns css) ports q t.1 s)
    (subst (FitsColumns (first_columns css)) (sym (union-sorted xss))
    (All-sorted (λ (x : Tuple). fields_fit (first_columns css) x.fields ≡ true) (by_key time_of) _
    (All-joined (λ (x : Tuple). fields_fit (first_columns css) x.fields ≡ true) xss (all-alike (first_columns css) css xss (recursion_from_All (λ ds. ds ≡ first_columns css) css t.0) h))))
box-fits (body.BSort by slack) css xss ports q cs t h s =
    subst (λ z. FitsColumns z (box_list (body.BSort by slack) q xss)) (only-columns cs (first_columns css) ports q t.1 s)
    (bsort-keeps (λ vs. fields_fit (first_columns css) vs ≡ true) by slack (nth xss 0) (first-fits css xss h))
box-fits (body.Aggregate fs group w) css xss ports q cs t h s =
    subst (λ z. FitsColumns z (box_list (body.Aggregate fs group w) q xss)) (only-columns cs _ ports q t.1 s)
    (aggregate-fits (first_columns css) t.0 fs group t.2 (recursion_from_All (λ i. i < length (first_columns css)) group t.4) w (nth xss 0) (first-fits css xss h))
box-fits (body.Join size on) css xss ports q cs t h s =
    subst (λ z. FitsColumns z (box_list (body.Join size on) q xss)) (only-columns cs _ ports q t.1 s)
    (join-fits (first_columns css) (second_columns css) (codes "l_") (codes "r_") size on.tree [] (whole.merge_tuples (nth xss 0 ∷ nth xss 1 ∷ []))
    tt
    (All-sorted _ whole.tuple_earlier (ports_of (nth xss 0 ∷ nth xss 1 ∷ []))
    (sided (first_columns css) (second_columns css) (codes "l_") (codes "r_") size on.tree (nth xss 0) (nth xss 1) (first-fits css xss h) (second-fits css xss h))))
box-fits (body.Resample size fs) css xss ports q cs t h s =
    subst (λ z. FitsColumns z (box_list (body.Resample size fs) q xss)) (only-columns cs _ ports q t.1 s)
    (resample-fits (first_columns css) (second_columns css) t.0 (codes "l_") fs t.2 size (nth xss 1) (second-fits css xss h) (nth xss 0) (first-fits css xss h))

module _ (n : Network) (sound : IsSound n) (recorded : List (List Tuple)) (fit : SourcesFit n recorded) where
  source-fits : (s k : ℕ) → producer_of n.wires s ≡ Some (Source k) → FitsOption (columns_given n (Some (Source k))) (nth recorded k)
  source-fits s k e =
      let number = producer_has_number n.wires s (Source k) e in
      let count = sound.agrees.sources in
      let is = number.0 in let low = number.1 in
      let found = has_item n.sources k (omega (arith, is, low, count)) in
      subst (λ o. FitsOption (option_map (λ (x : source.Source). x.schema) o) (nth recorded k)) (sym found.1) (fit k found.0 found.1)

  aligned : (f : ℕ → List Tuple) → ((s : ℕ) → FitsOption (columns_of_stream n s) (f s)) → (ss : List ℕ) → AllByRecursion (λ s. is_there (producer_of n.wires s) ≡ true) ss
      → Aligned (filter_map (columns_of_stream n) ss) (map f ss)
  aligned f each [] there = tt
  aligned f each (s ∷ ss) there =
      let typed = stream_typed n s sound there.0 in
      subst (λ o. Aligned (cons_option o (filter_map (columns_of_stream n) ss)) (f s ∷ map f ss)) (sym typed.1)
      (subst (λ o. FitsOption o (f s)) typed.1 (each s), aligned f each ss there.1)

  inputs-there : (b : ℕ) → AllByRecursion (λ s. is_there (producer_of n.wires s) ≡ true) (inputs_of n.wires b)
  inputs-there b = by (slice_get n.wires.boxes b) refl
    where
      by : (o : Option BoxWires) → slice_get n.wires.boxes b ≡ o → AllByRecursion (λ s. is_there (producer_of n.wires s) ≡ true) (inputs_at o)
      by None e = tt
      by (Some x) e =
          recursion_from_All (λ s. is_there (producer_of n.wires s) ≡ true) x.inputs
          (all_at (λ (y : BoxWires). All (λ s. is_there (producer_of n.wires s) ≡ true) y.inputs) n.wires.boxes b x (recursion_from_All (λ (y : BoxWires). All (λ s. is_there (producer_of n.wires s) ≡ true) y.inputs) n.wires.boxes sound.agrees.wired) e)

  port-fits : (f : ℕ → List Tuple) → ((s : ℕ) → FitsOption (columns_of_stream n s) (f s)) → (s b q : ℕ) → producer_of n.wires s ≡ Some (Port b q) → (o : Option Node) → slice_get n.boxes b ≡ o
      → FitsOption (columns_of_port o q) (box_list_at o q (map f (inputs_of n.wires b)))
  port-fits f each s b q e None there = refl
  port-fits f each s b q e (Some x) there =
      let found = has_item x.schemas q (port-low n sound s b q x e there) in
      subst (λ z. FitsOption z (box_list x.body q (map f (inputs_of n.wires b)))) (sym found.1)
      (box-fits x.body (input_columns n b) (map f (inputs_of n.wires b)) x.schemas q found.0 (sound.typed b x there) (aligned f each (inputs_of n.wires b) (inputs-there b)) found.1)

  produced-fits : (f : ℕ → List Tuple) → ((s : ℕ) → FitsOption (columns_of_stream n s) (f s)) → (s : ℕ) (p : Option Producer) → producer_of n.wires s ≡ p → FitsOption (columns_given n p) (produced n recorded f p)
  produced-fits f each s None e = refl
  produced-fits f each s (Some (Source k)) e = source-fits s k e
  produced-fits f each s (Some (Port b q)) e = port-fits f each s b q e (slice_get n.boxes b) refl

  within-fits : (k s : ℕ) → FitsOption (columns_of_stream n s) (full_within n recorded k s)
  within-fits zero s = nothing (columns_of_stream n s)
    where
      nothing : (o : Option Columns) → FitsOption o []
      nothing None = refl
      nothing (Some cs) = tt
  within-fits (suc k) s = produced-fits (full_within n recorded k) (within-fits k) s (producer_of n.wires s) refl

  pub streams-fit : StreamsFit n recorded
  streams-fit s = within-fits (length n.boxes + 1) s
