-- As many values as a stream has columns are what the box takes that reads the stream.
use Rattle.std.proofs.Common.{◌≡◌, ℕ, zero, suc, ◌+◌, ◌-◌, ◌<◌, ◌≤◌, eqb, leb, Bool, true, ◌&&◌, if◌then◌else◌, List, [], ◌∷◌, ◌++◌, map, length, take, Option, Some, None, refl, ap, sym, ◌∙◌, subst, length-append, arith}
use Rattle.std.proofs.lemmas.Bool.Decides.{nat_tests}
use Rattle.std.specs.Prelude.{slice_get, codes, nat_le, ◌==◌}
use Rattle.std.specs.List.{list_all, filter, filter_map, cons_option, All, AllByRecursion}
use Rattle.std.proofs.lemmas.List.Elements.{recursion_from_All}
use Rattle.sq_value.specs.declared.Kind.{Kind}
use Rattle.sq_value.specs.declared.Value.{Value}
use Rattle.sq_value.specs.Values.{Columns}
use Rattle.sq_words.specs.Lists.{same_bytes}
use Rattle.sq_graph.specs.declared.BoxKind.{BoxKind}
use Rattle.sq_graph.specs.declared.BoxWires.{BoxWires}
use Rattle.sq_graph.specs.Wires.{producer_of, inputs_of, inputs_at}
use Rattle.sq_graph.specs.Order.{is_there}
use Rattle.sq_net.proofs.StreamLemmas.{stream_typed}
use Rattle.sq_net.specs.declared.Body.{Body}
use Rattle.sq_net.specs.declared.Body.TheVariants as body
use Rattle.sq_net.specs.declared.Node.{Node}
use Rattle.sq_net.specs.declared.Network.{Network}
use Rattle.sq_net.specs.Columns.{prefixed, pair_columns}
use Rattle.sq_net.specs.SoundNetworks.{IsSound, IsTypedBody, body_within, node_within, is_between, kind_of_body, takes_within}
use Rattle.sq_net.specs.Streams.{columns_of_stream}
use Rattle.sq_place.specs.declared.DropPoint.{DropPoint}
use Rattle.sq_points.specs.Points.{points_of}
use Rattle.sq_below.specs.Ports.{body_fits}
use Rattle.sq_below.specs.Actors.{Sources, Box, WindowDrop, OutputGate}
use Rattle.sq_below.proofs.PortTypes.{resample-takes, left-count, length-prefixed, side-fits}
use Rattle.sq_start.specs.Numbers.{place_stream}
use Rattle.sq_start.specs.Arrivals.{point_streams, TuplesAreTaken}
use Rattle.sq_start.specs.NewOperators.{node_fits}
use Rattle.sq_lists.specs.Pairs.{left_fields}
use Rattle.sq_words.proofs.Bools.{and_true, and_first}
use Rattle.sq_words.proofs.Lists.{number_there, has_item}
use Rattle.sq_words.proofs.Numbers.{nat_lt_true, below_one, leb_from, leb_true}
use Rattle.std.proofs.lemmas.Bool.{and_from}
use Rattle.sq_points.proofs.Bounds.{at_least}

-- how many streams a box takes
abbrev Takes : Body → ℕ → Type 0
Takes (body.Filter preds) n = n ≡ 1
Takes (body.Map exprs) n = n ≡ 1
Takes body.Union n = 1 ≤ n
Takes (body.BSort by slack) n = n ≡ 1
Takes (body.Aggregate funcs group window) n = n ≡ 1
Takes (body.Join size on) n = n ≡ 2
Takes (body.Resample size fs) n = n ≡ 2

abbrev is_left : List ℕ × Kind → Bool
is_left c = same_bytes (take 2 c.0) (108 ∷ 95 ∷ [])

none-left : (cs : Columns) → length (filter is_left (prefixed (codes "r_") cs)) ≡ 0
none-left [] = refl
none-left (c ∷ cs) = none-left cs

-- a value list that is as long as the columns of an input
record Fitting (n : Network) (ss : List ℕ) (port : ℕ) (fields : List Value) : Type 0 where
  stream : ℕ
  there : slice_get ss port ≡ Some stream
  columns : Columns
  are : columns_of_stream n stream ≡ Some columns
  fit : length fields ≡ length columns

abbrev AllTyped : Network → List ℕ → Type 0
AllTyped n ss = (i s : ℕ) → slice_get ss i ≡ Some s → (cs : Columns) × (columns_of_stream n s ≡ Some cs)

join-takes : (n : Network) (ss : List ℕ) (scope : Columns) (port : ℕ) (fields : List Value) → length ss ≡ 2 → scope ≡ pair_columns (filter_map (columns_of_stream n) ss) → leb (length (pair_columns (filter_map (columns_of_stream n) ss))) 16 ≡ true
    → AllTyped n ss → Fitting n ss port fields → (nat_le port 1 && nat_le (length fields) (if eqb port 0 then left_fields scope else 16 - left_fields scope)) ≡ true
join-takes n [] scope port fields two is most typed f = absurd (omega (arith, two))
join-takes n (s ∷ []) scope port fields two is most typed f = absurd (omega (arith, two))
join-takes n (s ∷ t ∷ u ∷ ss) scope port fields two is most typed f = absurd (omega (arith, two))
join-takes n (s ∷ t ∷ []) scope port fields two is most typed f = by (typed 0 s refl) (typed 1 t refl)
  where
    low : port < 2
    low = number_there (s ∷ t ∷ []) port f.stream f.there

    count : length fields ≡ length f.columns
    count = f.fit

    at-left : port ≡ 0 → f.stream ≡ s
    at-left e = let x : Some s ≡ Some f.stream = ap (slice_get (s ∷ t ∷ [])) (sym e) ∙ f.there in let y : s ≡ f.stream = cc x in sym y

    at-right : port ≡ 1 → f.stream ≡ t
    at-right e = let x : Some t ≡ Some f.stream = ap (slice_get (s ∷ t ∷ [])) (sym e) ∙ f.there in let y : t ≡ f.stream = cc x in sym y

    same : (v : ℕ) (cs : Columns) → f.stream ≡ v → columns_of_stream n v ≡ Some cs → f.columns ≡ cs
    same v cs e c = let x : Some f.columns ≡ Some cs = sym f.are ∙ ap (columns_of_stream n) e ∙ c in cc x

    goal : ℕ → Type 0
    goal l = (nat_le port 1 && nat_le (length fields) (if eqb port 0 then l else 16 - l)) ≡ true

    by : ((cs : Columns) × (columns_of_stream n s ≡ Some cs)) → ((ds : Columns) × (columns_of_stream n t ≡ Some ds)) → (nat_le port 1 && nat_le (length fields) (if eqb port 0 then left_fields scope else 16 - left_fields scope)) ≡ true
    by (cs, ea) (ds, eb) =
        let ins : filter_map (columns_of_stream n) (s ∷ t ∷ []) ≡ cs ∷ ds ∷ [] = ap (λ o. cons_option o (filter_map (columns_of_stream n) (t ∷ []))) ea ∙ ap (λ o. cs ∷ cons_option o []) eb in
        let left : left_fields scope ≡ length cs = ap left_fields (is ∙ ap pair_columns ins) ∙ left-count cs ds in
        let sum = leb_from (length (pair_columns (cs ∷ ds ∷ []))) 16 (subst (λ l. leb (length (pair_columns l)) 16 ≡ true) ins most) in
        let all = length-append (prefixed (codes "l_") cs) (prefixed (codes "r_") ds) in
        let one = length-prefixed (codes "l_") cs in let other = length-prefixed (codes "r_") ds in
        subst (λ l. (nat_le port 1 && nat_le (length fields) (if eqb port 0 then l else 16 - l)) ≡ true) (sym left)
        (side-fits (length cs) (length ds) (length fields) port (omega (arith, sum, all, one, other))
        (λ e. let z = ap (λ (l : Columns). length l) (same s cs (at-left e) ea) in omega (arith, count, z))
        (λ e. let z = ap (λ (l : Columns). length l) (same t ds (at-right e) eb) in omega (arith, count, z)) low)

body-takes : (n : Network) (ss : List ℕ) (b : Body) (ports : List Columns) (port : ℕ) (fields : List Value) → Takes b (length ss) → body_within b ≡ true → IsTypedBody (filter_map (columns_of_stream n) ss) b ports
    → AllTyped n ss → Fitting n ss port fields → body_fits b (length ss) port fields ≡ true
body-takes n ss (body.Filter ps) ports port fields f inner t typed h = refl
body-takes n ss (body.Map es) ports port fields f inner t typed h = inner
body-takes n ss body.Union ports port fields f inner t typed h = nat_lt_true port (length ss) (number_there ss port h.stream h.there)
body-takes n ss (body.BSort by slack) ports port fields f inner t typed h = refl
body-takes n ss (body.Aggregate fs group window) ports port fields f inner t typed h =
    let low = number_there ss port h.stream h.there in
    let few = at_least 1 16 (length fs) (and_first (is_between 1 16 (length fs)) (nat_le (length group) 16) inner) in
    and_from (eqb port 0) (nat_le 1 (length group + length fs) && nat_le (length group + length fs) 16) (below_one port (omega (arith, f, low)))
    (and_from (nat_le 1 (length group + length fs)) (nat_le (length group + length fs) 16) (leb_true 1 (length group + length fs) (omega (arith, few))) t.6)
body-takes n ss (body.Join size on) ports port fields f inner t typed h = join-takes n ss on.scope port fields f t.0.0.0 t.2 typed h
body-takes n ss (body.Resample size fs) ports port fields f inner t typed h = resample-takes n ss (length fs) port h.stream h.columns fields f h.there h.are h.fit t.5

-- ---- from a sound network

one-of : (k : ℕ) → eqb k 1 ≡ true → k ≡ 1
one-of k h = grind (arith, nat_tests)

two-of : (k : ℕ) → eqb k 2 ≡ true → k ≡ 2
two-of k h = grind (arith, nat_tests)

takes-body : (b : Body) (kind : BoxKind) (k : ℕ) → kind ≡ kind_of_body b → takes_within kind k ≡ true → Takes b k
takes-body (body.Filter ps) kind k is h = one-of k (subst (λ z. takes_within z k ≡ true) is h)
takes-body (body.Map es) kind k is h = one-of k (subst (λ z. takes_within z k ≡ true) is h)
takes-body body.Union kind k is h = (let leb_true : is_between 1 8 k ≡ true = subst (λ z. takes_within z k ≡ true) is h in at_least 1 8 k leb_true)
takes-body (body.BSort by slack) kind k is h = one-of k (subst (λ z. takes_within z k ≡ true) is h)
takes-body (body.Aggregate fs group window) kind k is h = one-of k (subst (λ z. takes_within z k ≡ true) is h)
takes-body (body.Join size on) kind k is h = two-of k (subst (λ z. takes_within z k ≡ true) is h)
takes-body (body.Resample size fs) kind k is h = two-of k (subst (λ z. takes_within z k ≡ true) is h)

takes-at : (ws : List BoxWires) (bs : List Node) (at : ℕ) (b : Node) → map (λ w. w.kind) ws ≡ map (λ b. kind_of_body b.body) bs → list_all (λ w. takes_within w.kind (length w.inputs)) ws ≡ true
    → slice_get bs at ≡ Some b → Takes b.body (length (inputs_at (slice_get ws at)))
takes-at ws [] at b same h there = cc there
takes-at [] (y ∷ bs) at b same h there = cc same
takes-at (w ∷ ws) (y ∷ bs) zero b same h there =
    let e : y ≡ b = cc there in
    let k : w.kind ≡ kind_of_body y.body = cc same in
    subst (λ (z : Node). Takes z.body (length w.inputs)) e (takes-body y.body w.kind (length w.inputs) k (and_true (takes_within w.kind (length w.inputs)) (list_all (λ w. takes_within w.kind (length w.inputs)) ws) h).0)
takes-at (w ∷ ws) (y ∷ bs) (suc at) b same h there =
    takes-at ws bs at b (cc same) (and_true (takes_within w.kind (length w.inputs)) (list_all (λ w. takes_within w.kind (length w.inputs)) ws) h).1 there

box-takes : (n : Network) → IsSound n → (at : ℕ) (b : Node) → slice_get n.boxes at ≡ Some b → Takes b.body (length (inputs_of n.wires at))
box-takes n sound at b there = takes-at n.wires.boxes n.boxes at b sound.agrees.kinds (and_true _ _ sound.within).1 there

body-within-at : (bs : List Node) (at : ℕ) (b : Node) → list_all node_within bs ≡ true → slice_get bs at ≡ Some b → body_within b.body ≡ true
body-within-at [] at b h there = cc there
body-within-at (y ∷ bs) zero b h there =
    let e : y ≡ b = cc there in
    subst (λ (z : Node). body_within z.body ≡ true) e (and_true _ _ (and_true _ _ (and_true (node_within y) (list_all node_within bs) h).0).0).0
body-within-at (y ∷ bs) (suc at) b h there = body-within-at bs at b (and_true (node_within y) (list_all node_within bs) h).1 there

all-typed : (n : Network) → IsSound n → (ss : List ℕ) → AllByRecursion (λ s. is_there (producer_of n.wires s) ≡ true) ss → AllTyped n ss
all-typed n sound [] h i s is = cc is
all-typed n sound (x ∷ ss) h zero s is = (let e : x ≡ s = cc is in subst (λ z. (cs : Columns) × (columns_of_stream n z ≡ Some cs)) e (stream_typed n x sound h.0))
all-typed n sound (x ∷ ss) h (suc i) s is = all-typed n sound ss h.1 i s is

there-at : (P : ℕ → Type 0) (ws : List BoxWires) (at : ℕ) → AllByRecursion (λ (w : BoxWires). All P w.inputs) ws → AllByRecursion P (inputs_at (slice_get ws at))
there-at P [] at h = tt
there-at P (w ∷ ws) zero h = recursion_from_All P w.inputs h.0
there-at P (w ∷ ws) (suc at) h = there-at P ws at h.1

inputs-there : (n : Network) → IsSound n → (at : ℕ) → AllByRecursion (λ s. is_there (producer_of n.wires s) ≡ true) (inputs_of n.wires at)
inputs-there n sound at =
    there-at (λ s. is_there (producer_of n.wires s) ≡ true) n.wires.boxes at
    (recursion_from_All (λ (b : BoxWires). All (λ s. is_there (producer_of n.wires s) ≡ true) b.inputs) n.wires.boxes sound.agrees.wired)

-- values that are as many as the columns of a stream that a box takes are what the box takes
box-wide : (n : Network) → IsSound n → (at port s : ℕ) (b : Node) (fields : List Value) (cs : Columns) → slice_get n.boxes at ≡ Some b → slice_get (inputs_of n.wires at) port ≡ Some s
    → columns_of_stream n s ≡ Some cs → length fields ≡ length cs → body_fits b.body (length (inputs_of n.wires at)) port fields ≡ true
box-wide n sound at port s b fields cs there is are wide =
    body-takes n (inputs_of n.wires at) b.body b.schemas port fields (box-takes n sound at b there)
    (body-within-at n.boxes at b (and_true _ _ (and_true _ _ (and_true _ _ sound.within).0).0).1 there) (sound.typed at b there) (all-typed n sound (inputs_of n.wires at) (inputs-there n sound at))
    (record { stream = s; there = is; columns = cs; are = are; fit = wide })

first-only : (x port s : ℕ) → slice_get (x ∷ []) port ≡ Some s → port ≡ 0
first-only x zero s e = refl
first-only x (suc port) s e = absurd (cc e)

pub tuples-taken : TuplesAreTaken
tuples-taken n Sources port s cs fields sound low at are wide = absurd (cc at)
tuples-taken n (Box b) port s cs fields sound low at are wide =
    let x = has_item n.boxes b low in
    ap (λ o. node_fits o (length (inputs_of n.wires b)) port fields) x.1 ∙ box-wide n sound b port s x.0 fields cs x.1 at are wide
tuples-taken n (WindowDrop w) port s cs fields sound low at are wide = by (slice_get (points_of n) w) at
  where
    by : (o : Option DropPoint) → slice_get (point_streams n o) port ≡ Some s → (port == 0) ≡ true
    by None e = absurd (cc e)
    by (Some p) e = ap (λ k. k == 0) (first-only (place_stream n p.at) port s e)
tuples-taken n (OutputGate o) port s cs fields sound low at are wide = refl
