-- Names of ports and of streams.
use Rattle.std.proofs.Common.{◌≡◌, ◌≢◌, ◌∙◌, ◌/◌, ◌%◌, ap, sym, refl, ℕ, zero, suc, ◌+◌, ◌-◌, ◌<◌, ◌≤◌, ◌^◌, Bool, true, false, cond, ◌&&◌, ◌==◌, List, [], ◌∷◌, ◌++◌, map, length, drop, get_or, Option, Some, None, slice_get, arith}
use Rattle.std.specs.Prelude.{IfSome}
use Rattle.std.specs.Fmt.{decimal}
use Rattle.std.proofs.lemmas.Fmt.{decimal_digit, decimal_nonempty, decimal_step}
use Rattle.std.proofs.lemmas.Bool.{false_from_ne_true, ltb-false, ltb-true}
use Rattle.std.proofs.Math.Dec.{ltb}
use Rattle.sq_expr.specs.Trees.{Checked}
use Rattle.std.specs.List.{AllByRecursion, flat_map, position_from, sum_by}
use Rattle.std.proofs.lemmas.List.{length-append, length-map, take_all, drop_more}
use Rattle.std.proofs.lemmas.List.Sums.{sum_by-cons}
use Rattle.std.proofs.lemmas.List.FromFn.{length-map-range_with_len}
use Rattle.sq_words.specs.Lists.{same_bytes}
use Rattle.sq_value.specs.Values.{Columns}
use Rattle.sq_graph.specs.declared.BoxWires.{BoxWires}
use Rattle.sq_graph.specs.Wires.{producers_of, producer_of}
use Rattle.sq_graph.specs.declared.Producer.{Producer}
use Rattle.sq_graph.specs.Order.{is_there}
use Rattle.sq_place.proofs.Final.{streams_count}
use Rattle.sq_net.specs.declared.Network.{Network}
use Rattle.sq_net.specs.declared.Source as declared
use Rattle.sq_net.specs.declared.Node.{Node}
use Rattle.sq_net.specs.declared.Body.{Body}
use Rattle.sq_net.specs.declared.Body.TheVariants.{Filter, Map, Union, BSort, Aggregate, Join, Resample}
use Rattle.sq_net.specs.SoundNetworks.{IsSound, IsTypedBody, input_columns}
use Rattle.sq_points.proofs.Bounds.{few_streams}
use Rattle.sq_tap.specs.Names.{is_dotted, port_names, ports_named, stream_names, stream_named}
use Rattle.sq_net.specs.Names.{port_name}
use Rattle.sq_words.proofs.Bools.{and_true}
use Rattle.sq_words.proofs.Numbers.{eq_itself, eq_from}
use Rattle.sq_words.proofs.Lists.{same_bytes_true, same_bytes_itself}

-- ---- digits

last_same : (a b : List ℕ) (x y : ℕ) → a ++ (x ∷ []) ≡ b ++ (y ∷ []) → (a ≡ b) × (x ≡ y)
last_same [] [] x y e = (refl, cc)
last_same [] (d ∷ []) x y e = absurd (cc e)
last_same [] (d ∷ e ∷ b) x y h = absurd (cc h)
last_same (c ∷ []) [] x y e = absurd (cc e)
last_same (c ∷ d ∷ a) [] x y e = absurd (cc e)
last_same (c ∷ a) (d ∷ b) x y e =
    let front : c ≡ d = cc in
    let behind : a ++ (x ∷ []) ≡ b ++ (y ∷ []) = cc in
    let more = last_same a b x y behind in
    (ap (λ k. k ∷ a) front ∙ ap (λ ks. d ∷ ks) more.0, more.1)

pub one_digit : (n : ℕ) → n < 10 → decimal n ≡ (48 + n % 10) ∷ []
one_digit n low = (let same : n ≡ n % 10 = omega (arith, low) in decimal_digit n low ∙ ap (λ k. (48 + k) ∷ []) same)

last_digit : (n : ℕ) → n < 2 ^ 32 → (ds : List ℕ) × (decimal n ≡ ds ++ ((48 + n % 10) ∷ []))
last_digit n small = by (ltb n 10) refl
  where
    by : (b : Bool) → ltb n 10 ≡ b → (ds : List ℕ) × (decimal n ≡ ds ++ ((48 + n % 10) ∷ []))
    by true e = ([], one_digit n (ltb-true n 10 e))
    by false e = (decimal (n / 10), decimal_step n (ltb-false n 10 e) (omega (arith, small)))

pub no_digits : (n : ℕ) (text : List ℕ) → n < 2 ^ 32 → length text ≡ 0 → false ≡ same_bytes text (decimal n)
no_digits n text small none =
    sym (false_from_ne_true (same_bytes text (decimal n)) (λ e.
    let same = ap (λ (ts : List ℕ). length ts) (same_bytes_true text (decimal n) e) in
    let some = decimal_nonempty n (omega (arith, small)) in
    omega (arith, none, same, some)))

pub other_digit : (n : ℕ) (text front : List ℕ) (x : ℕ) → n < 2 ^ 32 → text ≡ front ++ (x ∷ []) → x ≢ 48 + n % 10 → false ≡ same_bytes text (decimal n)
other_digit n text front x small is other =
    let written = last_digit n small in
    sym (false_from_ne_true (same_bytes text (decimal n)) (λ e. other (last_same front written.0 x (48 + n % 10) (sym is ∙ same_bytes_true text (decimal n) e ∙ written.1)).1))

pub same_digit : (n : ℕ) (text front ds : List ℕ) (x : ℕ) → decimal n ≡ ds ++ ((48 + n % 10) ∷ []) → text ≡ front ++ (x ∷ []) → x ≡ 48 + n % 10 → same_bytes front ds ≡ same_bytes text (decimal n)
same_digit n text front ds x written is same = by (same_bytes front ds) (same_bytes text (decimal n)) refl refl
  where
    whole : front ≡ ds → text ≡ decimal n
    whole e = is ∙ ap (λ k. front ++ (k ∷ [])) same ∙ ap (λ (ks : List ℕ). ks ++ ((48 + n % 10) ∷ [])) e ∙ sym written

    by : (a b : Bool) → same_bytes front ds ≡ a → same_bytes text (decimal n) ≡ b → a ≡ b
    by true true e f = refl
    by false false e f = refl
    by true false e f =
        let no : true ≡ false = sym (same_bytes_itself text) ∙ ap (same_bytes text) (whole (same_bytes_true front ds e)) ∙ f in cc
    by false true e f =
        let parts = last_same front ds x (48 + n % 10) (sym is ∙ same_bytes_true text (decimal n) f ∙ written) in
        let no : false ≡ true = sym e ∙ ap (λ (t : List ℕ). same_bytes t ds) parts.0 ∙ same_bytes_itself ds in cc

pub nothing_left : (text : List ℕ) (r : Bool) → r ≡ (length text == 0) → r ≡ same_bytes text []
nothing_left [] r e = e ∙ eq_itself 0
nothing_left (b ∷ text) r e = false_from_ne_true r (λ yes. let none = eq_from (length (b ∷ text)) 0 (sym e ∙ yes) in omega (arith, none))

-- ---- dotted names

dotted_true : (text name digits : List ℕ) → is_dotted text name digits ≡ true → text ≡ name ++ (46 ∷ digits)
dotted_true [] [] digits h = cc
dotted_true (b ∷ text) [] digits h =
    let parts = and_true (b == 46) (same_bytes text digits) h in
    ap (λ k. k ∷ text) (eq_from b 46 parts.0) ∙ ap (λ ts. 46 ∷ ts) (same_bytes_true text digits parts.1)
dotted_true [] (c ∷ name) digits h = cc
dotted_true (b ∷ text) (c ∷ name) digits h =
    let parts = and_true (b == c) (is_dotted text name digits) h in
    ap (λ k. k ∷ text) (eq_from b c parts.0) ∙ ap (λ ts. c ∷ ts) (dotted_true text name digits parts.1)

dotted_itself : (name digits : List ℕ) → is_dotted (name ++ (46 ∷ digits)) name digits ≡ true
dotted_itself [] digits = same_bytes_itself digits
dotted_itself (c ∷ name) digits = ap (λ b. b && is_dotted (name ++ (46 ∷ digits)) name digits) (eq_itself c) ∙ dotted_itself name digits

pub dotted_is : (text name digits : List ℕ) → is_dotted text name digits ≡ same_bytes text (name ++ (46 ∷ digits))
dotted_is text name digits = by (is_dotted text name digits) (same_bytes text (name ++ (46 ∷ digits))) refl refl
  where
    by : (a b : Bool) → is_dotted text name digits ≡ a → same_bytes text (name ++ (46 ∷ digits)) ≡ b → a ≡ b
    by true true e f = refl
    by false false e f = refl
    by true false e f =
        let is = dotted_true text name digits e in
        let no : true ≡ false = sym (same_bytes_itself text) ∙ ap (same_bytes text) is ∙ f in cc
    by false true e f =
        let is = same_bytes_true text (name ++ (46 ∷ digits)) f in
        let no : false ≡ true = sym e ∙ ap (λ (t : List ℕ). is_dotted t name digits) is ∙ dotted_itself name digits in cc

-- ---- places

pub ports_more : (name : List ℕ) (port many : ℕ) → 1 ≤ many → ports_named name port many ≡ port_name name (port + 1) ∷ ports_named name (port + 1) (many - 1)
ports_more name port zero some = absurd (omega arith)
ports_more name port (suc many) some = (let e : many ≡ suc many - 1 = omega arith in ap (λ k. port_name name (port + 1) ∷ ports_named name (port + 1) k) e)

pub found_in_front : {X : Type 0} (t : X → Bool) (i : ℕ) (xs ys : List X) (s : ℕ) → position_from t i xs ≡ Some s → position_from t i (xs ++ ys) ≡ Some s
found_in_front t i [] ys s h = cc
found_in_front t i (x ∷ xs) ys s h = by (t x) h (λ later. found_in_front t (i + 1) xs ys s later)
  where
    by : (b : Bool) → cond b (Some i) (position_from t (i + 1) xs) ≡ Some s → (position_from t (i + 1) xs ≡ Some s → position_from t (i + 1) (xs ++ ys) ≡ Some s)
        → cond b (Some i) (position_from t (i + 1) (xs ++ ys)) ≡ Some s
    by true h more = h
    by false h more = more h

pub none_in_front : {X : Type 0} (t : X → Bool) (i : ℕ) (xs ys : List X) → position_from t i xs ≡ None → position_from t i (xs ++ ys) ≡ position_from t (i + length xs) ys
none_in_front t i [] ys h = (let e : i ≡ i + 0 = omega arith in ap (λ k. position_from t k ys) e)
none_in_front t i (x ∷ xs) ys h = by (t x) h (λ later. none_in_front t (i + 1) xs ys later)
  where
    by : (b : Bool) → cond b (Some i) (position_from t (i + 1) xs) ≡ None → (position_from t (i + 1) xs ≡ None → position_from t (i + 1) (xs ++ ys) ≡ position_from t (i + 1 + length xs) ys)
        → cond b (Some i) (position_from t (i + 1) (xs ++ ys)) ≡ position_from t (i + suc (length xs)) ys
    by true h more = cc
    by false h more = more h ∙ (let e : i + 1 + length xs ≡ i + suc (length xs) = omega arith in ap (λ k. position_from t k ys) e)

place_low : {X : Type 0} (t : X → Bool) (i : ℕ) (xs : List X) (s : ℕ) → position_from t i xs ≡ Some s → s < i + length xs
place_low t i [] s h = cc
place_low t i (x ∷ xs) s h = by (t x) h (λ later. place_low t (i + 1) xs s later)
  where
    by : (b : Bool) → cond b (Some i) (position_from t (i + 1) xs) ≡ Some s → (position_from t (i + 1) xs ≡ Some s → s < i + 1 + length xs) → s < i + suc (length xs)
    by true h more = (let same : i ≡ s = cc in omega (arith, same))
    by false h more = (let low = more h in omega (arith, low))

-- ---- as many names as streams

names_of_ports : (ins : List Columns) (name : List ℕ) (b : Body) (ports : List Columns) → IsTypedBody ins b ports → length (port_names name b) ≡ length ports
names_of_ports ins name (Filter preds) ports typed = length-map-range_with_len (λ i. port_name name (i + 1)) 0 (length preds + 1) ∙ sym typed.1
names_of_ports ins name (Map exprs) ports typed = sym (ap (λ (cs : List Columns). length cs) typed.1)
names_of_ports ins name Union ports typed = sym (ap (λ (cs : List Columns). length cs) typed.1)
names_of_ports ins name (BSort by slack) ports typed = sym (ap (λ (cs : List Columns). length cs) typed.1)
names_of_ports ins name (Aggregate funcs group window) ports typed = sym (ap (λ (cs : List Columns). length cs) typed.1)
names_of_ports ins name (Join size on) ports typed = sym (ap (λ (cs : List Columns). length cs) typed.1)
names_of_ports ins name (Resample size funcs) ports typed = sym (ap (λ (cs : List Columns). length cs) typed.1)

each_from : (P : Node → Type 0) (xs : List Node) → ((i : ℕ) (x : Node) → slice_get xs i ≡ Some x → P x) → AllByRecursion P xs
each_from P [] h = tt
each_from P (x ∷ xs) h = (h zero x refl, each_from P xs (λ i y there. h (suc i) y there))

count_names : (ws : List BoxWires) (ds : List Node) → map (λ b. b.ports) ws ≡ map (λ b. length b.schemas) ds → AllByRecursion (λ (b : Node). length (port_names b.name b.body) ≡ length b.schemas) ds
    → length (flat_map (λ (b : Node). port_names b.name b.body) ds) ≡ sum_by (λ b. b.ports) ws
count_names [] [] same each = refl
count_names (w ∷ ws) [] same each = cc
count_names [] (d ∷ ds) same each = cc
count_names (w ∷ ws) (d ∷ ds) same each =
    let here : w.ports ≡ length d.schemas = cc in
    let later : map (λ (b : BoxWires). b.ports) ws ≡ map (λ (b : Node). length b.schemas) ds = cc in
    let long = length-append (port_names d.name d.body) (flat_map (λ (b : Node). port_names b.name b.body) ds) in
    let more = count_names ws ds later each.1 in
    let sum = sum_by-cons (λ (b : BoxWires). b.ports) w ws in
    let one = each.0 in
    omega (arith, here, long, more, sum, one)

pub boxes_named : (n : Network) → IsSound n → length n.sources + length (flat_map (λ (b : Node). port_names b.name b.body) n.boxes) ≡ length (producers_of n.wires)
boxes_named n sound =
    let count = streams_count n.wires in
    let all = ap (λ (bs : List BoxWires). sum_by (λ b. b.ports) bs) (take_all (length n.wires.boxes) n.wires.boxes (omega arith)) in
    let each = each_from (λ (b : Node). length (port_names b.name b.body) ≡ length b.schemas) n.boxes
    (λ i b there. names_of_ports (input_columns n i) b.name b.body b.schemas (sound.typed i b there)) in
    let names = count_names n.wires.boxes n.boxes sound.agrees.ports each in
    let sources = sound.agrees.sources in
    omega (arith, count, all, names, sources)

pub names_count : (n : Network) → length (stream_names n) ≡ length n.sources + length (flat_map (λ (b : Node). port_names b.name b.body) n.boxes)
names_count n =
    let long = length-append (map (λ (x : declared.Source). x.name) n.sources) (flat_map (λ (b : Node). port_names b.name b.body) n.boxes) in
    let first = length-map n.sources (λ (x : declared.Source). x.name) in
    omega (arith, long, first)

-- a sound network has few streams
pub names_few : (n : Network) → IsSound n → length (stream_names n) < 2 ^ 32
names_few n sound =
    let few = few_streams n sound in
    let same = boxes_named n sound in
    let count = names_count n in
    omega (arith, few, same, count)

there_low : (ps : List Producer) (i : ℕ) → i < length ps → is_there (slice_get ps i) ≡ true
there_low [] i low = absurd (omega arith)
there_low (p ∷ ps) zero low = refl
there_low (p ∷ ps) (suc i) low = there_low ps i (omega arith)

pub named_there : (n : Network) (name : List ℕ) (s : ℕ) → IsSound n → stream_named n name ≡ Some s → is_there (producer_of n.wires s) ≡ true
named_there n name s sound named =
    let low = place_low (same_bytes name) 0 (stream_names n) s named in
    let count = names_count n in
    let same = boxes_named n sound in
    there_low (producers_of n.wires) s (omega (arith, low, count, same))

pub length_more : {X Y : Type 0} (f : X → List Y) (x : X) (xs : List X) → length (flat_map f (x ∷ xs)) ≡ length (f x) + length (flat_map f xs)
length_more f x xs = length-append (f x) (flat_map f xs)

pub filter_ports : (name : List ℕ) (b : Body) (preds : List Checked) → b ≡ Filter preds → length (port_names name b) ≡ length preds + 1
filter_ports name b preds is =
    ap (λ (body : Body). length (port_names name body)) is ∙ length-map-range_with_len (λ i. port_name name (i + 1)) 0 (length preds + 1)

-- ---- boxes one after another

abbrev names_in : List Node → List (List ℕ)
names_in bs = flat_map (λ (b : Node). port_names b.name b.body) bs

rest_is : (bs : List Node) (i : ℕ) (b : Node) → i < length bs → b ≡ get_or bs i b → names_in (drop i bs) ≡ port_names b.name b.body ++ names_in (drop (i + 1) bs)
rest_is bs i b low is = ap names_in (drop_more bs i b low ∙ ap (λ (x : Node). x ∷ drop (i + 1) bs) (sym is))

pub found_here : (t : List ℕ → Bool) (number first i s : ℕ) (b : Node) (bs : List Node) (r : Option ℕ) → i < length bs → b ≡ get_or bs i b → r ≡ position_from t number (port_names b.name b.body) → r ≡ Some s
    → position_from t number (names_in (drop i bs)) ≡ position_from t first (names_in bs) → Some s ≡ position_from t first (names_in bs)
found_here t number first i s b bs r low is here some so_far =
    sym (found_in_front t number (port_names b.name b.body) (names_in (drop (i + 1) bs)) s (sym here ∙ some))
    ∙ ap (position_from t number) (sym (rest_is bs i b low is))
    ∙ so_far

pub none_here : (t : List ℕ → Bool) (number next first i : ℕ) (b : Node) (bs : List Node) (r : Option ℕ) → i < length bs → b ≡ get_or bs i b → r ≡ position_from t number (port_names b.name b.body) → r ≡ None
    → next ≡ length (port_names b.name b.body) → position_from t number (names_in (drop i bs)) ≡ position_from t first (names_in bs)
    → position_from t (number + next) (names_in (drop (i + 1) bs)) ≡ position_from t first (names_in bs)
none_here t number next first i b bs r low is here none many so_far =
    ap (λ k. position_from t (number + k) (names_in (drop (i + 1) bs))) many
    ∙ sym (none_in_front t number (port_names b.name b.body) (names_in (drop (i + 1) bs)) (sym here ∙ none))
    ∙ ap (position_from t number) (sym (rest_is bs i b low is))
    ∙ so_far

pub room_here : (i : ℕ) (b : Node) (bs : List Node) → i < length bs → b ≡ get_or bs i b → length (names_in (drop i bs)) ≡ length (port_names b.name b.body) + length (names_in (drop (i + 1) bs))
room_here i b bs low is = ap (λ (xs : List (List ℕ)). length xs) (rest_is bs i b low is) ∙ length-append (port_names b.name b.body) (names_in (drop (i + 1) bs))

pub none_left : (t : List ℕ → Bool) (number first i : ℕ) (bs : List Node) → length bs ≤ i → position_from t number (names_in (drop i bs)) ≡ position_from t first (names_in bs) → None ≡ position_from t first (names_in bs)
none_left t number first i bs past so_far = ap (λ (xs : List Node). position_from t number (names_in xs)) (sym (gone bs i past)) ∙ so_far
  where
    gone : (bs : List Node) (i : ℕ) → length bs ≤ i → drop i bs ≡ []
    gone [] zero past = refl
    gone [] (suc i) past = refl
    gone (b ∷ bs) zero past = absurd (omega arith)
    gone (b ∷ bs) (suc i) past = gone bs i (omega arith)

-- ---- sources, then boxes

pub named_in_front : (n : Network) (name : List ℕ) (s : ℕ) (ss : List declared.Source) (r : Option ℕ) → ss ≡ n.sources → r ≡ position_from (same_bytes name) 0 (map (λ (x : declared.Source). x.name) ss) → r ≡ Some s → stream_named n name ≡ Some s
named_in_front n name s ss r is here some =
    found_in_front (same_bytes name) 0 (map (λ (x : declared.Source). x.name) n.sources) (names_in n.boxes) s
    (sym (here ∙ ap (λ (xs : List declared.Source). position_from (same_bytes name) 0 (map (λ (x : declared.Source). x.name) xs)) is) ∙ some)

pub named_behind : (n : Network) (name : List ℕ) (ss : List declared.Source) (bs : List Node) (r q : Option ℕ) → ss ≡ n.sources → bs ≡ n.boxes
    → r ≡ position_from (same_bytes name) 0 (map (λ (x : declared.Source). x.name) ss) → r ≡ None → q ≡ position_from (same_bytes name) (length ss) (names_in bs) → q ≡ stream_named n name
named_behind n name ss bs r q is are here none later =
    later
    ∙ ap (λ (xs : List declared.Source). position_from (same_bytes name) (length xs) (names_in bs)) is
    ∙ ap (λ (xs : List Node). position_from (same_bytes name) (length n.sources) (names_in xs)) are
    ∙ (let long = length-map n.sources (λ (x : declared.Source). x.name) in
    let e : length n.sources ≡ 0 + length (map (λ (x : declared.Source). x.name) n.sources) = omega (arith, long) in
    ap (λ k. position_from (same_bytes name) k (names_in n.boxes)) e)
    ∙ sym (none_in_front (same_bytes name) 0 (map (λ (x : declared.Source). x.name) n.sources) (names_in n.boxes)
    (sym (here ∙ ap (λ (xs : List declared.Source). position_from (same_bytes name) 0 (map (λ (x : declared.Source). x.name) xs)) is) ∙ none))

pub all_there : (n : Network) (name : List ℕ) (r : Option ℕ) → IsSound n → r ≡ stream_named n name → IfSome r (λ s. is_there (producer_of n.wires s) ≡ true)
all_there n name None sound is = tt
all_there n name (Some s) sound is = named_there n name s sound (sym is)
