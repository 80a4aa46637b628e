-- What is kept of an arc after a push and after a pop.
use Rattle.std.proofs.Common.{◌≡◌, ◌≢◌, ℕ, zero, suc, ◌+◌, ◌-◌, ◌<◌, ◌≤◌, Bool, true, false, cond, List, [], ◌∷◌, ◌++◌, Option, Some, None, length, refl, sym, ap, subst, ◌∙◌, inl, arith, get_or}
use Rattle.std.proofs.Math.ListN.{set}
use Rattle.std.specs.Prelude.{slice_get, is_some, option_map, unwrap_or}
use Rattle.std.proofs.lemmas.List.{length-append}
use Rattle.std.proofs.lemmas.Option.{slice_get_read}
use Rattle.sq_item.specs.declared.Item.{Item}
use Rattle.sq_link.proofs.ListLemmas.{eqb-other}
use Rattle.sq_link.specs.ChainLists.{StandsIn, head_or}
use Rattle.sq_outside.specs.Disks.{Pages}
use Rattle.sq_pool.specs.Pools.{Pooled}
use Rattle.sq_pool.specs.Trust.{Tells}
use Rattle.sq_paged.specs.Fronts.{Face, IsFaceOf, IsPopped, first_time, first_time_or, pushed}
use Rattle.sq_paged.specs.KeptPages.{items_kept}
use Rattle.sq_paged.specs.Faces.{paged_face, paged_face_at, nodes_on, paged_items_on, items_along, IsKeptPage, IsPagedLane, PagedTogether, kept_at, count_along, is_first, last_node, last_at, last_if}
use Rattle.sq_paged.specs.Steps.{AddsItem, Removes}
use Rattle.sq_paged.specs.declared.Lane.{Lane}
use Rattle.sq_bring.specs.declared.bring.Kept.{Kept}
use Rattle.sq_paged.specs.declared.Queues.{Queues}
use Rattle.sq_paged.proofs.KeptLemmas.{first-behind}
use Rattle.sq_paged.proofs.TouchLemmas.{together-by}
use Rattle.sq_words.proofs.Lists.{get_set_same, get_set_other}

is-first-some : (n : ℕ) → 1 ≤ n → is_first n ≡ true
is-first-some n h = ap (λ (b : Bool). cond b false true) (eqb-other n 0 (λ e. absurd (omega (arith, e, h))))

pub some-count : (n : ℕ) → is_first n ≡ true → 1 ≤ n
some-count zero h = absurd cc
some-count (suc n) h = omega arith

-- ---- a push

pub some-first : (o : Option ℕ) (time : ℕ) → is_some (first_time_or o time) ≡ true
some-first None time = refl
some-first (Some t) time = refl

first-pushed : (items : List Item) (item : Item) → first_time_or (first_time items) item.time ≡ first_time (items ++ item ∷ [])
first-pushed [] item = refl
first-pushed (x ∷ items) item = refl

pub pushed-together : (q : Queues) (told : Option Pages) (m : Queues) (now : Option Pages) (r : Queues) (arc node : ℕ) (item : Item) (lane new : Lane) → PagedTogether q told → AddsItem q told m now arc node item → arc < length q.lanes.items
    → slice_get q.lanes.items arc ≡ Some lane → r.lanes.items ≡ set q.lanes.items arc new → paged_face_at (Some new) ≡ pushed (paged_face_at (Some lane)) item.time → new.last ≡ Some node → PagedTogether (record m { lanes = r.lanes }) now
pushed-together q told m now r arc node item lane new g a inside was lanes is last =
    let own = g.lanes arc in
    let wasc : (paged_face_at (slice_get q.lanes.items arc)).count ≡ lane.count = ap (λ (o : Option Lane). (paged_face_at o).count) was in
    let more : new.count ≡ lane.count + 1 = ap (λ (f : Face). f.count) is in
    together-by q told m now r arc new g a.rest inside lanes (record {
      count = omega (arith, own.count, wasc, more, a.count);
      first = ap (λ (f : Face). is_some f.first) is ∙ some-first lane.first item.time ∙ sym (is-first-some new.count (omega (arith, more)));
      last = last ∙ sym a.last;
    }) (λ tells.
    let f = g.faces (a.rest.tells tells) arc in
    subst (λ (xs : List Item). IsFaceOf (paged_face_at (Some new)) xs) (sym (a.items tells)) (record {
      count = omega (arith, more, wasc, f.count, length-append (paged_items_on q told arc) (item ∷ []));
      first = ap (λ (x : Face). x.first) is ∙ ap (λ (o : Option Lane). first_time_or (paged_face_at o).first item.time) (sym was) ∙ ap (λ (o : Option ℕ). first_time_or o item.time) f.first ∙ first-pushed (paged_items_on q told arc) item;
    }))

-- ---- a pop

-- the time that is first, by the nodes that are left
abbrev pub front_of : List Kept → List ℕ → Option ℕ
front_of kept nodes = option_map (λ node. (kept_at kept node).time) (head_or nodes None)

front-first : (kept : List Kept) (xs : List ℕ) → ((node : ℕ) → StandsIn node xs → 1 ≤ (kept_at kept node).count) → is_some (front_of kept xs) ≡ is_first (count_along kept xs)
front-first kept [] h = refl
front-first kept (x ∷ xs) h = sym (is-first-some (count_along kept (x ∷ xs)) (omega (arith, h x (inl refl))))

front-last : (kept : List Kept) (xs : List ℕ) (last : Option ℕ) → ((first : ℕ) (behind : List ℕ) → xs ≡ first ∷ behind → last_node xs ≡ last) → last_if (front_of kept xs) last ≡ last_node xs
front-last kept [] last h = refl
front-last kept (x ∷ xs) last h = sym (h x xs refl)

front-time : (pool : Pooled) (now : Option Pages) (kept : List Kept) (xs : List ℕ) → ((node : ℕ) → StandsIn node xs → IsKeptPage pool now (kept_at kept node)) → Tells now → front_of kept xs ≡ first_time (items_along pool now kept xs)
front-time pool now kept [] h t = refl
front-time pool now kept (x ∷ xs) h t = sym (first-behind (items_kept pool now (kept_at kept x)) (items_along pool now kept xs) (kept_at kept x).time ((h x (inl refl)).timed t))

-- the lane of an arc of which the first item was popped
abbrev pub popped : Lane → Option ℕ → Lane
popped lane first = record lane { count = lane.count - 1; first = first; last = last_if first lane.last }

popped-lane : (q : Queues) (told : Option Pages) (r : Queues) (now : Option Pages) (arc : ℕ) (item : Item) (lane : Lane) → PagedTogether q told → Removes q told r now arc item → slice_get q.lanes.items arc ≡ Some lane
    → IsPagedLane (Some (popped lane (front_of r.kept.items (nodes_on r arc)))) r.kept.items (nodes_on r arc)
popped-lane q told r now arc item lane g p was =
    let own = g.lanes arc in
    let wasc : (paged_face_at (slice_get q.lanes.items arc)).count ≡ lane.count = ap (λ (o : Option Lane). (paged_face_at o).count) was in
    let less : lane.count - 1 ≡ count_along r.kept.items (nodes_on r arc) = omega (arith, own.count, wasc, p.count) in
    let last : lane.last ≡ last_node (nodes_on q arc) = sym (ap last_at was) ∙ own.last in
    record {
      count = less;
      first = front-first r.kept.items (nodes_on r arc) (λ node h. (p.rest.pages arc node h).some) ∙ ap is_first (sym less);
      last = front-last r.kept.items (nodes_on r arc) lane.last (λ first behind e. p.last first behind e ∙ sym last);
    }

pub popped-together : (q : Queues) (told : Option Pages) (m : Queues) (now : Option Pages) (r : Queues) (arc : ℕ) (item : Item) (lane new : Lane) → PagedTogether q told → Removes q told m now arc item → arc < length q.lanes.items
    → slice_get q.lanes.items arc ≡ Some lane → r.lanes.items ≡ set q.lanes.items arc new → new ≡ popped lane (front_of m.kept.items (nodes_on m arc)) → PagedTogether (record m { lanes = r.lanes }) now
popped-together q told m now r arc item lane new g p inside was lanes is =
    let front = front_of m.kept.items (nodes_on m arc) in
    let wasc : (paged_face_at (slice_get q.lanes.items arc)).count ≡ lane.count = ap (λ (o : Option Lane). (paged_face_at o).count) was in
    together-by q told m now r arc (popped lane front) g p.rest inside (lanes ∙ ap (λ (l : Lane). set q.lanes.items arc l) is) (popped-lane q told m now arc item lane g p was) (λ tells.
    let f = g.faces (p.rest.tells tells) arc in
    let long : length (paged_items_on q told arc) ≡ suc (length (paged_items_on m now arc)) = ap length (p.items tells) in
    record {
      count = omega (arith, wasc, f.count, long);
      first = front-time m.pool now m.kept.items (nodes_on m arc) (λ node h. p.rest.pages arc node h) tells;
    })

pub popped-face : (q : Queues) (told : Option Pages) (m : Queues) (now : Option Pages) (r : Queues) (arc : ℕ) (item : Item) (lane new : Lane) → PagedTogether q told → Removes q told m now arc item → arc < length q.lanes.items
    → slice_get q.lanes.items arc ≡ Some lane → r.lanes.items ≡ set q.lanes.items arc new → new ≡ popped lane (front_of m.kept.items (nodes_on m arc)) → IsPopped (paged_face q arc) (paged_face r arc)
popped-face q told m now r arc item lane new g p inside was lanes is =
    let l = popped-lane q told m now arc item lane g p was in
    let own = g.lanes arc in
    let wasc : (paged_face_at (slice_get q.lanes.items arc)).count ≡ lane.count = ap (λ (o : Option Lane). (paged_face_at o).count) was in
    let front = front_of m.kept.items (nodes_on m arc) in
    let will : paged_face r arc ≡ paged_face_at (Some (popped lane front)) = ap (λ (ls : List Lane). paged_face_at (slice_get ls arc)) lanes ∙ ap paged_face_at (get_set_same q.lanes.items arc new inside) ∙ ap (λ (x : Lane). paged_face_at (Some x)) is in
    subst (λ (f : Face). IsPopped (paged_face q arc) f) (sym will) (record {
      count = omega (arith, wasc, own.count, p.count);
      first = l.first;
      ended = ap (λ (o : Option Lane). (paged_face_at o).ended) (sym was);
    })

-- ---- lanes as they are read and written

pub lane-read : (xs ys : List Lane) (arc : ℕ) (lane : Lane) → ys ≡ xs → arc < length xs → lane ≡ get_or ys arc lane → slice_get xs arc ≡ Some lane
lane-read xs ys arc lane same inside e = slice_get_read xs (length xs) arc lane refl inside (e ∙ ap (λ (ls : List Lane). get_or ls arc lane) same)

pub other-face : (xs ys : List Lane) (arc other : ℕ) (new : Lane) → ys ≡ set xs arc new → other ≢ arc → paged_face_at (slice_get ys other) ≡ paged_face_at (slice_get xs other)
other-face xs ys arc other new lanes differ = ap (λ (ls : List Lane). paged_face_at (slice_get ls other)) lanes ∙ ap paged_face_at (get_set_other xs arc other new differ)

pub first-given : (o : Option ℕ) (time : ℕ) → Some (unwrap_or o time) ≡ first_time_or o time
first-given None time = refl
first-given (Some t) time = refl

pub pushed-is : (lane : Lane) (last : Option ℕ) (time count first : ℕ) → count ≡ lane.count + 1 → first ≡ unwrap_or lane.first time
    → paged_face_at (Some (record { count = count; first = Some first; last = last; ended = lane.ended })) ≡ pushed (paged_face_at (Some lane)) time
pushed-is lane last time count first more is =
    let one : Face = record { count = count; first = Some first; ended = lane.ended } in
    ap (λ (n : ℕ). record one { count = n }) more ∙ ap (λ (o : Option ℕ). record one { count = lane.count + 1; first = o }) (ap (λ (n : ℕ). Some n) is ∙ first-given lane.first time)
