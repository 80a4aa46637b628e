-- Queues after the lane of one arc was written.
use Rattle.std.proofs.Common.{◌≡◌, ◌≢◌, ℕ, zero, suc, ◌<◌, ◌≤◌, List, [], ◌∷◌, ◌++◌, Option, Some, None, length, refl, sym, ap, subst, ◌∙◌, inl, inr, arith}
use Rattle.std.proofs.Math.ListN.{set, get_or, length-set}
use Rattle.std.proofs.lemmas.Bool.{cases_eq}
use Rattle.std.proofs.lemmas.List.{set-get_or}
use Rattle.std.proofs.lemmas.List.Sums.{sum_by-le}
use Rattle.std.proofs.lemmas.Option.{slice_get-get_or}
use Rattle.std.specs.Prelude.{is_some, slice_get}
use Rattle.std.specs.List.{AllByRecursion}
use Rattle.sq_item.specs.declared.Item.{Item}
use Rattle.sq_item.specs.SoundItems.{IsSoundItem}
use Rattle.sq_outside.specs.Disks.{Pages}
use Rattle.sq_paged.specs.Fronts.{Face}
use Rattle.sq_paged.specs.Faces as pages
use Rattle.sq_queue.specs.Faces.{bytes_taken, rooms_of, front_at, size, items_on, no_face, IsEmpty, IsLane, Together, IsBounded}
use Rattle.sq_queue.specs.declared.FrontLane.{FrontLane}
use Rattle.sq_queue.specs.declared.Queues.{Queues}
use Rattle.sq_paged.specs.declared.Queues.{Queues as Paged}
use Rattle.sq_paged.proofs.CallLemmas.{first-in}
use Rattle.sq_queue.proofs.LaneLemmas.{lane-face, none-first}
use Rattle.sq_queue.proofs.RoomLemmas.{bytes-within}
use Rattle.sq_words.proofs.Lists.{get_set_same, get_set_other}

-- where pages and lanes are as they should be, all stands together
pub together-by : (q : Queues) (told : Option Pages) → pages.PagedTogether q.paged told → pages.paged_size q.paged ≡ size q → ((arc : ℕ) → IsLane (slice_get q.lanes.items arc) (pages.paged_face q.paged arc)) → Together q told
together-by q told paged arcs lanes =
    record {
      paged = paged;
      arcs = arcs;
      lanes = lanes;
      faces = λ tells arc. lane-face (slice_get q.lanes.items arc) (pages.paged_face q.paged arc) (pages.paged_items_on q.paged told arc) (lanes arc) (paged.faces tells arc);
    }

pub own-lane : (q : Queues) (told : Option Pages) (arc : ℕ) (lane : FrontLane) → Together q told → slice_get q.lanes.items arc ≡ Some lane → IsLane (Some lane) (pages.paged_face q.paged arc)
own-lane q told arc lane g was = subst (λ (o : Option FrontLane). IsLane o (pages.paged_face q.paged arc)) was (g.lanes arc)

-- the lane of one arc was written, and what stands in its pages changed with it
pub written-together : (q : Queues) (told : Option Pages) (r : Queues) (now : Option Pages) (arc : ℕ) (lane new : FrontLane) → Together q told → pages.PagedTogether r.paged now → pages.paged_size r.paged ≡ pages.paged_size q.paged → arc < size q
    → slice_get q.lanes.items arc ≡ Some lane → r.lanes.items ≡ set q.lanes.items arc new → ((other : ℕ) → other ≢ arc → pages.paged_face r.paged other ≡ pages.paged_face q.paged other)
    → (IsLane (Some lane) (pages.paged_face q.paged arc) → IsLane (Some new) (pages.paged_face r.paged arc)) → Together r now
written-together q told r now arc lane new g paged sizes inside was lanes others own =
    let here : slice_get r.lanes.items arc ≡ Some new = ap (λ (ls : List FrontLane). slice_get ls arc) lanes ∙ get_set_same q.lanes.items arc new inside in
    together-by r now paged (sizes ∙ g.arcs ∙ sym (ap length lanes ∙ length-set q.lanes.items arc new)) (λ l.
    elim (cases_eq l arc) [
      | inl same ↦
          subst (λ (n : ℕ). IsLane (slice_get r.lanes.items n) (pages.paged_face r.paged n)) (sym same)
          (subst (λ (o : Option FrontLane). IsLane o (pages.paged_face r.paged arc)) (sym here) (own (own-lane q told arc lane g was)))
      | inr away ↦
          let there : slice_get r.lanes.items l ≡ slice_get q.lanes.items l = ap (λ (ls : List FrontLane). slice_get ls l) lanes ∙ get_set_other q.lanes.items arc l new away in
          subst (λ (o : Option FrontLane). IsLane o (pages.paged_face r.paged l)) (sym there) (subst (λ (f : Face). IsLane (slice_get q.lanes.items l) f) (sym (others l away)) (g.lanes l))
    ])

-- the items of the arc whose lane was written, and of the others
pub written-items : (q : Queues) (told : Option Pages) (r : Queues) (now : Option Pages) (arc : ℕ) (lane new : FrontLane) (more : List Item) → arc < size q → slice_get q.lanes.items arc ≡ Some lane → r.lanes.items ≡ set q.lanes.items arc new
    → new.front.items ++ pages.paged_items_on r.paged now arc ≡ (lane.front.items ++ pages.paged_items_on q.paged told arc) ++ more → items_on r now arc ≡ items_on q told arc ++ more
written-items q told r now arc lane new more inside was lanes own =
    let here : slice_get r.lanes.items arc ≡ Some new = ap (λ (ls : List FrontLane). slice_get ls arc) lanes ∙ get_set_same q.lanes.items arc new inside in
    ap (λ (o : Option FrontLane). front_at o ++ pages.paged_items_on r.paged now arc) here ∙ own ∙ ap (λ (o : Option FrontLane). (front_at o ++ pages.paged_items_on q.paged told arc) ++ more) (sym was)

pub other-items : (q : Queues) (told : Option Pages) (r : Queues) (now : Option Pages) (arc other : ℕ) (new : FrontLane) → r.lanes.items ≡ set q.lanes.items arc new → other ≢ arc → pages.paged_items_on r.paged now other ≡ pages.paged_items_on q.paged told other
    → items_on r now other ≡ items_on q told other
other-items q told r now arc other new lanes differ same =
    let there : slice_get r.lanes.items other ≡ slice_get q.lanes.items other = ap (λ (ls : List FrontLane). slice_get ls other) lanes ∙ get_set_other q.lanes.items arc other new differ in
    ap (λ (o : Option FrontLane). front_at o ++ pages.paged_items_on r.paged now other) there ∙ ap (λ (xs : List Item). front_at (slice_get q.lanes.items other) ++ xs) same

-- the lane of one arc was read alone
pub same-lanes : (lanes : List FrontLane) (arc : ℕ) (lane : FrontLane) → lane ≡ get_or lanes arc lane → set lanes arc lane ≡ lanes
same-lanes lanes arc lane is = ap (λ (l : FrontLane). set lanes arc l) is ∙ set-get_or lanes arc lane

pub read-together : (q : Queues) (told : Option Pages) (r : Queues) → Together q told → r.paged ≡ q.paged → r.lanes.items ≡ q.lanes.items → Together r told
read-together q told r g paged lanes =
    together-by r told (subst (λ (p : Paged). pages.PagedTogether p told) (sym paged) g.paged) (ap pages.paged_size paged ∙ g.arcs ∙ sym (ap length lanes))
    (λ l. subst (λ (p : Paged). IsLane (slice_get r.lanes.items l) (pages.paged_face p l)) (sym paged) (subst (λ (ls : List FrontLane). IsLane (slice_get ls l) (pages.paged_face q.paged l)) (sym lanes) (g.lanes l)))

-- the lane of the arc was written, and its items stayed
pub kept-items : (q : Queues) (told : Option Pages) (r : Queues) (arc : ℕ) (lane new : FrontLane) → arc < size q → slice_get q.lanes.items arc ≡ Some lane → r.lanes.items ≡ set q.lanes.items arc new → r.paged ≡ q.paged
    → new.front.items ≡ lane.front.items → items_on r told arc ≡ items_on q told arc
kept-items q told r arc lane new inside was lanes paged front =
    let here : slice_get r.lanes.items arc ≡ Some new = ap (λ (ls : List FrontLane). slice_get ls arc) lanes ∙ get_set_same q.lanes.items arc new inside in
    ap (λ (o : Option FrontLane). front_at o ++ pages.paged_items_on r.paged told arc) here ∙ ap (λ (xs : List Item). xs ++ pages.paged_items_on r.paged told arc) front
    ∙ ap (λ (p : Paged). lane.front.items ++ pages.paged_items_on p told arc) paged ∙ ap (λ (o : Option FrontLane). front_at o ++ pages.paged_items_on q.paged told arc) (sym was)

-- the first item of the arc whose lane was written is gone
pub taken-items : (q : Queues) (told : Option Pages) (r : Queues) (now : Option Pages) (arc : ℕ) (lane new : FrontLane) (item : Item) → arc < size q → slice_get q.lanes.items arc ≡ Some lane → r.lanes.items ≡ set q.lanes.items arc new
    → lane.front.items ++ pages.paged_items_on q.paged told arc ≡ item ∷ (new.front.items ++ pages.paged_items_on r.paged now arc) → items_on q told arc ≡ item ∷ items_on r now arc
taken-items q told r now arc lane new item inside was lanes own =
    let here : slice_get r.lanes.items arc ≡ Some new = ap (λ (ls : List FrontLane). slice_get ls arc) lanes ∙ get_set_same q.lanes.items arc new inside in
    ap (λ (o : Option FrontLane). front_at o ++ pages.paged_items_on q.paged told arc) was ∙ own ∙ ap (λ (o : Option FrontLane). item ∷ (front_at o ++ pages.paged_items_on r.paged now arc)) (sym here)

-- what all fronts hold
pub bounded : (q : Queues) (told : Option Pages) → Together q told → IsBounded q
bounded q told g =
    let lanes = q.lanes.items in
    let each : (arc : ℕ) → bytes_taken (front_at (slice_get lanes arc)) ≤ 8192 = λ arc. omega (arith, bytes-within (front_at (slice_get lanes arc)), (g.lanes arc).held, (g.lanes arc).page) in
    record {
      each = each;
      all = omega (arith, sum_by-le (λ (lane : FrontLane). bytes_taken lane.front.items) 8192 lanes (λ arc lane inside. subst (λ (o : Option FrontLane). bytes_taken (front_at o) ≤ 8192) (slice_get-get_or lanes arc lane inside) (each arc)));
    }

-- where nothing of an arc is said to be in pages, nothing is
no-nodes : (q : Paged) (told : Option Pages) (arc : ℕ) → pages.PagedTogether q told → (pages.paged_face q arc).first ≡ None → pages.nodes_on q arc ≡ []
no-nodes q told arc g none = by (pages.nodes_on q arc) refl
  where
    by : (nodes : List ℕ) → pages.nodes_on q arc ≡ nodes → nodes ≡ []
    by [] e = refl
    by (x ∷ nodes) e =
        let own = g.lanes arc in
        let some = (g.pages arc x (first-in q arc x (rw e refl))).some in
        let all : (pages.paged_face q arc).count ≡ pages.count_along q.kept.items (x ∷ nodes) = own.count ∙ ap (pages.count_along q.kept.items) e in
        let zero_is = none-first (pages.paged_face q arc).count (sym own.first ∙ ap is_some none) in
        absurd (omega (arith, some, all, zero_is))

pub none-paged : (q : Queues) (told : Option Pages) (arc : ℕ) (lane : FrontLane) → Together q told → slice_get q.lanes.items arc ≡ Some lane → lane.behind ≡ None → pages.paged_items_on q.paged told arc ≡ []
none-paged q told arc lane g was none =
    let own = own-lane q told arc lane g was in
    ap (pages.items_along q.paged.pool told q.paged.kept.items) (no-nodes q.paged told arc g.paged (sym own.behind ∙ none))

-- ---- new queues

-- a lane more is read at its place, and all others as before
pub empty-more : (lanes : List FrontLane) (lane : FrontLane) → IsEmpty (Some lane) → ((arc : ℕ) → IsEmpty (slice_get lanes arc)) → (arc : ℕ) → IsEmpty (slice_get (lanes ++ lane ∷ []) arc)
empty-more [] lane here others zero = here
empty-more [] lane here others (suc arc) = record { face = refl; front = refl; behind = refl; held = refl }
empty-more (x ∷ lanes) lane here others zero = others 0
empty-more (x ∷ lanes) lane here others (suc arc) = empty-more lanes lane here (λ a. others (suc a)) arc

empty-lane : (lane : Option FrontLane) (paged : Face) → IsEmpty lane → paged ≡ no_face → IsLane lane paged
empty-lane lane paged e p =
    let none : length (front_at lane) ≡ 0 = ap length e.front in
    let no_rooms : rooms_of (front_at lane) ≡ 0 = ap rooms_of e.front in
    record {
      count = omega (arith, ap (λ (f : Face). f.count) e.face, none, ap (λ (f : Face). f.count) p);
      behind = e.behind ∙ sym (ap (λ (f : Face). f.first) p);
      runs = ap (λ (f : Face). f.ended) p;
      few = omega (arith, none);
      held = omega (arith, no_rooms);
      page = omega (arith, e.held);
      sound = subst (λ (xs : List Item). AllByRecursion IsSoundItem xs) (sym e.front) tt;
    }

pub new-together : (q : Queues) (told : Option Pages) → pages.PagedTogether q.paged told → pages.paged_size q.paged ≡ size q → ((arc : ℕ) → IsEmpty (slice_get q.lanes.items arc)) → ((arc : ℕ) → pages.paged_face q.paged arc ≡ no_face) → Together q told
new-together q told paged arcs empty faces = together-by q told paged arcs (λ arc. empty-lane (slice_get q.lanes.items arc) (pages.paged_face q.paged arc) (empty arc) (faces arc))
