-- What the calls of queues need of what stands together.
use Rattle.std.proofs.Common.{◌≡◌, ℕ, ◌<◌, ◌≤◌, true, false, List, [], ◌∷◌, Option, Some, None, length, refl, sym, ap, subst, ◌∙◌, inl, inr, arith, get_or, get_or-set_same}
use Rattle.std.proofs.Math.ListN.{length-set}
use Rattle.std.specs.Prelude.{slice_get, IfSome, IfOk, Result, Ok, Err, is_some}
use Rattle.sq_words.specs.Lists.{nth}
use Rattle.sq_item.specs.declared.Item.{Item}
use Rattle.sq_link.specs.ChainLists.{Chained, StandsIn, head_or}
use Rattle.sq_outside.specs.Disks.{DiskLog, Pages}
use Rattle.sq_outside.specs.Faults.{Rose}
use Rattle.sq_pool.specs.Pools.{bytes_in, is_held}
use Rattle.sq_bring.specs.Bringing.{IsCause, IsTold}
use Rattle.sq_paged.specs.Faces.{paged_face_at, nodes_on, kept_at, count_along, is_first, last_at, last_node, PagedTogether, IsPagedRefusal, SameTables}
use Rattle.sq_paged.specs.Steps.{TakesAt}
use Rattle.sq_paged.specs.declared.Lane.{Lane}
use Rattle.sq_bring.specs.declared.bring.Kept.{Kept}
use Rattle.sq_paged.specs.declared.Queues.{Queues}
use Rattle.sq_bring.specs.declared.bring.QueueErr.{QueueErr}
use Rattle.sq_bring.specs.declared.bring.QueueErr.TheVariants as error
use Rattle.sq_paged.proofs.AlongLemmas.{last-stands, head-is, kept-same}

pub if-some : {A : Type 0} (P : A → Type 0) (o : Option A) → ((x : A) → o ≡ Some x → P x) → IfSome o P
if-some P None h = tt
if-some P (Some x) h = h x refl

pub if-ok : {A E : Type 0} (P Q : A → Type 0) (r : Result A E) → ((x : A) → P x → Q x) → IfOk r P → IfOk r Q
if-ok P Q (Ok x) f h = f x h
if-ok P Q (Err e) f h = tt

pub inside : (q : Queues) (told : Option Pages) (arc : ℕ) → PagedTogether q told → arc < length q.lanes.items → arc < length q.chains.lists
inside q told arc g h = omega (arith, g.arcs, h)

-- the last node of an arc is the one that its lane keeps
pub last-is : (q : Queues) (told : Option Pages) (arc : ℕ) (lane : Lane) (node : ℕ) → PagedTogether q told → slice_get q.lanes.items arc ≡ Some lane → lane.last ≡ Some node → last_node (nodes_on q arc) ≡ Some node
last-is q told arc lane node g is e = let l = g.lanes arc in sym l.last ∙ ap last_at is ∙ e

pub last-in : (q : Queues) (told : Option Pages) (arc : ℕ) (lane : Lane) (node : ℕ) → PagedTogether q told → slice_get q.lanes.items arc ≡ Some lane → lane.last ≡ Some node → StandsIn node (nodes_on q arc)
last-in q told arc lane node g is e = last-stands node (nodes_on q arc) (last-is q told arc lane node g is e)

-- why a page of an arc is refused is why the arc is
pub cause-refusal : (q r : Queues) (before now : DiskLog) (arc node : ℕ) (e : QueueErr) → StandsIn node (nodes_on q arc) → IsCause q.pool r.pool before now (kept_at q.kept.items node) e → SameTables q r → IsPagedRefusal q r before now arc e
cause-refusal q r before now arc node error.Disk s h same = tt
cause-refusal q r before now arc node (error.Garbled page kept got) s h same = (
  node,
  subst (λ (x : Chained). StandsIn node (nth x.lists arc)) (sym same.chains) s,
  subst (λ (x : List Kept). IsCause q.pool r.pool before now (kept_at x node) (error.Garbled page kept got)) (sym same.kept) h,
  same,
)
cause-refusal q r before now arc node (error.NotAPage page bytes) s h same = (
  node,
  subst (λ (x : Chained). StandsIn node (nth x.lists arc)) (sym same.chains) s,
  subst (λ (x : List Kept). IsCause q.pool r.pool before now (kept_at x node) (error.NotAPage page bytes)) (sym same.kept) h,
  same,
)
cause-refusal q r before now arc node error.Memory s h same = tt

pub plain-refusal : (q r : Queues) (before now : DiskLog) (arc : ℕ) (e : QueueErr) → IsTold e → IsPagedRefusal q r before now arc e
plain-refusal q r before now arc error.Disk h = tt
plain-refusal q r before now arc (error.Garbled page kept got) h = absurd h
plain-refusal q r before now arc (error.NotAPage page bytes) h = absurd h
plain-refusal q r before now arc error.Memory h = tt

-- where something stands on an arc, a page does
pub some-first : (q : Queues) (told : Option Pages) (arc : ℕ) → PagedTogether q told → is_some (paged_face_at (slice_get q.lanes.items arc)).first ≡ true → head_or (nodes_on q arc) None ≡ None → ⊥
some-first q told arc g some none =
    let l = g.lanes arc in
    empty (nodes_on q arc) none (sym l.first ∙ some) l.count
  where
    empty : (xs : List ℕ) → head_or xs None ≡ None → is_first (paged_face_at (slice_get q.lanes.items arc)).count ≡ true → (paged_face_at (slice_get q.lanes.items arc)).count ≡ count_along q.kept.items xs → ⊥
    empty [] e f c = let no : false ≡ true = ap is_first (sym c) ∙ f in absurd cc
    empty (x ∷ xs) e f c = absurd cc

pub first-in : (q : Queues) (arc node : ℕ) → head_or (nodes_on q arc) None ≡ Some node → StandsIn node (nodes_on q arc)
first-in q arc node e = let h = head-is node (nodes_on q arc) e in subst (λ (xs : List ℕ). StandsIn node xs) (sym h.1) (inl refl)

-- what is kept of a page of which the first item was taken, as it is read
pub left-is : (q : Queues) (told : Option Pages) (m : Queues) (mid : Option Pages) (node : ℕ) (item : Item) (x : Kept) → (a : TakesAt q told m mid node item) → node < length q.kept.items → x ≡ get_or m.kept.items node x → x ≡ a.after
left-is q told m mid node item x a below e =
    e ∙ ap (λ (ks : List Kept). get_or ks node x) a.kept ∙ get_or-set_same q.kept.items node a.after x below

-- where the first item of a page was taken, its arc, its node and the page in the pool are there
pub taken-inside : (q : Queues) (told : Option Pages) (m : Queues) (mid : Option Pages) (arc node : ℕ) (item : Item) → TakesAt q told m mid node item → arc < length q.chains.lists → arc < length m.chains.lists
taken-inside q told m mid arc node item a h = subst (λ (x : Chained). arc < length x.lists) (sym a.state) h

pub taken-below : (q : Queues) (told : Option Pages) (m : Queues) (mid : Option Pages) (node : ℕ) (item : Item) → TakesAt q told m mid node item → node < length q.kept.items → node < length m.kept.items
taken-below q told m mid node item a h = omega (arith, ap length a.kept, length-set q.kept.items node a.after, h)

pub taken-held : (q : Queues) (told : Option Pages) (m : Queues) (mid : Option Pages) (node : ℕ) (item : Item) → TakesAt q told m mid node item → node < length q.kept.items → is_held m.pool (kept_at m.kept.items node).page ≡ true
taken-held q told m mid node item a below =
    ap (λ (ks : List Kept). is_held m.pool (kept_at ks node).page) a.kept
    ∙ ap (λ (k : Kept). is_held m.pool k.page) (kept-same q.kept.items node a.after below)
    ∙ ap (λ (p : ℕ). is_held m.pool p) a.page.page
    ∙ a.page.held

pub taken-there : (q : Queues) (told : Option Pages) (m : Queues) (mid : Option Pages) (node : ℕ) (item : Item) → TakesAt q told m mid node item → node < length q.kept.items → is_some (bytes_in (kept_at m.kept.items node).page m.pool.resident) ≡ true
taken-there q told m mid node item a below =
    ap (λ (ks : List Kept). is_some (bytes_in (kept_at ks node).page m.pool.resident)) a.kept
    ∙ ap (λ (k : Kept). is_some (bytes_in k.page m.pool.resident)) (kept-same q.kept.items node a.after below)
    ∙ ap (λ (p : ℕ). is_some (bytes_in p m.pool.resident)) a.page.page
    ∙ a.page.there

-- a fault after others is one since before them
pub rose-since : (before mid now : ℕ) → before ≤ mid → Rose mid now → Rose before now
rose-since before mid now h (inl rose) = inl (omega arith)
rose-since before mid now h (inr end) = inr end
