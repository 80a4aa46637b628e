-- What queues are: of each arc a face, which they keep themselves, and the items that stand on it, which they keep together
-- with a disk.
use Rattle.std.specs.Prelude.{◌≡◌, ◌≢◌, ⊤, ℕ, ◌+◌, ◌==◌, ◌≤◌, Bool, true, false, List, [], ◌∷◌, length, Option, Some, None, is_some, slice_get, slice_index_or, if◌then◌else◌}
use Rattle.std.specs.List.{flat_map}
use Rattle.sq_words.specs.Lists.{nth}
use Rattle.sq_item.specs.declared.Item.{Item}
use Rattle.sq_link.specs.ChainLists.{StandsIn}
use Rattle.sq_outside.specs.Disks.{DiskLog, Pages}
use Rattle.sq_pool.specs.Trust.{Tells}
use Rattle.sq_pool.specs.Pools.{Pooled, is_held, Agree}
use Rattle.sq_paged.specs.Fronts.{Face, first_time, IsFaceOf}
use Rattle.sq_paged.specs.KeptPages.{items_kept, IsFirstOf}
use Rattle.sq_bring.specs.Bringing.{page_seen, IsFit, IsCause}
use Rattle.sq_bring.specs.declared.bring.Kept.{Kept}
use Rattle.sq_paged.specs.declared.Lane.{Lane}
use Rattle.sq_paged.specs.declared.Queues.{Queues}
use Rattle.sq_bring.specs.declared.bring.QueueErr.{QueueErr}
use Rattle.sq_bring.specs.declared.bring.QueueErr.TheVariants as error

abbrev pub paged_face_at : Option Lane → Face
paged_face_at None = record { count = 0; first = None; ended = false }
paged_face_at (Some lane) = record { count = lane.count; first = lane.first; ended = lane.ended }

-- what is kept of an arc on which nothing stands
abbrev pub no_items : Lane
no_items = record { count = 0; first = None; last = None; ended = false }

abbrev pub paged_face : Queues → ℕ → Face
paged_face queues arc = paged_face_at (slice_get queues.lanes.items arc)

abbrev pub paged_size : Queues → ℕ
paged_size queues = length queues.lanes.items

abbrev pub paged_frames : Queues → ℕ
paged_frames queues = queues.pool.frames

-- how many pages are in memory
abbrev pub paged_resident_of : Queues → ℕ
paged_resident_of queues = length queues.pool.resident

-- the nodes of an arc, and what is kept of the page of a node
abbrev pub nodes_on : Queues → ℕ → List ℕ
nodes_on queues arc = nth queues.chains.lists arc

abbrev pub no_page : Kept
no_page = record { page = 0; start = 0; count = 0; end = 0; time = 0 }

abbrev pub kept_at : List Kept → ℕ → Kept
kept_at kept node = slice_index_or kept node no_page

-- the items of the pages of some nodes, one page behind the other
abbrev pub items_along : Pooled → Option Pages → List Kept → List ℕ → List Item
items_along pool told kept nodes = flat_map (λ node. items_kept pool told (kept_at kept node)) nodes

-- the items on an arc, in their order, by queues and what is known of the pages of a disk
abbrev pub paged_items_on : Queues → Option Pages → ℕ → List Item
paged_items_on queues told arc = items_along queues.pool told queues.kept.items (nodes_on queues arc)

abbrev pub last_node : List ℕ → Option ℕ
last_node [] = None
last_node (node ∷ []) = Some node
last_node (node ∷ next ∷ nodes) = last_node (next ∷ nodes)

abbrev pub count_along : List Kept → List ℕ → ℕ
count_along kept [] = 0
count_along kept (node ∷ nodes) = (kept_at kept node).count + count_along kept nodes

-- a time is first exactly where items are there
abbrev pub is_first : ℕ → Bool
is_first count = if count == 0 then false else true

abbrev pub last_at : Option Lane → Option ℕ
last_at None = None
last_at (Some lane) = lane.last

-- the last node, where a first is left
abbrev pub last_if : Option ℕ → Option ℕ → Option ℕ
last_if None last = None
last_if (Some first) last = last

-- what an arc keeps is that of its pages
pub record IsPagedLane (lane : Option Lane) (kept : List Kept) (nodes : List ℕ) : Type 0 where
  pub count : (paged_face_at lane).count ≡ count_along kept nodes
  pub first : is_some (paged_face_at lane).first ≡ is_first (paged_face_at lane).count
  pub last : last_at lane ≡ last_node nodes

-- a page of an arc: some of its items are left, and it is what is kept of it
pub record IsKeptPage (pool : Pooled) (told : Option Pages) (kept : Kept) : Type 0 where
  pub held : is_held pool kept.page ≡ true
  pub some : 1 ≤ kept.count
  pub ends : kept.end ≤ 8192
  pub fits : IsFit (page_seen pool told kept.page) kept
  pub timed : Tells told → first_time (items_kept pool told kept) ≡ Some kept.time

-- a page is that of a node that stands on an arc
abbrev pub IsOfNode : Queues → ℕ → Type 0
IsOfNode queues page = (arc : ℕ) × (node : ℕ) × StandsIn node (nodes_on queues arc) × ((kept_at queues.kept.items node).page ≡ page)

-- queues and a disk stand together: pool and disk agree, each arc and each page is as is kept of it, no two nodes have one
-- page, the pool holds no page but theirs, and where the pages are known each face is that of its items
pub record PagedTogether (queues : Queues) (told : Option Pages) : Type 0 where
  pub agree : Agree queues.pool told
  pub arcs : length queues.chains.lists ≡ length queues.lanes.items
  pub nodes : length queues.kept.items ≡ queues.chains.nodes
  pub lanes : (arc : ℕ) → IsPagedLane (slice_get queues.lanes.items arc) queues.kept.items (nodes_on queues arc)
  pub pages : (arc node : ℕ) → StandsIn node (nodes_on queues arc) → IsKeptPage queues.pool told (kept_at queues.kept.items node)
  pub apart : (arc node other_arc other : ℕ) → StandsIn node (nodes_on queues arc) → StandsIn other (nodes_on queues other_arc) → node ≢ other
      → (kept_at queues.kept.items node).page ≢ (kept_at queues.kept.items other).page
  pub standing : (page : ℕ) → is_held queues.pool page ≡ true → IsOfNode queues page
  pub faces : Tells told → (arc : ℕ) → IsFaceOf (paged_face queues arc) (paged_items_on queues told arc)

-- all that queues keep of arcs and of pages is as before
pub record SameTables (q r : Queues) : Type 0 where
  pub lanes : r.lanes.items ≡ q.lanes.items
  pub kept : r.kept.items ≡ q.kept.items
  pub chains : r.chains ≡ q.chains

-- over every disk, an item is the first that was left of the first of some pages, those of an arc
abbrev pub IsFirstAlong : Pooled → DiskLog → DiskLog → List Kept → List ℕ → Item → Type 0
IsFirstAlong pool before now kept [] item = ⊥
IsFirstAlong pool before now kept (node ∷ nodes) item = IsFirstOf pool before now (kept_at kept node) item

abbrev pub IsFirstPaged : Queues → DiskLog → DiskLog → ℕ → Item → Type 0
IsFirstPaged q before now arc item = IsFirstAlong q.pool before now q.kept.items (nodes_on q arc) item

-- why an arc is refused: a page of it came back, and it is refused; what is kept of arcs and pages stayed
abbrev pub IsPagedRefusal : Queues → Queues → DiskLog → DiskLog → ℕ → QueueErr → Type 0
IsPagedRefusal q r before now arc error.Disk = ⊤
IsPagedRefusal q r before now arc (error.Garbled page kept got) =
    (node : ℕ) × StandsIn node (nodes_on r arc) × IsCause q.pool r.pool before now (kept_at r.kept.items node) (error.Garbled page kept got) × SameTables q r
IsPagedRefusal q r before now arc (error.NotAPage page bytes) =
    (node : ℕ) × StandsIn node (nodes_on r arc) × IsCause q.pool r.pool before now (kept_at r.kept.items node) (error.NotAPage page bytes) × SameTables q r
IsPagedRefusal q r before now arc error.Memory = ⊤
