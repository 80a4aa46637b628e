-- What the steps of a push and of a pop do to queues, before the lane of the arc is written.
use Rattle.std.specs.Prelude.{◌≡◌, ◌≢◌, ℕ, ◌+◌, ◌<◌, true, false, List, [], ◌∷◌, length, Option, Some, slice_get, slice_set, drop, ◌++◌}
use Rattle.sq_words.specs.Lists.{nth}
use Rattle.sq_item.specs.declared.Item.{Item}
use Rattle.sq_link.specs.ChainLists.{StandsIn}
use Rattle.sq_outside.specs.Disks.{Pages}
use Rattle.sq_pool.specs.Pools.{is_held, Agree}
use Rattle.sq_pool.specs.Trust.{Tells}
use Rattle.sq_paged.specs.KeptPages.{Appended, Taken, Started}
use Rattle.sq_bring.specs.Bringing.{LeavesOthers}
use Rattle.sq_paged.specs.Faces.{nodes_on, kept_at, paged_items_on, count_along, last_node, IsPagedLane, IsKeptPage, IsOfNode}
use Rattle.sq_bring.specs.declared.bring.Kept.{Kept}
use Rattle.sq_paged.specs.declared.Queues.{Queues}

-- An item is pushed into the page of a node: its page gains it, what is kept of that page changes, and nothing else but the pool.
pub record AppendsAt (q : Queues) (told : Option Pages) (r : Queues) (now : Option Pages) (node : ℕ) (item : Item) : Type 0 where
  pub after : Kept
  pub page : Appended q.pool told r.pool now (kept_at q.kept.items node) after item
  pub kept : r.kept.items ≡ slice_set q.kept.items node after
  pub state : r.chains ≡ q.chains

-- an item is taken out of the page of a node
pub record TakesAt (q : Queues) (told : Option Pages) (r : Queues) (now : Option Pages) (node : ℕ) (item : Item) : Type 0 where
  pub after : Kept
  pub page : Taken q.pool told r.pool now (kept_at q.kept.items node) after item
  pub kept : r.kept.items ≡ slice_set q.kept.items node after
  pub state : r.chains ≡ q.chains

-- a new page behind the others of an arc, in a node that stood in no list
pub record StartsAt (q : Queues) (told : Option Pages) (r : Queues) (now : Option Pages) (arc : ℕ) (node : ℕ) (item : Item) : Type 0 where
  pub page : Started q.pool told r.pool now (kept_at r.kept.items node) item
  pub others : (other : ℕ) → other < q.chains.nodes → other ≢ node → kept_at r.kept.items other ≡ kept_at q.kept.items other
  pub lists : r.chains.lists ≡ slice_set q.chains.lists arc (nth q.chains.lists arc ++ node ∷ [])
  pub nodes : length r.kept.items ≡ r.chains.nodes
  pub outside : (l : ℕ) → ¬ (StandsIn node (nth q.chains.lists l))

-- the first page of an arc is let go
pub record DropsAt (q : Queues) (told : Option Pages) (r : Queues) (now : Option Pages) (arc : ℕ) (node : ℕ) : Type 0 where
  pub spares : LeavesOthers q.pool told r.pool now (kept_at q.kept.items node).page
  pub gone : is_held r.pool (kept_at q.kept.items node).page ≡ false
  pub lists : r.chains.lists ≡ slice_set q.chains.lists arc (drop 1 (nth q.chains.lists arc))
  pub nodes : r.chains.nodes ≡ q.chains.nodes
  pub kept : r.kept ≡ q.kept

-- Where the pages of one arc changed: pool, pages and nodes stand together, and all other arcs are as they were.
pub record KeepsOthers (q : Queues) (told : Option Pages) (r : Queues) (now : Option Pages) (arc : ℕ) : Type 0 where
  pub agree : Agree r.pool now
  pub arcs : length r.chains.lists ≡ length q.chains.lists
  pub nodes : length r.kept.items ≡ r.chains.nodes
  pub lanes : (l : ℕ) → l ≢ arc → IsPagedLane (slice_get q.lanes.items l) r.kept.items (nodes_on r l)
  pub pages : (l node : ℕ) → StandsIn node (nodes_on r l) → IsKeptPage r.pool now (kept_at r.kept.items node)
  pub apart : (l node m other : ℕ) → StandsIn node (nodes_on r l) → StandsIn other (nodes_on r m) → node ≢ other → (kept_at r.kept.items node).page ≢ (kept_at r.kept.items other).page
  pub standing : (page : ℕ) → is_held r.pool page ≡ true → IsOfNode r page
  pub others : Tells now → (l : ℕ) → l ≢ arc → paged_items_on r now l ≡ paged_items_on q told l
  pub tells : Tells now → Tells told
  pub frames : r.pool.frames ≡ q.pool.frames

-- an item is behind the last of an arc, in the page of this node
pub record AddsItem (q : Queues) (told : Option Pages) (r : Queues) (now : Option Pages) (arc node : ℕ) (item : Item) : Type 0 where
  pub rest : KeepsOthers q told r now arc
  pub count : count_along r.kept.items (nodes_on r arc) ≡ count_along q.kept.items (nodes_on q arc) + 1
  pub last : last_node (nodes_on r arc) ≡ Some node
  pub items : Tells now → paged_items_on r now arc ≡ paged_items_on q told arc ++ item ∷ []

-- the first item of an arc is taken; its last page stays, where one is left
pub record Removes (q : Queues) (told : Option Pages) (r : Queues) (now : Option Pages) (arc : ℕ) (item : Item) : Type 0 where
  pub rest : KeepsOthers q told r now arc
  pub count : count_along q.kept.items (nodes_on q arc) ≡ count_along r.kept.items (nodes_on r arc) + 1
  pub last : (first : ℕ) (behind : List ℕ) → nodes_on r arc ≡ first ∷ behind → last_node (nodes_on r arc) ≡ last_node (nodes_on q arc)
  pub items : Tells now → paged_items_on q told arc ≡ item ∷ paged_items_on r now arc
