-- The items of a page of which it is kept what is left there, and what a call does to them.
use Rattle.std.specs.Prelude.{◌≡◌, ℕ, ◌+◌, ◌≤◌, true, false, List, [], ◌∷◌, ◌++◌, Option, Some, None, is_some}
use Rattle.sq_item.specs.declared.Item.{Item}
use Rattle.sq_outside.specs.Disks.{DiskLog, Pages}
use Rattle.sq_page.specs.Fitting.{items_from}
use Rattle.sq_pool.specs.Pools.{Pooled, bytes_in, is_held}
use Rattle.sq_pool.specs.Trust.{Tells}
use Rattle.sq_bring.specs.Bringing.{page_seen, IsFit, LeavesOthers, WereIn}
use Rattle.sq_bring.specs.declared.bring.Kept.{Kept}

abbrev pub items_of_bytes : Option (List ℕ) → Kept → List Item
items_of_bytes None kept = []
items_of_bytes (Some bytes) kept = items_from bytes kept.start kept.count

abbrev pub items_kept : Pooled → Option Pages → Kept → List Item
items_kept pool told kept = items_of_bytes (page_seen pool told kept.page) kept

-- a page has one item more behind the others
pub record Appended (c : Pooled) (told : Option Pages) (d : Pooled) (now : Option Pages) (kept after : Kept) (item : Item) : Type 0 where
  pub page : after.page ≡ kept.page
  pub spares : LeavesOthers c told d now kept.page
  pub held : is_held d kept.page ≡ true
  pub fits : IsFit (page_seen d now after.page) after
  pub ends : after.end ≤ 8192
  pub count : after.count ≡ kept.count + 1
  pub time : after.time ≡ kept.time
  pub items : Tells now → items_kept d now after ≡ items_kept c told kept ++ item ∷ []

-- a page has one item less in front
pub record Taken (c : Pooled) (told : Option Pages) (d : Pooled) (now : Option Pages) (kept after : Kept) (item : Item) : Type 0 where
  pub page : after.page ≡ kept.page
  pub spares : LeavesOthers c told d now kept.page
  pub there : is_some (bytes_in kept.page d.resident) ≡ true
  pub held : is_held d kept.page ≡ true
  pub fits : IsFit (page_seen d now after.page) after
  pub ends : after.end ≤ 8192
  pub count : kept.count ≡ after.count + 1
  pub items : Tells now → items_kept c told kept ≡ item ∷ items_kept d now after
  pub time : Tells now → (next : Item) (rest : List Item) → items_kept d now after ≡ next ∷ rest → after.time ≡ next.time

-- an item is the first that was left of a page
pub record IsFirstOf (c : Pooled) (before now : DiskLog) (kept : Kept) (item : Item) : Type 0 where
  pub bytes : List ℕ
  pub had : WereIn c before now kept.page bytes
  pub behind : List Item
  pub left : items_from bytes kept.start kept.count ≡ item ∷ behind

-- a new page has one item
pub record Started (c : Pooled) (told : Option Pages) (d : Pooled) (now : Option Pages) (kept : Kept) (item : Item) : Type 0 where
  pub fresh : is_held c kept.page ≡ false
  pub spares : LeavesOthers c told d now kept.page
  pub held : is_held d kept.page ≡ true
  pub fits : IsFit (page_seen d now kept.page) kept
  pub ends : kept.end ≤ 8192
  pub count : kept.count ≡ 1
  pub time : kept.time ≡ item.time
  pub items : Tells now → items_kept d now kept ≡ item ∷ []
