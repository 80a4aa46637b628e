-- What is seen of an arc.
use Rattle.std.specs.Prelude.{◌≡◌, ℕ, ◌+◌, ◌==◌, Bool, true, false, List, [], ◌∷◌, length, Option, Some, None, is_some, if◌then◌else◌}
use Rattle.sq_item.specs.declared.Item.{Item}
use Rattle.sq_paged.specs.declared.Head.{Head}
use Rattle.sq_paged.specs.declared.Head.TheVariants.{Time, Empty, Ended}

-- how many items stand on an arc, the time of the first, and whether nothing more will come
pub record Face : Type 0 where
  pub count : ℕ
  pub first : Option ℕ
  pub ended : Bool

abbrev pub first_time : List Item → Option ℕ
first_time [] = None
first_time (item ∷ items) = Some item.time

-- the face is that of the items
pub record IsFaceOf (face : Face) (items : List Item) : Type 0 where
  pub count : face.count ≡ length items
  pub first : face.first ≡ first_time items

-- what a caller sees of a face
abbrev pub head_by : Bool → Option ℕ → Head
head_by ended (Some time) = Time time
head_by false None = Empty
head_by true None = Ended

-- the face after an item of a time was pushed
abbrev pub first_time_or : Option ℕ → ℕ → Option ℕ
first_time_or None time = Some time
first_time_or (Some first) time = Some first

abbrev pub pushed : Face → ℕ → Face
pushed f time = record f { count = f.count + 1; first = first_time_or f.first time }

-- a face after its first item was popped: one less stands there, none only where none is left
pub record IsPopped (before after : Face) : Type 0 where
  pub count : before.count ≡ after.count + 1
  pub first : is_some after.first ≡ (if after.count == 0 then false else true)
  pub ended : after.ended ≡ before.ended
