use Rattle.std.specs.Prelude.{ℕ, ◌+◌, ◌==◌, nat_lt, nat_le, Bool, true, false, ◌&&◌, ◌||◌, not, List, [], ◌∷◌, IsTrue, if◌then◌else◌}
use Rattle.sq_value.specs.declared.Value.{Value}
use Rattle.sq_oper.specs.declared.tally.Position.{Position}
use Rattle.sq_oper.specs.declared.tally.Position.TheVariants.{Start, At}
use Rattle.sq_item.specs.Things.{Content, Sign, Body, Thing, is_body}
use Rattle.sq_oper.specs.Entries.{Entry, at_port}

-- x stands before y: by time, then by port
abbrev pub earlier : Entry → Entry → Bool
earlier x y = nat_lt x.thing.time y.thing.time || (x.thing.time == y.thing.time && nat_lt x.port y.port)

-- x goes in front of what `more` makes of the second list, behind those of the second list that stand before x
abbrev pub merge_under : Entry → (List Entry → List Entry) → List Entry → List Entry
merge_under x more [] = x ∷ more []
merge_under x more (y ∷ ys) = if earlier y x then y ∷ merge_under x more ys else x ∷ more (y ∷ ys)

-- two lists in one, the first list's entries first where neither stands before the other
abbrev pub merge_two : List Entry → List Entry → List Entry
merge_two [] ys = ys
merge_two (x ∷ xs) ys = merge_under x (merge_two xs) ys

-- the lists in one, ports counted from a number
abbrev pub merge_from : ℕ → List (List Thing) → List Entry
merge_from port [] = []
merge_from port (things ∷ lists) = merge_two (at_port port things) (merge_from (port + 1) lists)

abbrev pub merge : List (List Thing) → List Entry
merge lists = merge_from 0 lists

-- the entry may come next where the last one stands at this place: it stands after it, a mark stands before the
-- tuples of its port and time and comes once there, and the first entry of a time that has marks is a mark
abbrev pub may_come : Position → Entry → Bool
may_come Start entry = true
may_come (At time port marked) entry =
    nat_lt time entry.thing.time
    || (time == entry.thing.time
    && ((is_body entry.thing.content && nat_le port entry.port) || (not (is_body entry.thing.content) && marked && nat_lt port entry.port)))

-- a mark of this time came already
abbrev pub marked_at : Position → ℕ → Bool
marked_at Start time = false
marked_at (At last port marked) time = last == time && marked

-- the time of the last item, 0 before the first
abbrev pub time_of : Position → ℕ
time_of Start = 0
time_of (At time port marked) = time

-- the place after an entry
abbrev pub position_after : Position → Entry → Position
position_after place entry = At entry.thing.time entry.port (not (is_body entry.thing.content) || marked_at place entry.thing.time)

abbrev pub after_all : Position → List Entry → Position
after_all place [] = place
after_all place (entry ∷ entries) = after_all (position_after place entry) entries

-- each entry may come after the one before it
abbrev pub InOrder : Position → List Entry → Type 0
InOrder place [] = Unit {0}
InOrder place (entry ∷ entries) = IsTrue (may_come place entry) × InOrder (position_after place entry) entries

-- each tuple fits its port, and marks come only at ports that take them
abbrev pub content_fits : (ℕ → Bool) → (ℕ → List Value → Bool) → ℕ → Content → Bool
content_fits marks fits port (Sign mark) = marks port
content_fits marks fits port (Body fields) = fits port fields

abbrev pub AllFit : (ℕ → Bool) → (ℕ → List Value → Bool) → List Entry → Type 0
AllFit marks fits [] = Unit {0}
AllFit marks fits (entry ∷ entries) = IsTrue (content_fits marks fits entry.port entry.thing.content) × AllFit marks fits entries

-- no port takes marks
abbrev pub unmarked : ℕ → Bool
unmarked port = false

-- a tagged list that may still come to a state which stands at this place
pub record IsFuture (marks : ℕ → Bool) (fits : ℕ → List Value → Bool) (place : Position) (future : List Entry) : Type 0 where
  pub in_order : InOrder place future
  pub fitting : AllFit marks fits future
