-- What an Aggregate holds: states by pane and group, and the windows that end, by start and group.
use Rattle.std.specs.Prelude.{◌≡◌, ℕ, ◌+◌, ◌*◌, ◌^◌, ◌<◌, ◌≤◌, ◌==◌, nat_lt, nat_le, max, ◌&&◌, if◌then◌else◌, Bool, false, List, [], ◌∷◌, ◌++◌, map, length, Option, Some, None, IsTrue}
use Rattle.std.specs.List.{AllByRecursion}
use Rattle.sq_value.specs.declared.Value.{Value}
use Rattle.sq_value.specs.declared.Tuple.{Tuple}
use Rattle.sq_words.specs.Lists.{max_by}
use Rattle.sq_aggfn.specs.declared.WindowSpec.{WindowSpec}
use Rattle.sq_aggfn.specs.Windows.{start_of, is_start}
use Rattle.sq_aggfn.specs.Groups.{group_of}
use Rattle.sq_aggfn.specs.KeyedStates.{added}
use Rattle.sq_pane.specs.Panes.{shift_of, pane_of, window_from, key_cmp, Key}
use Rattle.sq_rows.specs.Rows.{total, AllAreMade}
use Rattle.sq_item.specs.declared.Mark.{Mark}
use Rattle.sq_item.specs.SoundItems.{IsMark}
use Rattle.sq_item.specs.Things.{Thing, Sign}
use Rattle.sq_oper.specs.declared.tally.Position.{Position}
use Rattle.sq_oper.specs.Order.{may_come, time_of}
use Rattle.sq_oper.specs.Entries.{Entry}
use Rattle.sq_oper.specs.Streams.{things}
use Rattle.sq_tagged.specs.TaggedStreams.{Timed, mark_thing, bound_in, bound_at, lessened}
use Rattle.sq_agg.specs.declared.waiting.Waiting.{Waiting}
use Rattle.sq_agg.specs.Positions.{open_at, told_between}
use Rattle.sq_agg.specs.Slots.{Slot, Folding, slot_content, agg_rest}

-- the marks that wait for their time to be over, and the greatest bound of those that were handed on; without marks
-- every window is allowed
pub record Bounds : Type 0 where
  pub marked : Bool
  pub base : ℕ
  pub waiting : List Timed

abbrev pub bounds_of : Waiting → Bounds
bounds_of w = record { marked = w.marked; base = w.base; waiting = w.marks.items }

abbrev pub bound_for : Bounds → ℕ → ℕ
bound_for b p = if b.marked then max b.base (bound_at b.waiting p) else p + 1

-- the marks of a time
abbrev pub marks_at : List Timed → ℕ → List Mark
marks_at [] p = []
marks_at (m ∷ ms) p = (if m.0 == p then m.1 ∷ [] else []) ++ marks_at ms p

-- the first marks, whose times are before a tick, and the others
abbrev pub marks_before : ℕ → List Timed → List Timed
marks_before mid [] = []
marks_before mid (m ∷ ms) = if nat_lt m.0 mid then m ∷ marks_before mid ms else []

abbrev pub marks_from : ℕ → List Timed → List Timed
marks_from mid [] = []
marks_from mid (m ∷ ms) = if nat_lt m.0 mid then marks_from mid ms else m ∷ ms

abbrev pub greatest_mark : List Timed → ℕ
greatest_mark ms = max_by (λ m. bound_in m.1) ms

-- the first mark that waits is of a time before a tick
abbrev pub mark_due : ℕ → List Timed → Bool
mark_due mid [] = false
mark_due mid (m ∷ ms) = nat_lt m.0 mid

-- once the marks before a tick were handed on
abbrev pub closed_at : ℕ → Bounds → Bounds
closed_at mid b = record { marked = b.marked; base = max b.base (greatest_mark (marks_before mid b.waiting)); waiting = marks_from mid b.waiting }

-- once an item's mark came
abbrev pub with_waiting : ℕ → ℕ → Option Mark → Bounds → Bounds
with_waiting lag time None b = b
with_waiting lag time (Some m) b = record { marked = b.marked; base = b.base; waiting = b.waiting ++ (time, lessened lag m) ∷ [] }

-- the first entries, whose windows begin before a tick
abbrev pub slots_before : {M : Type 0} → ℕ → List (Key × M) → List (Key × M)
slots_before mid [] = []
slots_before mid (e ∷ es) = if nat_lt e.0.0 mid then e ∷ slots_before mid es else []

-- the results of entries, in their order
abbrev pub results_of : {M : Type 0} → (M → List Value) → List (Key × M) → List Tuple
results_of told es = map (λ e. record { time = e.0.0; fields = e.0.1 ++ told e.1 }) es

-- the first of some, and the others
abbrev pub first_slot : {A : Type 0} → List A → List A
first_slot [] = []
first_slot (e ∷ es) = e ∷ []

abbrev pub later_slots : {A : Type 0} → List A → List A
later_slots [] = []
later_slots (e ∷ es) = es

-- marks and results in one, by time, a mark before the results of its time
abbrev pub due_under : {M : Type 0} → (M → List Value) → Timed → (List (Key × M) → List Thing) → List (Key × M) → List Thing
due_under told m more [] = mark_thing m ∷ more []
due_under told m more (e ∷ es) = if nat_lt e.0.0 m.0 then things (results_of told (e ∷ [])) ++ due_under told m more es else mark_thing m ∷ more (e ∷ es)

abbrev pub due : {M : Type 0} → (M → List Value) → List Timed → List (Key × M) → List Thing
due told [] es = things (results_of told es)
due told (m ∷ ms) es = due_under told m (due told ms) es

-- those before a tick
abbrev pub due_before : {M : Type 0} → (M → List Value) → ℕ → List Timed → List (Key × M) → List Thing
due_before told mid ms es = due told (marks_before mid ms) (slots_before mid es)

-- the first mark is handed on
abbrev pub handed_on : Bounds → Bounds
handed_on b = record { marked = b.marked; base = max b.base (greatest_mark (first_slot b.waiting)); waiting = later_slots b.waiting }

-- times that don't fall
abbrev pub TimesRise : ℕ → List Timed → Type 0
TimesRise a [] = Unit {0}
TimesRise a (m ∷ ms) = (a ≤ m.0) × TimesRise m.0 ms

-- a mark that may go out, and waits at a time: its own time isn't later, and windows that begin then may still grow
pub record IsWaiting (size now : ℕ) (m : Timed) : Type 0 where
  pub come : m.0 ≤ now
  pub ends : now < m.0 + size
  pub sound : IsMark (Some m.1)

pub record IsSoundMark (m : Timed) : Type 0 where
  pub tick : m.0 < 2 ^ 40
  pub sound : IsMark (Some m.1)

-- each waits, and their times don't fall
abbrev pub MarksWait : ℕ → ℕ → List Timed → Type 0
MarksWait size now ms = AllByRecursion (λ m. IsWaiting size now m) ms × TimesRise 0 ms

-- a result that may go out: its start is a tick, and it has 1 to 16 values
pub record IsSoundKey (width : ℕ) (k : Key) : Type 0 where
  pub tick : k.0 < 2 ^ 40
  pub least : 1 ≤ length k.1 + width
  pub most : length k.1 + width ≤ 16

-- what an Aggregate reads of its fold and its groups
abbrev pub folding_of : {M : Type 0} → List ℕ → M → (M → M → M) → (Tuple → M) → (M → List Value) → Folding M
folding_of by none join one told = record { by = by; none = none; join = join; one = one; told = told }

-- the groups of the window that begins at a tick, from its panes
abbrev pub window_groups : {M : Type 0} → Folding M → WindowSpec → ℕ → List (Key × M) → ℕ → List (List Value × M)
window_groups f w width es p = if is_start w p then window_from f.none f.join w width p [] es else []

-- the same, where the marks allow the window
abbrev pub pane_groups : {M : Type 0} → Folding M → WindowSpec → ℕ → Bounds → List (Key × M) → ℕ → List (List Value × M)
pane_groups f w width b es p = if nat_lt p (bound_for b p) then window_groups f w width es p else []

-- what marks and panes show at each tick
abbrev pub pane_shown : {M : Type 0} → Folding M → WindowSpec → ℕ → Bounds → List (Key × M) → ℕ → Slot M
pane_shown f w width b es p = record { bound = bound_for b p; marks = marks_at b.waiting p; groups = pane_groups f w width b es p }

-- what is told of the ticks that are open at a time, below another
abbrev pub told_open : {M : Type 0} → Folding M → WindowSpec → ℕ → ℕ → ℕ → Bounds → List (Key × M) → List Thing
told_open f w width now mid b es = told_between (slot_content f) (pane_shown f w width b es) (open_at w.size now) mid

-- what an Aggregate will still give, from the time of the last item that was fed and what it holds
abbrev pub aggregate_rest : {M : Type 0} → Folding M → WindowSpec → ℕ → ℕ → Bounds → List (Key × M) → List Entry → ℕ → List Thing
aggregate_rest f w width now b es future q = agg_rest f w (record { now = now; at = pane_shown f w width b es }) future q

-- a result of a group has 1 to 16 values
abbrev pub FitsResult : ℕ → List Value → Type 0
FitsResult width g = (1 ≤ length g + width) × (length g + width ≤ 16)

-- what is held by panes: none begins after this time, nor at or after a mark that may still come
pub record HoldsPanes {M : Type 0} (made : M → Type 0) (number : M → ℕ) (w : WindowSpec) (pane width taken : ℕ) (place : Position) (es : List (Key × M)) : Type 0 where
  pub begun : AllByRecursion (λ e. e.0.0 * pane ≤ time_of place + shift_of w pane) es
  pub fit : AllByRecursion (λ e. FitsResult width e.0.1) es
  pub sound : AllAreMade made es
  pub few : total number es ≤ taken
  pub later : (m : Mark) (t : ℕ) → IsTrue (may_come place (record { port = 0; thing = record { time = t; content = Sign m } })) → AllByRecursion (λ e. e.0.0 * pane < t + shift_of w pane) es

-- once an item's tuple was added to its pane
abbrev pub panes_after : {M : Type 0} → Folding M → WindowSpec → ℕ → ℕ → Option (List Value) → List (Key × M) → List (Key × M)
panes_after f w width time None es = es
panes_after f w width time (Some fields) es =
    added key_cmp f.none f.join (pane_of w width time, group_of f.by (record { time = time; fields = fields })) (f.one (record { time = time; fields = fields })) es

-- the states of the window with a number, each at its start
abbrev pub tagged : {M : Type 0} → ℕ → List (List Value × M) → List (Key × M)
tagged start gs = map (λ g. ((start, g.0), g.1)) gs

abbrev pub ended : {M : Type 0} → M → (M → M → M) → WindowSpec → ℕ → Bounds → List (Key × M) → ℕ → List (Key × M)
ended none join w width b es k =
    if nat_lt (start_of w k) (bound_for b (start_of w k)) then tagged (start_of w k) (window_from none join w width (start_of w k) [] es) else []

-- below a window drop marks come at port 0
abbrev pub takes_marks_at : Bool → ℕ → Bool
takes_marks_at marked port = marked && (port == 0)

-- nothing is of a window that ended at a time
abbrev pub OnlyOpen : ℕ → ℕ → List Thing → Type 0
OnlyOpen size time things = AllByRecursion (λ thing. time < thing.time + size) things

-- a result has 1 to 16 values
abbrev pub makes_result : ℕ → ℕ → Bool
makes_result groups answers = nat_le 1 (groups + answers) && nat_le (groups + answers) 16

-- the first end of a window that is open at a time
pub record IsFirstEnd (w : WindowSpec) (now ends : ℕ) : Type 0 where
  pub window : ℕ
  pub is : ends ≡ start_of w window + w.size
  pub later : now < ends
  pub over : (k : ℕ) → k < window → start_of w k + w.size ≤ now

-- no pane is held that ended an advance or more before the window begins that ends next
abbrev pub KeepsNear : {M : Type 0} → WindowSpec → ℕ → ℕ → List (Key × M) → Type 0
KeepsNear w width ends es = AllByRecursion (λ e. ends + shift_of w width < e.0.0 * width + (width + w.advance + w.size)) es
