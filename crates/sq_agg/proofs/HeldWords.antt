-- What an Aggregate holds: states by pane and group, and the windows that end, by start and group: words of the proofs alone.
use Rattle.sq_agg.specs.Holdings.{Bounds, bound_for, marks_at}
use Rattle.sq_pane.specs.Panes.{Key, window_from}
use Rattle.sq_tagged.specs.TaggedStreams.{Timed}
use Rattle.std.specs.Prelude.{Bool, false, List, map, nat_lt, not, ◌&&◌, ◌||◌, ℕ, [], ◌≤◌, ◌==◌, if◌then◌else◌, ◌∷◌}
use Rattle.sq_agg.specs.Slots.{Slot}
use Rattle.sq_value.specs.declared.Value.{Value}
use Rattle.sq_aggfn.specs.declared.WindowSpec.{WindowSpec}
use Rattle.std.specs.List.{filter}
use Rattle.sq_aggfn.specs.Windows.{is_start}

-- the groups of the window that begins at a tick
abbrev pub groups_at : {M : Type 0} → ℕ → List (Key × M) → List (List Value × M)
groups_at s es = map (λ e. (e.0.1, e.1)) (filter (λ e. e.0.0 == s) es)

-- what marks and entries show at each tick
abbrev pub slot_shown : {M : Type 0} → Bounds → List (Key × M) → ℕ → Slot M
slot_shown b es p = record { bound = bound_for b p; marks = marks_at b.waiting p; groups = groups_at p es }

-- the groups of the window that begins at a tick, from its panes, where the marks allow it
abbrev pub pane_groups_of : {M : Type 0} → M → (M → M → M) → WindowSpec → ℕ → Bounds → List (Key × M) → ℕ → List (List Value × M)
pane_groups_of none join w width b es p = if nat_lt p (bound_for b p) then (if is_start w p then window_from none join w width p [] es else []) else []

-- starts from one tick on, up to another, that don't fall
abbrev pub IsRising : {M : Type 0} → ℕ → ℕ → List (Key × M) → Type 0
IsRising least most [] = Unit {0}
IsRising least most (e ∷ es) = (least ≤ e.0.0) × (e.0.0 ≤ most) × IsRising e.0.0 most es

-- the entries from the first on whose window doesn't begin before a tick
abbrev pub back_of : {M : Type 0} → ℕ → List (Key × M) → List (Key × M)
back_of mid [] = []
back_of mid (e ∷ es) = if nat_lt e.0.0 mid then back_of mid es else e ∷ es

-- the first window begins before a tick
abbrev pub slot_begins_before : {M : Type 0} → ℕ → List (Key × M) → Bool
slot_begins_before mid [] = false
slot_begins_before mid (e ∷ es) = nat_lt e.0.0 mid

-- the first that is due before a tick is a mark; something is due
abbrev pub mark_next : {M : Type 0} → ℕ → List Timed → List (Key × M) → Bool
mark_next mid [] es = false
mark_next mid (m ∷ ms) es = nat_lt m.0 mid && not (slot_begins_before m.0 es)

abbrev pub some_due : {M : Type 0} → ℕ → List Timed → List (Key × M) → Bool
some_due mid ms es = mark_next mid ms es || slot_begins_before mid es
