-- The lines that are due of each class: each is one line, of that class alone.
use Rattle.std.specs.List.{AllByRecursion}
use Rattle.sq_lines.specs.Classes.{Class, Dropped, Ended, Planned, Shown}
use Rattle.std.proofs.Common.{List, refl, true, [], ◌≡◌, ◌∷◌, ◌++◌}
use Rattle.sq_due.proofs.ClassLemmas.{is_ended}

pub is_end : (k : Class) → is_ended k ≡ true → k ≡ Ended
is_end (Shown name) h = cc
is_end (Dropped w) h = cc
is_end Planned h = cc
is_end Ended h = refl

pub all_middle : {X : Type 0} (P : X → Type 0) (xs : List X) (x : X) (ys : List X) → AllByRecursion P (xs ++ x ∷ ys) → P x
all_middle P [] x ys all = all.0
all_middle P (y ∷ xs) x ys all = all_middle P xs x ys all.1
