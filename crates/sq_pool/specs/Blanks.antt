-- Frames that were never written.
use Rattle.std.specs.Prelude.{ℕ, ◌-◌, List, ◌++◌, length, replicate}

-- so many frames, of which the first were written; the others are zeros
abbrev pub with_blanks : ℕ → List (List ℕ) → List (List ℕ)
with_blanks many written = written ++ replicate (many - length written) (replicate 8192 0)
