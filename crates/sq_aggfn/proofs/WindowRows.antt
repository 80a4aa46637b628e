-- Windows of size 6 by 4, worked out: they start at 0, 4 and 8, and with a phase of 3 at 3, 7 and 11.
use Rattle.std.proofs.Common.{◌≡◌, true, false, [], ◌∷◌, map, refl}
use Rattle.sq_aggfn.specs.declared.WindowSpec.{WindowSpec}
use Rattle.sq_aggfn.specs.Windows.{start_of, started, is_start, covers}

abbrev six_by_four : WindowSpec
six_by_four = record { size = 6; advance = 4; phase = 0 }

third : start_of six_by_four 2 ≡ 8
third = refl

-- one up to 3, two from 4 on
so_far : map (started six_by_four) (0 ∷ 3 ∷ 4 ∷ 8 ∷ []) ≡ 1 ∷ 1 ∷ 2 ∷ 3 ∷ []
so_far = refl

starting : map (is_start six_by_four) (0 ∷ 3 ∷ 4 ∷ 5 ∷ []) ≡ true ∷ false ∷ true ∷ false ∷ []
starting = refl

-- the second goes from 4 to 9
second : map (covers six_by_four 4) (3 ∷ 4 ∷ 9 ∷ 10 ∷ []) ≡ false ∷ true ∷ true ∷ false ∷ []
second = refl

abbrev later : WindowSpec
later = record { size = 6; advance = 4; phase = 3 }

third-later : start_of later 2 ≡ 11
third-later = refl

-- none up to 2, one from 3 on, two from 7 on
so_far-later : map (started later) (0 ∷ 2 ∷ 3 ∷ 6 ∷ 7 ∷ []) ≡ 0 ∷ 0 ∷ 1 ∷ 1 ∷ 2 ∷ []
so_far-later = refl

starting-later : map (is_start later) (0 ∷ 3 ∷ 4 ∷ 7 ∷ []) ≡ false ∷ true ∷ false ∷ true ∷ []
starting-later = refl
