use Rattle.std.proofs.Common.{◌≡◌, ℕ, List, [], ◌∷◌, ◌++◌, refl, pos}
use Rattle.std.specs.Prelude.{None, Some, codes}
use Rattle.std.specs.List.{flat_map}
use Rattle.std.specs.Str.{is_utf8, chars}
use Rattle.std.specs.Char.{encode_utf8}
use Rattle.sq_value.specs.declared.Kind.TheVariants as kind
use Rattle.sq_value.specs.declared.Value.TheVariants as value
use Rattle.sq_value.specs.declared.Tuple.{Tuple}
use Rattle.sq_value.specs.Values.{Columns}
use Rattle.sq_replay.specs.declared.why.Why.TheVariants as why
use Rattle.sq_intake.specs.Incoming.{incoming, to_be_told, told, told_in}

abbrev prices : Columns
prices = (codes "price", kind.Int) ∷ []

abbrev price : ℕ → ℕ → Tuple
price t x = record { time = t; fields = value.Int (pos x) ∷ [] }

-- lines, each with its line feed
abbrev lines : List (List ℕ) → List ℕ
lines ls = flat_map (λ l. l ++ 10 ∷ []) ls

-- a punctuation brings no tuple, and none below its tick may come behind it; an empty line is counted
punctuated : told_in prices (lines (codes "5,1" ∷ codes "@7" ∷ [] ∷ codes "8,2" ∷ codes "6,3" ∷ [])) ≡ told (price 5 1 ∷ price 8 2 ∷ []) (Some (5, why.Falls))
unfolding is_utf8 chars encode_utf8
punctuated = refl

overtaken : told_in prices (lines (codes "@7" ∷ codes "6,3" ∷ [])) ≡ told [] (Some (2, why.Falls))
unfolding is_utf8 chars encode_utf8
overtaken = refl

-- one behind the tick says nothing new
late_punctuation : told_in prices (lines (codes "5,1" ∷ codes "@3" ∷ codes "5,2" ∷ [])) ≡ told (price 5 1 ∷ price 5 2 ∷ []) None
unfolding is_utf8 chars encode_utf8
late_punctuation = refl

wide_punctuation : told_in prices (lines (codes "@1099511627776" ∷ [])) ≡ told [] (Some (1, why.Fields))
unfolding is_utf8 chars encode_utf8
wide_punctuation = refl

-- cut within a mark, within a number and between CR and LF
cut_mark : to_be_told (incoming (kind.Int ∷ []) 0 0 (0xEF ∷ 0xBB ∷ [])) (0xBF ∷ codes "2,10") ≡ told (price 2 10 ∷ []) None
unfolding is_utf8 chars encode_utf8
cut_mark = refl

cut_number : to_be_told (incoming (kind.Int ∷ []) 2 4 (codes "2,1")) (48 ∷ 13 ∷ 10 ∷ codes "1,1") ≡ told (price 2 10 ∷ []) (Some (6, why.Falls))
unfolding is_utf8 chars encode_utf8
cut_number = refl

cut_return : to_be_told (incoming (kind.Int ∷ []) 0 4 (codes "2,10" ++ 13 ∷ [])) (lines ([] ∷ [])) ≡ told (price 2 10 ∷ []) None
unfolding is_utf8 chars encode_utf8
cut_return = refl

-- a mark behind the first line is no mark
later_mark : told_in prices (lines ([] ∷ []) ++ 0xEF ∷ 0xBB ∷ 0xBF ∷ codes "2,10") ≡ told [] (Some (2, why.Cut))
unfolding is_utf8 chars encode_utf8
later_mark = refl
