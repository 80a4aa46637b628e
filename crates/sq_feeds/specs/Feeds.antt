-- What went through feeds, piece by piece.
use Rattle.std.specs.Prelude.{◌≡◌, ℕ, Bool, true, false, List, [], ◌∷◌, ◌++◌, length, slice_set, slice_index_or, IsSomeAnd, ◌<◌, refl}
use Rattle.std.specs.List.{AllByRecursion, flat_map}
use Rattle.std.specs.Coded.{Coded, code_by, coded×, coded_ℕ, coded_bool, coded_list}
use Rattle.sq_outside.specs.Folders.{Files, file}
use Rattle.sq_words.specs.Lists.{IsPrefixOf}

-- what went through a feed: its name, the pieces that were read of it, in order, and whether it came to its end
pub record FeedLog : Type 0 where
  pub name : List ℕ
  pub pieces : List (List ℕ)
  pub ended : Bool

-- nothing was read yet of the feed of this name
abbrev pub new_feed : List ℕ → FeedLog
new_feed name = record { name = name; pieces = []; ended = false }

-- all that was read of a feed
abbrev pub text_read : FeedLog → List ℕ
text_read log = flat_map (λ piece. piece) log.pieces

-- after one more read; no bytes are the end
abbrev pub with_read : FeedLog → List ℕ → FeedLog
with_read log [] = record log { ended = true }
with_read log (b ∷ bs) = record log { pieces = log.pieces ++ (b ∷ bs) ∷ [] }

-- the feed of this number
abbrev pub feed_at : List FeedLog → ℕ → FeedLog
feed_at feeds i = slice_index_or feeds i (new_feed [])

-- a feed that was opened, and didn't come to its end
abbrev pub IsGoing : List FeedLog → ℕ → Type 0
IsGoing feeds i = (i < length feeds) × ((feed_at feeds i).ended ≡ false)

-- after one more read of the feed of this number
abbrev pub after_read : List FeedLog → ℕ → List ℕ → List FeedLog
after_read feeds i bytes = slice_set feeds i (with_read (feed_at feeds i) bytes)

-- what was read begins the file of that name, and is all of it where the feed came to its end
abbrev pub IsReadOf : Files → FeedLog → Type 0
IsReadOf files log = IsSomeAnd (file files log.name) (λ bytes. IsPrefixOf (text_read log) bytes × (log.ended ≡ true → text_read log ≡ bytes))

abbrev pub AreReadOf : Files → List FeedLog → Type 0
AreReadOf files feeds = AllByRecursion (IsReadOf files) feeds

abbrev pub feed_log_code : Coded FeedLog
feed_log_code = code_by (List ℕ × (List (List ℕ) × Bool)) (coded× (coded_list coded_ℕ) (coded× (coded_list (coded_list coded_ℕ)) coded_bool))
    (λ l. (l.name, (l.pieces, l.ended))) (λ p. record { name = p.0; pieces = p.1.0; ended = p.1.1 }) (λ _. refl)
