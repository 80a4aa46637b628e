-- What the definitions come to, by evaluation.
use Rattle.std.proofs.Common.{◌≡◌, List, [], ◌∷◌, true, refl}
use Rattle.sq_feeds.specs.Feeds.{FeedLog, after_read, feed_at, new_feed, text_read}
use Rattle.sq_feeds.specs.MemFeeds.{cut_to}

-- two feeds, of which one is read in two pieces and ends
abbrev two_open : List FeedLog
two_open = new_feed (1 ∷ []) ∷ new_feed (2 ∷ []) ∷ []

read_in_pieces : after_read (after_read (after_read two_open 1 (7 ∷ 8 ∷ [])) 1 (9 ∷ [])) 1 []
    ≡ new_feed (1 ∷ []) ∷ record { name = 2 ∷ []; pieces = (7 ∷ 8 ∷ []) ∷ (9 ∷ []) ∷ []; ended = true } ∷ []
read_in_pieces = refl

whole_text : text_read (feed_at (after_read (after_read two_open 1 (7 ∷ 8 ∷ [])) 1 (9 ∷ [])) 1) ≡ 7 ∷ 8 ∷ 9 ∷ []
whole_text = refl

-- a cut of no bytes is one of a byte, and behind the last cut a read gives what there is room for
cuts : cut_to (0 ∷ []) 5 ≡ 1
cuts = refl

no_cuts : cut_to [] 5 ≡ 5
no_cuts = refl
