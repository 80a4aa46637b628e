-- What is told of feeds, after a call.
use Rattle.std.proofs.Common.{zero, suc, ◌≡◌, ◌<◌, ◌++◌, ◌∷◌, [], List, ℕ, map, set, length, get_or, refl, sym, ap, subst, ◌∙◌, arith}
use Rattle.std.specs.Prelude.{Result, Ok, Err, if◌then◌else◌}
use Rattle.std.specs.Result.{is_ok}
use Rattle.std.specs.List.{AllByRecursion, flat_map}
use Rattle.std.proofs.lemmas.List.{map-set, flat_map_more}
use Rattle.std.proofs.Math.Seq.{map-set_same}
use Rattle.sq_words.proofs.Alls.{all_push}
use Rattle.sq_feeds.specs.Feeds.{FeedLog, after_read, feed_at, text_read, with_read}

feed-map : {X : Type 0} (of : X → FeedLog) (feeds : List X) (i : ℕ) (d : X) → i < length feeds → feed_at (map of feeds) i ≡ of (get_or feeds i d)
feed-map of [] i d within = absurd (omega arith)
feed-map of (f ∷ feeds) zero d within = refl
feed-map of (f ∷ feeds) (suc i) d within = feed-map of feeds i d (omega arith)

-- what is told after a read of a feed, and after one that told nothing
pub feed_read : {X : Type 0} (of : X → FeedLog) (feeds : List X) (i : ℕ) (f g : X) (piece : List ℕ) → i < length feeds → f ≡ get_or feeds i f → of g ≡ with_read (of f) piece
    → map of (set feeds i g) ≡ after_read (map of feeds) i piece
feed_read of feeds i f g piece within is told =
    let at : feed_at (map of feeds) i ≡ of f = feed-map of feeds i f within ∙ ap of (sym is) in
    map-set of feeds i g ∙ ap (set (map of feeds) i) (told ∙ ap (λ log. with_read log piece) (sym at))

pub feed_same : {X : Type 0} (of : X → FeedLog) (feeds : List X) (i : ℕ) (f g : X) → f ≡ get_or feeds i f → of g ≡ of f → map of (set feeds i g) ≡ map of feeds
feed_same of feeds i f g is same = map-set_same of feeds i g f (same ∙ ap of is)

pub text_more : (log : FeedLog) (piece : List ℕ) → flat_map (λ p. p) (log.pieces ++ piece ∷ []) ≡ text_read log ++ piece
text_more log piece = sym (flat_map_more (λ p. p) [] log.pieces piece)

-- what holds of all feeds holds of them after a change of one, and with one more behind them
pub all_set : {X : Type 0} (P : X → Type 0) (feeds : List X) (i : ℕ) (f g : X) → AllByRecursion P feeds → i < length feeds → f ≡ get_or feeds i f → (P f → P g)
    → AllByRecursion P (set feeds i g)
all_set P [] i f g all within is on = absurd (omega arith)
all_set P (e ∷ feeds) zero f g all within is on = (on (subst P (sym is) all.0), all.1)
all_set P (e ∷ feeds) (suc i) f g all within is on = (all.0, all_set P feeds i f g all.1 (omega arith) is on)

pub all_pushed : {X T E : Type 0} (P : X → Type 0) (feeds now : List X) (f : X) (r : Result T E) → AllByRecursion P feeds → P f → now ≡ (if is_ok r then feeds ++ f ∷ [] else feeds)
    → AllByRecursion P now
all_pushed P feeds now f (Ok x) all one is = subst (AllByRecursion P) (sym is) (all_push P feeds f all one)
all_pushed P feeds now f (Err e) all one is = subst (AllByRecursion P) (sym is) all
