-- What was read of a feed, and then what its source has left, is its file: what follows of all feeds, and after a call.
use Rattle.std.proofs.Common.{◌≡◌, ◌<◌, ◌++◌, ◌∷◌, [], List, ℕ, Option, None, Some, map, set, length, get_or, refl, sym, ap, ◌∙◌, append-nil}
use Rattle.std.specs.Prelude.{Result, IfSome, if◌then◌else◌}
use Rattle.std.specs.Result.{is_ok}
use Rattle.std.specs.List.{AllByRecursion}
use Rattle.sq_outside.specs.Folders.{Files}
use Rattle.sq_feeds.specs.Feeds.{FeedLog, AreReadOf, IsReadOf, text_read}
use Rattle.sq_feeds.proofs.FeedLemmas.{all_pushed, all_set}
use Rattle.sq_system.specs.declared.feeds.OpenFeed.{OpenFeed}
use Rattle.sq_system.specs.OpenFeeds.{AllHaveLeft, HasLeft, open_log_of}

left_read : (files : Files) (log : FeedLog) (source : Option (List ℕ)) → HasLeft files log source → IsReadOf files log
left_read files log None left = absurd left
left_read files log (Some rest) left = rw left.0 ((rest, refl), λ ended. sym (ap (λ more. text_read log ++ more) (left.1 ended) ∙ append-nil (text_read log)))

module _ {S : Type 0} (remaining : S → Option (List ℕ)) where
  -- of one feed
  abbrev Left : Files → OpenFeed S → Type 0
  Left files f = HasLeft files (open_log_of f) (remaining f.source)

  all_read : (files : Files) (feeds : List (OpenFeed S)) → AllByRecursion (Left files) feeds → AreReadOf files (map open_log_of feeds)
  all_read files [] all = tt
  all_read files (f ∷ feeds) all = (left_read files (open_log_of f) (remaining f.source) all.0, all_read files feeds all.1)

  -- what is told of feeds is read of their files
  pub told_read : (held : Option Files) (feeds : List (OpenFeed S)) → AllHaveLeft remaining held feeds → IfSome held (λ files. AreReadOf files (map open_log_of feeds))
  told_read None feeds all = tt
  told_read (Some files) feeds all = all_read files feeds all

  -- a read changed one feed, and one more was opened
  pub left_on : (held : Option Files) (feeds : List (OpenFeed S)) (i : ℕ) (f g : OpenFeed S) → AllHaveLeft remaining held feeds → i < length feeds → f ≡ get_or feeds i f
      → ((files : Files) → HasLeft files (open_log_of f) (remaining f.source) → HasLeft files (open_log_of g) (remaining g.source))
      → AllHaveLeft remaining held (set feeds i g)
  left_on None feeds i f g all within is on = tt
  left_on (Some files) feeds i f g all within is on = all_set (Left files) feeds i f g all within is (on files)

  pub left_pushed : {T E : Type 0} (held : Option Files) (feeds now : List (OpenFeed S)) (f : OpenFeed S) (r : Result T E) → AllHaveLeft remaining held feeds
      → IfSome held (λ files. HasLeft files (open_log_of f) (remaining f.source)) → now ≡ (if is_ok r then feeds ++ f ∷ [] else feeds) → AllHaveLeft remaining held now
  left_pushed None feeds now f r all one is = tt
  left_pushed (Some files) feeds now f r all one is = all_pushed (Left files) feeds now f r all one is
