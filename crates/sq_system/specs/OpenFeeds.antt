-- What feeds over what opens files are.
use Rattle.std.specs.Prelude.{◌≡◌, ℕ, true, List, [], ◌++◌, string_bytes, Option, Some, IfSome, IsSomeAnd, refl}
use Rattle.std.specs.List.{AllByRecursion}
use Rattle.std.specs.Coded.{Coded, code_by, coded×, coded_ℕ, coded_list, coded_option}
use Rattle.std.specs.FinMap as finite
use Rattle.sq_outside.specs.Folders.{Files, file}
use Rattle.sq_feeds.specs.Feeds.{FeedLog, feed_log_code, text_read}
use Rattle.sq_system.specs.declared.feeds.OpenFeed.{OpenFeed}

-- the bytes of each file, where they are told, what went through each feed, and how many calls failed
pub record OpenedFeeds : Type 0 where
  pub files : Option Files
  pub logs : List FeedLog
  pub failed : ℕ

abbrev pub opened_code : Coded OpenedFeeds
opened_code = code_by (Option Files × (List FeedLog × ℕ))
    (coded× (coded_option (finite.code (coded_list coded_ℕ) (coded_list coded_ℕ))) (coded× (coded_list feed_log_code) coded_ℕ))
    (λ f. (f.files, (f.logs, f.failed))) (λ p. record { files = p.0; logs = p.1.0; failed = p.1.1 }) (λ _. refl)

-- what went through a feed
abbrev pub open_log_of : {S : Type 0} → OpenFeed S → FeedLog
open_log_of f = record { name = string_bytes f.name; pieces = f.pieces.all; ended = f.ended }

-- what was read of a feed, and then what its source has left, is its file; nothing is left where it came to its end
abbrev pub HasLeft : Files → FeedLog → Option (List ℕ) → Type 0
HasLeft files log source = IsSomeAnd source (λ left. (file files log.name ≡ Some (text_read log ++ left)) × (log.ended ≡ true → left ≡ []))

-- and of all feeds, where files are told
abbrev pub AllHaveLeft : {S : Type 0} → (S → Option (List ℕ)) → Option Files → List (OpenFeed S) → Type 0
AllHaveLeft remaining held feeds = IfSome held (λ files. AllByRecursion (λ f. HasLeft files (open_log_of f) (remaining f.source)) feeds)
