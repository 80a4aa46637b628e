-- What feeds in memory are.
use Rattle.std.specs.Prelude.{◌≡◌, ◌⊎◌, ◌≤◌, ℕ, min, max, true, List, [], ◌∷◌, length, take, string_bytes, None, Some, refl}
use Rattle.std.specs.List.{AllByRecursion}
use Rattle.std.specs.Coded.{Coded, code_by, coded×, coded_ℕ, coded_list}
use Rattle.std.specs.FinMap as finite
use Rattle.sq_outside.specs.Calls.{Calls, FailsNext, called, faulted, calls_code}
use Rattle.sq_outside.specs.Folders.{Files, file}
use Rattle.sq_feeds.specs.declared.mem_feeds.MemFeed.{MemFeed}
use Rattle.sq_feeds.specs.Feeds.{FeedLog, feed_log_code, text_read}

-- the files, what went through each feed, how many bytes each of the next reads gives at most, and the calls
pub record FeedMemory : Type 0 where
  pub files : Files
  pub logs : List FeedLog
  pub cuts : List ℕ
  pub calls : Calls

-- how many bytes a read gives at most; behind the last cut as many as there is room for
abbrev pub cut_to : List ℕ → ℕ → ℕ
cut_to [] room = room
cut_to (cut ∷ cuts) room = min (max 1 cut) room

abbrev pub feeds_code : Coded FeedMemory
feeds_code = code_by (Files × (List FeedLog × (List ℕ × Calls)))
    (coded× (finite.code (coded_list coded_ℕ) (coded_list coded_ℕ)) (coded× (coded_list feed_log_code) (coded× (coded_list coded_ℕ) calls_code)))
    (λ f. (f.files, (f.logs, (f.cuts, f.calls)))) (λ p. record { files = p.0; logs = p.1.0; cuts = p.1.1.0; calls = p.1.1.1 }) (λ _. refl)

-- what went through a feed
abbrev pub feed_log_of : MemFeed → FeedLog
feed_log_of f = record { name = string_bytes f.name; pieces = f.pieces.all; ended = f.ended }

-- a feed gave the bytes of its file up to its place, and ended only behind the last
pub record GaveFront (files : Files) (f : MemFeed) : Type 0 where
  pub there : file files (string_bytes f.name) ≡ Some f.bytes.items
  pub within : f.at ≤ length f.bytes.items
  pub given : text_read (feed_log_of f) ≡ take f.at f.bytes.items
  pub ends : f.ended ≡ true → f.at ≡ length f.bytes.items

abbrev pub AllGaveFront : Files → List MemFeed → Type 0
AllGaveFront files feeds = AllByRecursion (GaveFront files) feeds

-- no feed was opened: it was to fail, which is a fault, or no file has the name, which is none
abbrev pub FailsToOpen : FeedMemory → FeedMemory → List ℕ → Type 0
FailsToOpen before now name =
    (FailsNext before.calls × (now ≡ record before { calls = faulted before.calls }))
    ⊎ ((¬ FailsNext before.calls) × (file before.files name ≡ None) × (now ≡ record before { calls = called before.calls }))
