-- What feeds in memory tell is read of their files.
use Rattle.std.proofs.Common.{◌≡◌, ◌<◌, ◌≤◌, ◌+◌, ◌-◌, ◌++◌, ◌∷◌, [], List, ℕ, false, map, set, length, take, drop, get_or, refl, sym, ap, ◌∙◌, arith}
use Rattle.std.specs.List.{flat_map}
use Rattle.std.proofs.lemmas.Grind.{common_steps}
use Rattle.std.proofs.lemmas.List.{take-append-drop, take_all}
use Rattle.std.proofs.Math.Seq.{take-add}
use Rattle.sq_outside.specs.Calls.{Calls, called}
use Rattle.sq_outside.specs.Folders.{Files}
use Rattle.sq_feeds.specs.declared.mem_feeds.MemFeed.{MemFeed}
use Rattle.sq_feeds.specs.Feeds.{FeedLog, AreReadOf, IsReadOf, after_read, with_read}
use Rattle.sq_feeds.specs.MemFeeds.{AllGaveFront, FeedMemory, GaveFront, feed_log_of}
use Rattle.sq_feeds.proofs.FeedLemmas.{feed_read, text_more}

front_read : (files : Files) (f : MemFeed) → GaveFront files f → IsReadOf files (feed_log_of f)
front_read files f g =
    let there = g.there in
    rw there (
      (drop f.at f.bytes.items, sym (take-append-drop f.at f.bytes.items) ∙ ap (λ t. t ++ drop f.at f.bytes.items) (sym g.given)),
      λ ended. g.given ∙ take_all f.at f.bytes.items (omega (arith, g.ends ended)),
    )

pub all_read : (files : Files) (feeds : List MemFeed) → AllGaveFront files feeds → AreReadOf files (map feed_log_of feeds)
all_read files [] all = tt
all_read files (f ∷ feeds) all = (front_read files f all.0, all_read files feeds all.1)

-- a feed gave the next bytes of its file
pub gives_on : (files : Files) (f g : MemFeed) (n : ℕ) (piece : List ℕ) → GaveFront files f → g.name ≡ f.name → g.bytes ≡ f.bytes → g.at ≡ f.at + n → g.ended ≡ false
    → n ≤ length f.bytes.items - f.at → piece ≡ take n (drop f.at f.bytes.items) → g.pieces.all ≡ f.pieces.all ++ piece ∷ [] → GaveFront files g
gives_on files f g n piece gave name bytes at going few is all = record {
  there = rw (name, bytes) gave.there;
  within = rw (bytes, at) (omega (arith, gave.within));
  given =
      ap (flat_map (λ p. p)) all ∙ text_more (feed_log_of f) piece ∙ ap (λ t. t ++ piece) gave.given ∙ ap (λ p. take f.at f.bytes.items ++ p) is
      ∙ sym (take-add f.at n f.bytes.items) ∙ rw (bytes, at) refl;
  ends = λ ended. let no = sym going ∙ ended in cc;
}

-- what was copied from a place of a text to the front of another
pub taken_copied : (n at : ℕ) (bytes copied rest into : List ℕ) → n ≤ length into → length copied ≡ length (take n into) → copied ≡ take (at + n - at) (drop at bytes)
    → take n (copied ++ rest) ≡ take n (drop at bytes)
taken_copied n at bytes copied rest into room same is =
    let long : length copied ≡ n = grind (arith, common_steps) in
    let front : take n (copied ++ rest) ≡ copied = grind (arith, common_steps) in
    let few : at + n - at ≡ n = omega arith in
    front ∙ is ∙ ap (λ m. take m (drop at bytes)) few

abbrev memory : Files → List FeedLog → List ℕ → Calls → FeedMemory
memory files logs cuts calls = record { files = files; logs = logs; cuts = cuts; calls = calls }

-- after a read
pub view_read : (files : Files) (feeds : List MemFeed) (i : ℕ) (f g : MemFeed) (piece cuts rest : List ℕ) (before now : Calls) → i < length feeds → f ≡ get_or feeds i f
    → feed_log_of g ≡ with_read (feed_log_of f) piece → rest ≡ drop 1 cuts → now ≡ called before
    → memory files (map feed_log_of (set feeds i g)) rest now ≡ memory files (after_read (map feed_log_of feeds) i piece) (drop 1 cuts) (called before)
view_read files feeds i f g piece cuts rest before now within is told cut count =
    let logs : map feed_log_of (set feeds i g) ≡ after_read (map feed_log_of feeds) i piece = feed_read feed_log_of feeds i f g piece within is told in
    ap (λ x. memory files x rest now) logs ∙ ap (λ x. memory files (after_read (map feed_log_of feeds) i piece) x now) cut
    ∙ ap (memory files (after_read (map feed_log_of feeds) i piece) (drop 1 cuts)) count
