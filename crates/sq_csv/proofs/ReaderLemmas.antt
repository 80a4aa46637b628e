-- What a reader of `csv` reads of one line.
use Rattle.std.proofs.Common.{◌≡◌, ◌∙◌, ap, sym, refl, ℕ, zero, suc, Bor, true, false, List, [], ◌∷◌, ◌++◌, append_assoc, drop, map, Option, Some, None}
use Rattle.std.proofs.lemmas.List.{append-nil, map-append}
use Rattle.csv.specs.Machine.{Read, next_record}
use Rattle.csv.specs.Reading.{Reached, ReadRecord, default_config, source_of, strip_bom}
use Rattle.csv.specs.Records.{field_at}
use Rattle.csv.specs.declared.parser.State.TheVariants as st
use Rattle.csv.specs.declared.reader.Reader.{Reader}
use Rattle.csv.proofs.ReadFacts.{rows-end, rows-more}
use Rattle.sq_csv.specs.Kit.{sole}
use Rattle.sq_csv.specs.Records.{has_mark, sole_record}
use Rattle.sq_csv.proofs.RecordLemmas.{records_are_csv}

-- the bytes that are left of a text
abbrev left : Bor (List ℕ) → Option (List ℕ)
left s = Some s.now

-- a reader that is set as by default, at the start of a line
pub record Starts (a : Reader (Bor (List ℕ))) (line : List ℕ) : Type 0 where
  pub config : a.config ≡ default_config
  pub source : source_of left a ≡ Some line
  pub state : st.StartRecord ≡ a.state

-- the line was read up to here, and these records with it
abbrev Read_to : Reader (Bor (List ℕ)) → List ℕ → List (List (List ℕ)) → Type 0
Read_to a line rows = (y : List ℕ) × (source_of left a ≡ Some y) × Reached default_config st.StartRecord line rows a.state y

begun : (a : Reader (Bor (List ℕ))) (line : List ℕ) → Starts a line → Read_to a line []
unfolding Reached
begun a line s = (line, s.source, (s.state, refl))

more : (a b : Reader (Bor (List ℕ))) (line : List ℕ) (rows : List (List (List ℕ))) (row : List (List ℕ)) → a.config ≡ default_config → Read_to a line rows → ReadRecord left a b true row
    → Read_to b line (rows ++ row ∷ [])
more a b line rows row config so_far read = rows-more left a b row default_config st.StartRecord line so_far.0 rows config so_far.1 so_far.2 read

last_alone : (r : Read) → next_record default_config r.1 [] [] r.2 ≡ None → sole (Some r) ≡ Some r.0
last_alone r e = rw e

not_last : (r next : Read) → next_record default_config r.1 [] [] r.2 ≡ Some next → sole (Some r) ≡ None
not_last r next e = rw e

-- a line in which no record is read
pub none_read : (a b : Reader (Bor (List ℕ))) (line : List ℕ) (row : List (List ℕ)) → Starts a line → ReadRecord left a b false row → sole_record line ≡ None
none_read a b line row s read =
    let none : next_record default_config st.StartRecord [] [] line ≡ None = rw s.state (rows-end left a b row default_config line s.config s.source read) in
    sym (records_are_csv line) ∙ ap sole none

-- one in which one record is read and then none
pub one_read : (a b d : Reader (Bor (List ℕ))) (line : List ℕ) (row other : List (List ℕ)) → Starts a line → ReadRecord left a b true row → ReadRecord left b d false other
    → sole_record line ≡ Some row
unfolding Reached
one_read a b d line row other s first second =
    let so_far = more a b line [] row s.config (begun a line s) first in
    let none = rows-end left b d other default_config so_far.0 (first.2 ∙ s.config) so_far.1 second in
    let r = so_far.2.0 in
    let end : next_record default_config r.1 [] [] r.2 ≡ None = rw (so_far.2.3.0, so_far.2.3.1) none in
    sym (records_are_csv line) ∙ ap sole so_far.2.1 ∙ last_alone r end ∙ ap Some (sym so_far.2.2)

-- one in which two records are read
pub two_read : (a b d : Reader (Bor (List ℕ))) (line : List ℕ) (row next : List (List ℕ)) → Starts a line → ReadRecord left a b true row → ReadRecord left b d true next
    → sole_record line ≡ None
unfolding Reached
two_read a b d line row next s first second =
    let so_far = more a b line [] row s.config (begun a line s) first in
    let both = (more b d line (row ∷ []) next (first.2 ∙ s.config) so_far second).2 in
    let behind = both.3 in
    sym (records_are_csv line) ∙ ap sole both.1 ∙ not_last both.0 behind.0 behind.1

-- a text that begins with no mark of byte order is read as it stands
pub unmarked : (text : List ℕ) → has_mark text ≡ false → strip_bom text ≡ text
unfolding strip_bom
unmarked [] h = refl
unmarked (a ∷ []) h = refl
unmarked (a ∷ b ∷ []) h = refl
unmarked (a ∷ b ∷ c ∷ rest) h = rw h refl

first_field : (fields : List (List ℕ)) (i : ℕ) (field : List ℕ) → field_at fields i ≡ Some field → drop i fields ≡ field ∷ drop (suc i) fields
unfolding field_at
first_field [] i field e = cc e
first_field (f ∷ fs) zero field e = let same : f ≡ field = cc e in ap (λ x. x ∷ fs) same
first_field (f ∷ fs) (suc i) field e = first_field fs i field e

no_field : (fields : List (List ℕ)) (i : ℕ) → field_at fields i ≡ None → drop i fields ≡ []
unfolding field_at
no_field [] zero e = refl
no_field [] (suc i) e = refl
no_field (f ∷ fs) zero e = cc e
no_field (f ∷ fs) (suc i) e = no_field fs i e

-- the fields that were seen, and those from a place on, are all
abbrev pub AreAll : List (Bor (List ℕ)) → ℕ → List (List ℕ) → List (List ℕ) → Type 0
AreAll seen i fields whole = map (λ f. f.now) seen ++ drop i fields ≡ whole

pub all_more : (seen : List (Bor (List ℕ))) (i : ℕ) (fields whole : List (List ℕ)) (field : Bor (List ℕ)) → AreAll seen i fields whole → field_at fields i ≡ Some field.now
    → AreAll (seen ++ field ∷ []) (suc i) fields whole
all_more seen i fields whole field all here =
    ap (λ xs. xs ++ drop (suc i) fields) (map-append (λ f. f.now) seen (field ∷ []))
    ∙ append_assoc (map (λ f. f.now) seen) (field.now ∷ []) (drop (suc i) fields)
    ∙ ap (λ xs. map (λ f. f.now) seen ++ xs) (sym (first_field fields i field.now here))
    ∙ all

pub all_seen : (seen : List (Bor (List ℕ))) (i : ℕ) (fields whole : List (List ℕ)) → AreAll seen i fields whole → field_at fields i ≡ None → map (λ f. f.now) seen ≡ whole
all_seen seen i fields whole all none =
    sym (append-nil (map (λ f. f.now) seen)) ∙ ap (λ xs. map (λ f. f.now) seen ++ xs) (sym (no_field fields i none)) ∙ all
