-- From the mask of one load to the bytes that pass a test.
use Rattle.std.proofs.Common.{◌≡◌, ◌∙◌, ap, sym, refl, ℕ, zero, suc, ◌+◌, ◌-◌, ◌%◌, ◌^◌, ◌<◌, ◌≤◌, Bool, true, false, not, ◌&&◌, leb, cond, List, [], ◌∷◌, ◌++◌, map, length, take, drop, get_or, Fits, w8, arith}
use Rattle.std.specs.List.{prefix_len, list_all, slice_range}
use Rattle.std.proofs.Math.Seq.{take-add}
use Rattle.std.proofs.lemmas.Bool.{agree_below, agree_below_at, le-leb}
use Rattle.std.proofs.lemmas.Bool.Decides.{nat_tests}
use Rattle.std.proofs.lemmas.List.{drop-drop, get_or-drop, get_or-take, length-map, take-append-le}
use Rattle.std.proofs.lemmas.List.Edits.{between_none}
use Rattle.std.proofs.lemmas.List.Folds.{list_all-append}
use Rattle.std.proofs.lemmas.List.Sums.{prefix_len-le-length, prefix_len_passes, prefix_len_stops}
use Rattle.std.proofs.lemmas.Simd.{chunk-drop, chunk-fits, first_set_mask_l, length-chunk, map-map, mask_l-mod}
use lib.Lanes.{Each1, chunk, mask_l, top}
use Rattle.sq_csv.specs.Cuts.{below_128}
use Rattle.sq_csv.specs.Lanes.{PassesOver, first_set}

-- two tests that agree on all bytes pass as many of them
same_prefix : (p q : ℕ → Bool) (bs : List ℕ) → Each1 (Fits w8) bs → agree_below p q 256 ≡ true → prefix_len p bs ≡ prefix_len q bs
same_prefix p q [] fits all = refl
same_prefix p q (b ∷ bs) fits all = rw (agree_below_at p q 256 b all fits.0.fits, same_prefix p q bs fits.1 all) refl

-- a lane's top bit is set just where its byte fails the test
pub run_of : (test : ℕ → Bool) (text : List ℕ) (at run : ℕ) (lanes : List ℕ) (f : ℕ → ℕ) → at + 16 ≤ length text → ((k : ℕ) → Fits w8 (get_or text k 0))
    → run ≡ first_set (mask_l (map (top 7) lanes) % 2 ^ 64) → lanes ≡ map f (chunk at 16 text) → agree_below (λ b. not (top 7 (f b))) test 256 ≡ true
    → run ≡ prefix_len test (chunk at 16 text)
run_of test text at run lanes f room fits found are all =
    let bytes = chunk at 16 text in
    let stops : ℕ → Bool = λ b. top 7 (f b) in
    let long = length-chunk at 16 text room in
    let mask = ap (λ l. mask_l l % 2 ^ 64) (ap (map (top 7)) are ∙ map-map (top 7) f bytes) ∙ mask_l-mod (map stops bytes) 64 (omega (arith, length-map bytes stops, long)) in
    found ∙ ap first_set mask ∙ first_set_mask_l stops bytes 16 long (omega arith) ∙ same_prefix (λ b. not (stops b)) test bytes (chunk-fits w8 at 16 text fits) all

told_first : (b : Bool) (n k : ℕ) (rest : Bool) → leb n k ≡ rest → leb (suc n) (cond b (1 + k) 0) ≡ (b && rest)
told_first true n k rest h = grind (arith, nat_tests)
told_first false n k rest h = grind (arith, nat_tests)

-- whether the first bytes pass a test is told by how many do
pub told_by_run : (test : ℕ → Bool) (n : ℕ) (bs : List ℕ) → n ≤ length bs → leb n (prefix_len test bs) ≡ list_all test (take n bs)
told_by_run test zero bs room = grind (arith, nat_tests)
told_by_run test (suc n) [] room = absurd (omega arith)
told_by_run test (suc n) (b ∷ bs) room = told_first (test b) n (prefix_len test bs) _ (told_by_run test n bs (omega arith))

-- the bytes up to a place in a load are those before the load and its first
passes_on : (test : ℕ → Bool) (text : List ℕ) (from at run : ℕ) → from ≤ at → at + 16 ≤ length text → run ≤ 16
    → list_all test (slice_range text from (at + run)) ≡ (list_all test (slice_range text from at) && leb run (prefix_len test (chunk at 16 text)))
passes_on test text from at run ahead room short =
    let bytes = chunk at 16 text in
    let long = length-chunk at 16 text room in
    let behind : drop (at - from) (drop from text) ≡ bytes ++ drop (at + 16) text =
    drop-drop (at - from) from text ∙ ap (λ n. drop n text) (omega arith) ∙ chunk-drop at 16 text in
    let parts : slice_range text from (at + run) ≡ slice_range text from at ++ take run bytes =
    ap (λ n. take n (drop from text)) (omega arith) ∙ take-add (at - from) run (drop from text)
    ∙ ap (λ bs. slice_range text from at ++ bs) (ap (take run) behind ∙ take-append-le run bytes (drop (at + 16) text) (omega (arith, long))) in
    ap (list_all test) parts ∙ list_all-append test (slice_range text from at) (take run bytes)
    ∙ ap (λ t. list_all test (slice_range text from at) && t) (sym (told_by_run test run bytes (omega (arith, long))))

pub run_short : (test : ℕ → Bool) (text : List ℕ) (at run : ℕ) → at + 16 ≤ length text → run ≡ prefix_len test (chunk at 16 text) → run ≤ 16
run_short test text at run room is =
    let bytes = chunk at 16 text in omega (arith, is, prefix_len-le-length test bytes, length-chunk at 16 text room)

pub skips_none : (test : ℕ → Bool) (text : List ℕ) (from : ℕ) → from ≤ length text → PassesOver test text from (from, true)
skips_none test text from within =
    let none = between_none text from in record { ahead = omega arith; within = within; passed = rw none refl; ascii = rw none refl }

-- one load more
pub skips_more : (test : ℕ → Bool) (text : List ℕ) (from at run low : ℕ) (ascii : Bool) → PassesOver test text from (at, ascii) → at + 16 ≤ length text
    → run ≡ prefix_len test (chunk at 16 text) → low ≡ prefix_len below_128 (chunk at 16 text) → PassesOver test text from (at + run, ascii && leb run low)
skips_more test text from at run low ascii so_far room is_run is_low =
    let short = run_short test text at run room is_run in record {
      ahead = omega (arith, so_far.ahead);
      within = omega (arith, short);
      passed = rw (passes_on test text from at run so_far.ahead room short, so_far.passed) (le-leb _ _ (omega (arith, is_run)));
      ascii = rw (is_low, so_far.ascii) (sym (passes_on below_128 text from at run so_far.ahead room short));
    }

-- a byte of a load, by its place in the text
in_load : (text : List ℕ) (at k : ℕ) → k < 16 → get_or (chunk at 16 text) k 0 ≡ get_or text (at + k) 0
in_load text at k inside = get_or-take 16 (drop at text) k 0 inside ∙ get_or-drop at text k 0

-- the bytes of a run pass its test
pub run_passes : (test : ℕ → Bool) (text : List ℕ) (at run k : ℕ) → at + 16 ≤ length text → run ≡ prefix_len test (chunk at 16 text) → k < run
    → test (get_or text (at + k) 0) ≡ true
run_passes test text at run k room is inside =
    let short = run_short test text at run room is in
    sym (ap test (in_load text at k (omega (arith, short)))) ∙ prefix_len_passes test (chunk at 16 text) k 0 (omega (arith, is))

-- and the byte behind it doesn't, where the load has one
pub run_stops : (test : ℕ → Bool) (text : List ℕ) (at run : ℕ) → at + 16 ≤ length text → run ≡ prefix_len test (chunk at 16 text) → run < 16
    → test (get_or text (at + run) 0) ≡ false
run_stops test text at run room is short =
    let bytes = chunk at 16 text in
    sym (ap test (in_load text at run short)) ∙ ap (λ k. test (get_or bytes k 0)) is ∙ prefix_len_stops test bytes 0 (omega (arith, is, length-chunk at 16 text room))

pub run_all : (test : ℕ → Bool) (text : List ℕ) (at run : ℕ) → at + 16 ≤ length text → run ≡ prefix_len test (chunk at 16 text)
    → list_all test (slice_range text at (at + run)) ≡ true
run_all test text at run room is = (skips_more test text at at run _ true (skips_none test text at (omega arith)) room is refl).passed
