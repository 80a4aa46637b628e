-- Texts made of lines, and the lines that they are cut into.
use Rattle.std.proofs.Common.{◌≡◌, ◌⊎◌, inl, inr, ℕ, ◌+◌, ◌-◌, ◌<◌, ◌≤◌, ◌==◌, ◌&&◌, Bool, true, false, not, zero, suc, List, [], ◌∷◌, ◌++◌, length, take, refl, ap, sym, ◌∙◌, arith, append_assoc, subst}
use Rattle.std.proofs.lemmas.Bool.{cases_lt}
use Rattle.std.proofs.lemmas.List.{take-append-le}
use Rattle.std.proofs.Math.Seq.{take-append-add, take-append_seam}
use Rattle.sq_words.specs.Lists.{IsPrefixOf}
use Rattle.std.specs.Prelude.{if◌then◌else◌}
use Rattle.std.specs.List.{flat_map, AllByRecursion}
use Rattle.std.proofs.lemmas.Bool.Decides.{nat_tests}
use Rattle.sq_lines.specs.Classes.{pieces_after, all_but_last, last_piece, whole_lines, unfinished}

abbrev is_empty : List ℕ → Bool
is_empty [] = true
is_empty (b ∷ bs) = false

-- one line: a line feed with an even number of quotes before it at its end, and nowhere else
abbrev pub is_line : Bool → List ℕ → Bool
is_line quoted [] = false
is_line quoted (b ∷ bs) = if (b == 10) && not quoted then is_empty bs else is_line (if b == 34 then not quoted else quoted) bs

is_empty-true : (bs : List ℕ) → is_empty bs ≡ true → bs ≡ []
is_empty-true [] h = refl
is_empty-true (b ∷ bs) h = cc

-- at a line feed that ends a line no quote is open
closed_at : (q : Bool) (b : ℕ) → ((b == 10) && not q) ≡ true → (if b == 34 then not q else q) ≡ false
closed_at true b e = grind (arith, nat_tests)
closed_at false b e = grind (arith, nat_tests)

line_ends : (q : Bool) (b : ℕ) (bs rest : List ℕ) → ((b == 10) && not q) ≡ true → is_line q (b ∷ bs) ≡ true
    → pieces_after q (b ∷ bs ++ rest) ≡ (b ∷ bs) ∷ pieces_after false rest
line_ends q b bs rest e h =
    let none = is_empty-true bs (rw e at h) in
    rw (e, none, closed_at q b e) refl

line_goes_on : (q : Bool) (b : ℕ) (bs rest : List ℕ) → ((b == 10) && not q) ≡ false
    → (is_line (if b == 34 then not q else q) bs ≡ true → pieces_after (if b == 34 then not q else q) (bs ++ rest) ≡ bs ∷ pieces_after false rest)
    → is_line q (b ∷ bs) ≡ true → pieces_after q (b ∷ bs ++ rest) ≡ (b ∷ bs) ∷ pieces_after false rest
line_goes_on q b bs rest e more h =
    let later = more (rw e at h) in
    rw (e, later) refl

-- a text that begins with a line is cut after it
line_first : (t q : Bool) (b : ℕ) (bs rest : List ℕ) → ((b == 10) && not q) ≡ t
    → (is_line (if b == 34 then not q else q) bs ≡ true → pieces_after (if b == 34 then not q else q) (bs ++ rest) ≡ bs ∷ pieces_after false rest)
    → is_line q (b ∷ bs) ≡ true → pieces_after q (b ∷ bs ++ rest) ≡ (b ∷ bs) ∷ pieces_after false rest
line_first true q b bs rest e more h = line_ends q b bs rest e h
line_first false q b bs rest e more h = line_goes_on q b bs rest e more h

pub pieces_after-line : (q : Bool) (l rest : List ℕ) → is_line q l ≡ true → pieces_after q (l ++ rest) ≡ l ∷ pieces_after false rest
pieces_after-line q [] rest h = cc
pieces_after-line q (b ∷ bs) rest h = line_first ((b == 10) && not q) q b bs rest refl (pieces_after-line (if b == 34 then not q else q) bs rest) h

front_first : (t q : Bool) (j b : ℕ) (bs : List ℕ) → ((b == 10) && not q) ≡ t
    → (is_line (if b == 34 then not q else q) bs ≡ true → j < length bs → pieces_after (if b == 34 then not q else q) (take j bs) ≡ take j bs ∷ [])
    → is_line q (b ∷ bs) ≡ true → j < length bs → pieces_after q (b ∷ take j bs) ≡ (b ∷ take j bs) ∷ []
front_first true q j b bs e more h short = let none = is_empty-true bs (rw e at h) in absurd (omega (arith, rw none at short))
front_first false q j b bs e more h short = let later = more (rw e at h) short in rw (e, later) refl

-- a part of a line is no line
pub pieces_after-front : (q : Bool) (j : ℕ) (l : List ℕ) → is_line q l ≡ true → j < length l → pieces_after q (take j l) ≡ take j l ∷ []
pieces_after-front q zero l h short = refl
pieces_after-front q (suc j) [] h short = absurd (omega arith)
pieces_after-front q (suc j) (b ∷ bs) h short =
    front_first ((b == 10) && not q) q j b bs refl (pieces_after-front (if b == 34 then not q else q) j bs) h (omega arith)

-- a text of lines
abbrev pub text_of_lines : List (List ℕ) → List ℕ
text_of_lines ls = flat_map (λ l. l) ls

abbrev pub AreLines : List (List ℕ) → Type 0
AreLines ls = AllByRecursion (λ l. is_line false l ≡ true) ls

pub pieces_after-lines : (ls : List (List ℕ)) (p : List ℕ) → AreLines ls → pieces_after false p ≡ p ∷ [] → pieces_after false (text_of_lines ls ++ p) ≡ ls ++ (p ∷ [])
pieces_after-lines [] p are part = part
pieces_after-lines (l ∷ ls) p are part =
    rw (append_assoc l (text_of_lines ls) p, pieces_after-line false l (text_of_lines ls ++ p) are.0, pieces_after-lines ls p are.1 part) refl

all_but_last-one : (ls : List (List ℕ)) (p : List ℕ) → all_but_last (ls ++ (p ∷ [])) ≡ ls
all_but_last-one [] p = refl
all_but_last-one (l ∷ []) p = refl
all_but_last-one (l ∷ m ∷ ls) p = ap (λ x. l ∷ x) (all_but_last-one (m ∷ ls) p)

last_piece-one : (ls : List (List ℕ)) (p : List ℕ) → last_piece (ls ++ (p ∷ [])) ≡ p
last_piece-one [] p = refl
last_piece-one (l ∷ []) p = refl
last_piece-one (l ∷ m ∷ ls) p = last_piece-one (m ∷ ls) p

-- the lines of a text of lines, with a part of one behind them
pub whole_lines-lines : (ls : List (List ℕ)) (p : List ℕ) → AreLines ls → pieces_after false p ≡ p ∷ [] → whole_lines (text_of_lines ls ++ p) ≡ ls
whole_lines-lines ls p are part = rw (pieces_after-lines ls p are part) (all_but_last-one ls p)

pub unfinished-lines : (ls : List (List ℕ)) (p : List ℕ) → AreLines ls → pieces_after false p ≡ p ∷ [] → unfinished (text_of_lines ls ++ p) ≡ p
unfinished-lines ls p are part = rw (pieces_after-lines ls p are part) (last_piece-one ls p)

-- a part of the first of these lines
pub record IsFront (rest : List (List ℕ)) (part : List ℕ) : Type 0 where
  pub next : List ℕ
  pub more : List (List ℕ)
  pub size : ℕ
  pub rest_is : rest ≡ next ∷ more
  pub short : size < length next
  pub part_is : part ≡ take size next

-- a text that begins a text of lines: whole lines, and maybe a part of the next
pub record Cut (ls : List (List ℕ)) (text : List ℕ) : Type 0 where
  pub done : List (List ℕ)
  pub rest : List (List ℕ)
  pub part : List ℕ
  pub lines_are : ls ≡ done ++ rest
  pub text_is : text ≡ text_of_lines done ++ part
  pub part_is : (part ≡ []) ⊎ IsFront rest part

cut_first : (l : List ℕ) (ls : List (List ℕ)) (n : ℕ) → n < length l → Cut (l ∷ ls) (take n (text_of_lines (l ∷ ls)))
cut_first l ls n short = record {
  done = [];
  rest = l ∷ ls;
  part = take n l;
  lines_are = refl;
  text_is = take-append-le n l (text_of_lines ls) (omega arith);
  part_is = inr (record { next = l; more = ls; size = n; rest_is = refl; short = short; part_is = refl });
}

take-past : (l more : List ℕ) (n : ℕ) → length l ≤ n → take n (l ++ more) ≡ l ++ take (n - length l) more
take-past l more n long = let e : n ≡ length l + (n - length l) = omega arith in ap (λ k. take k (l ++ more)) e ∙ take-append-add l more (n - length l)

cut_later : (l : List ℕ) (ls : List (List ℕ)) (n : ℕ) → length l ≤ n → Cut ls (take (n - length l) (text_of_lines ls)) → Cut (l ∷ ls) (take n (text_of_lines (l ∷ ls)))
cut_later l ls n long c = record {
  done = l ∷ c.done;
  rest = c.rest;
  part = c.part;
  lines_are = ap (λ x. l ∷ x) c.lines_are;
  text_is = take-past l (text_of_lines ls) n long ∙ ap (λ x. l ++ x) c.text_is ∙ sym (append_assoc l (text_of_lines c.done) c.part);
  part_is = c.part_is;
}

take_none : (n : ℕ) → take {A = ℕ} n [] ≡ []
take_none zero = refl
take_none (suc n) = refl

pub cut_at : (ls : List (List ℕ)) (n : ℕ) → Cut ls (take n (text_of_lines ls))
cut_at [] n = record { done = []; rest = []; part = []; lines_are = refl; text_is = take_none n; part_is = inl refl }
cut_at (l ∷ ls) n = elim (cases_lt n (length l)) [ inl short ↦ cut_first l ls n short | inr long ↦ cut_later l ls n long (cut_at ls (n - length l)) ]

pub cut_prefix : (ls : List (List ℕ)) (text : List ℕ) → IsPrefixOf text (text_of_lines ls) → Cut ls text
cut_prefix ls text prefix =
    let e : take (length text) (text_of_lines ls) ≡ text = ap (take (length text)) prefix.1 ∙ take-append_seam text prefix.0 in
    subst (λ t. Cut ls t) e (cut_at ls (length text))

are_lines-front : (done rest : List (List ℕ)) → AreLines (done ++ rest) → AreLines done
are_lines-front [] rest are = tt
are_lines-front (l ∷ done) rest are = (are.0, are_lines-front done rest are.1)

are_lines-back : (done rest : List (List ℕ)) → AreLines (done ++ rest) → AreLines rest
are_lines-back [] rest are = are
are_lines-back (l ∷ done) rest are = are_lines-back done rest are.1

-- a part is no line
pub part_alone : (rest : List (List ℕ)) (part : List ℕ) → AreLines rest → (part ≡ []) ⊎ IsFront rest part → pieces_after false part ≡ part ∷ []
part_alone rest part are (inl none) = rw none refl
part_alone rest part are (inr front) =
    let first : is_line false front.next ≡ true = (subst AreLines front.rest_is are).0 in
    rw front.part_is (pieces_after-front false front.size front.next first front.short)

-- the whole lines and the unfinished one of a text that begins a text of lines
pub whole_lines-cut : (ls : List (List ℕ)) (text : List ℕ) (c : Cut ls text) → AreLines ls → whole_lines text ≡ c.done
whole_lines-cut ls text c are =
    let all = subst AreLines c.lines_are are in
    rw c.text_is (whole_lines-lines c.done c.part (are_lines-front c.done c.rest all) (part_alone c.rest c.part (are_lines-back c.done c.rest all) c.part_is))

pub unfinished-cut : (ls : List (List ℕ)) (text : List ℕ) (c : Cut ls text) → AreLines ls → unfinished text ≡ c.part
unfinished-cut ls text c are =
    let all = subst AreLines c.lines_are are in
    rw c.text_is (unfinished-lines c.done c.part (are_lines-front c.done c.rest all) (part_alone c.rest c.part (are_lines-back c.done c.rest all) c.part_is))
