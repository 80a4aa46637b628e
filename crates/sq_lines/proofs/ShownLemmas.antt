-- The text of a run's lines, whole or a part of it.
use Rattle.std.proofs.Common.{◌≡◌, ℕ, List, [], ◌∷◌, ◌++◌, refl, ap, ap₂, sym, ◌∙◌, subst, append_assoc, append-nil}
use Rattle.std.specs.Prelude.{map, Result, Ok, Err, OnOk, OnErr}
use Rattle.std.specs.List.{flat_map, zip}
use Rattle.std.proofs.lemmas.Grind.{flat_map-append}
use Rattle.sq_lines.specs.LineTexts.{end_line}
use Rattle.sq_net.specs.declared.Network.{Network}
use Rattle.sq_lines.specs.RunLines.{AppendsPart, end_lines, fed_line, late_lines, late_text, lines_text}
use Rattle.sq_words.proofs.Lists.{flat_map_of_map}

text_of_lines : {X : Type 0} (f : X → List (List ℕ)) (xs : List X) → flat_map (λ l. l) (flat_map f xs) ≡ flat_map (λ x. flat_map (λ l. l) (f x)) xs
text_of_lines f [] = refl
text_of_lines f (x ∷ xs) = flat_map-append (λ l. l) (f x) (flat_map f xs) ∙ ap (λ y. flat_map (λ l. l) (f x) ++ y) (text_of_lines f xs)

-- a text, and a part of another behind it
part_behind : (before mid now text more : List ℕ) → mid ≡ before ++ text → AppendsPart mid now more → AppendsPart before now (text ++ more)
part_behind before mid now text more e p = (
  text ++ p.0,
  (p.1.0, ap (λ y. text ++ y) p.1.1 ∙ sym (append_assoc text p.0 p.1.0)),
  p.2 ∙ ap (λ y. y ++ p.0) e ∙ append_assoc before text p.0,
)

-- nothing is a part
part_none : (before now text : List ℕ) → now ≡ before → AppendsPart before now text
part_none before now text e = ([], (text, refl), e ∙ sym (append-nil before))

-- a part of a text is one of a longer text
part_longer : (before now text more : List ℕ) → AppendsPart before now text → AppendsPart before now (text ++ more)
part_longer before now text more p = (p.0, (p.1.0 ++ more, ap (λ y. y ++ more) p.1.1 ∙ append_assoc p.0 p.1.0 more), p.2)

-- where memory ran out nothing was appended
pub err_none : {T E : Type 0} (r : Result T E) (before now text : List ℕ) → OnErr r (now ≡ before) → OnErr r (AppendsPart before now text)
err_none (Ok x) before now text h = tt
err_none (Err e) before now text h = part_none before now text h

-- the end lines, part by part
module _ (n : Network) (fed late : List ℕ) (before : List ℕ) where
  abbrev feds : List ℕ
  feds = flat_map fed_line (zip n.boxes fed)

  abbrev lates : List ℕ
  lates = flat_map late_text (zip n.boxes late)

  ends_are : lines_text (end_lines n fed late) ≡ feds ++ (lates ++ end_line)
  ends_are =
      flat_map-append (λ l. l) (map fed_line (zip n.boxes fed)) (flat_map late_lines (zip n.boxes late) ++ end_line ∷ [])
      ∙ ap₂ (λ y z. y ++ z) (flat_map_of_map fed_line (zip n.boxes fed))
      (flat_map-append (λ l. l) (flat_map late_lines (zip n.boxes late)) (end_line ∷ []) ∙ ap₂ (λ y z. y ++ z) (text_of_lines late_lines (zip n.boxes late)) (append-nil end_line))

  part_is : (now : List ℕ) → AppendsPart before now (feds ++ (lates ++ end_line)) → AppendsPart before now (lines_text (end_lines n fed late))
  part_is now p = subst (λ y. AppendsPart before now y) (sym ends_are) p

  pub boxes_lost : (now : List ℕ) → AppendsPart before now feds → AppendsPart before now (lines_text (end_lines n fed late))
  boxes_lost now p = part_is now (part_longer before now feds (lates ++ end_line) p)

  module _ (mid : List ℕ) (boxes : mid ≡ before ++ feds) where
    pub lates_lost : (now : List ℕ) → AppendsPart mid now lates → AppendsPart before now (lines_text (end_lines n fed late))
    lates_lost now p = part_is now (part_behind before mid now feds (lates ++ end_line) boxes (part_longer mid now lates end_line p))

    module _ (waits : List ℕ) (sorters : waits ≡ mid ++ lates) where
      end_lost : (now : List ℕ) → now ≡ waits → AppendsPart before now (lines_text (end_lines n fed late))
      end_lost now e = part_is now (part_behind before mid now feds (lates ++ end_line) boxes (part_behind mid waits now lates end_line sorters (part_none waits now end_line e)))

      ends_whole : (now : List ℕ) → now ≡ waits ++ end_line → now ≡ before ++ lines_text (end_lines n fed late)
      ends_whole now e =
          e ∙ ap (λ y. y ++ end_line) (sorters ∙ ap (λ y. y ++ lates) boxes ∙ append_assoc before feds lates) ∙ append_assoc before (feds ++ lates) end_line
          ∙ ap (λ y. before ++ y) (append_assoc feds lates end_line ∙ sym ends_are)

      pub end_ok : {T E : Type 0} (r : Result T E) (now : List ℕ) → OnOk r (now ≡ waits ++ end_line) → OnOk r (now ≡ before ++ lines_text (end_lines n fed late))
      end_ok (Ok x) now h = ends_whole now h
      end_ok (Err e) now h = tt

      pub end_err : {T E : Type 0} (r : Result T E) (now : List ℕ) → OnErr r (now ≡ waits) → OnErr r (AppendsPart before now (lines_text (end_lines n fed late)))
      end_err (Ok x) now h = tt
      end_err (Err e) now h = end_lost now h
