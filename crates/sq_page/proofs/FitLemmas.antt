-- A page, read from one of its items on.
use Rattle.std.proofs.Common.{◌≡◌, ℕ, ◌+◌, ◌-◌, ◌^◌, ◌≤◌, true, eqb, List, [], ◌∷◌, ◌++◌, length, take, drop, Some, refl, sym, ap, subst, ◌∙◌, append_assoc, arith}
use Rattle.std.specs.Prelude.{replicate}
use Rattle.std.specs.List.{AllByRecursion}
use Rattle.std.specs.Int.{w16, to_be_bytes}
use Rattle.std.proofs.lemmas.Bool.{eqb-true}
use Rattle.std.proofs.lemmas.Grind.{flat_map-append}
use Rattle.std.proofs.lemmas.List.{length-append, length-take, length-drop, take-append-drop, drop_at, length-replicate, append-nil}
use Rattle.sq_item.specs.declared.Item.{Item}
use Rattle.sq_page.specs.Pages.{item_bytes, items_bytes, page_bytes, end_of, IsItem, IsPageOf, IsPage, mark_flag, body_flag, number, until_bytes, body_bytes}
use Rattle.sq_page.specs.Reading.{take_many, take_item, take_byte, number_below}
use Rattle.sq_page.specs.Skipping.{many_rest, item_rest, count_told}
use Rattle.sq_page.specs.Fitting.{FitsPage, items_from, read_list, is_left_at}
use Rattle.sq_page.proofs.ItemTakes.{many_again}
use Rattle.sq_page.proofs.PageLemmas.{count-page}
use Rattle.sq_page.proofs.Skips.{many-rest, item-rest, rest_in}
use Rattle.sq_page.proofs.Takes.{below_again}
use Rattle.sq_page.proofs.WholeTakes.{item_again, item_there, item_is_there, page_size}

-- all items of both parts
pub each-front : (front back : List Item) → AllByRecursion IsItem (front ++ back) → AllByRecursion IsItem front
each-front [] back h = tt
each-front (i ∷ front) back h = (h.0, each-front front back h.1)

pub each-back : (front back : List Item) → AllByRecursion IsItem (front ++ back) → AllByRecursion IsItem back
each-back [] back h = h
each-back (i ∷ front) back h = each-back front back h.1

abbrev zeros : List Item → List ℕ
zeros items = replicate (8190 - length (items_bytes items)) 0

-- a page behind its number of items
pub behind-count : (bytes : List ℕ) (front back : List Item) → IsPageOf bytes (front ++ back) → drop 2 bytes ≡ items_bytes front ++ (items_bytes back ++ zeros (front ++ back))
behind-count bytes front back h =
    ap (drop 2) h.whole
    ∙ ap (λ (bs : List ℕ). bs ++ zeros (front ++ back)) (flat_map-append item_bytes front back)
    ∙ append_assoc (items_bytes front) (items_bytes back) (zeros (front ++ back))

pub from-end : (bytes : List ℕ) (front back : List Item) → IsPageOf bytes (front ++ back) → drop (end_of front) bytes ≡ items_bytes back ++ zeros (front ++ back)
from-end bytes front back h =
    let cells : page_bytes (front ++ back) ≡ (to_be_bytes w16 (length (front ++ back)) ++ items_bytes front) ++ (items_bytes back ++ zeros (front ++ back)) =
    ap (λ (bs : List ℕ). to_be_bytes w16 (length (front ++ back)) ++ (bs ++ zeros (front ++ back))) (flat_map-append item_bytes front back)
    ∙ ap (λ (bs : List ℕ). to_be_bytes w16 (length (front ++ back)) ++ bs) (append_assoc (items_bytes front) (items_bytes back) (zeros (front ++ back))) in
    ap (drop (end_of front)) (h.whole ∙ cells)
    ∙ drop_at (to_be_bytes w16 (length (front ++ back)) ++ items_bytes front) _ (end_of front) (omega arith)

pub items-are-read : (bytes : List ℕ) (front back : List Item) → IsPageOf bytes (front ++ back) → items_from bytes (end_of front) (length back) ≡ back
items-are-read bytes front back h =
    ap (λ (bs : List ℕ). read_list (take_many take_item (length back) bs)) (from-end bytes front back h)
    ∙ ap read_list (many_again take_item item_bytes IsItem item_again back (zeros (front ++ back)) (each-back front back h.each))

-- skipping so many items
pub front-skipped : (bytes : List ℕ) (front back : List Item) → IsPageOf bytes (front ++ back) → many_rest item_rest (length front) (drop 2 bytes) ≡ Some (items_bytes back ++ zeros (front ++ back))
front-skipped bytes front back h =
    many-rest take_item item_rest item-rest (length front) (drop 2 bytes)
    ∙ ap (λ (bs : List ℕ). rest_in (take_many take_item (length front) bs)) (behind-count bytes front back h)
    ∙ ap rest_in (many_again take_item item_bytes IsItem item_again front (items_bytes back ++ zeros (front ++ back)) (each-front front back h.each))

rest-length : (front back : List Item) → length (items_bytes (front ++ back)) ≤ 8190 → length (items_bytes back ++ zeros (front ++ back)) + end_of front ≡ 8192
rest-length front back room =
    omega (
      arith,
      room,
      ap length (flat_map-append item_bytes front back),
      length-append (items_bytes front) (items_bytes back),
      length-append (items_bytes back) (zeros (front ++ back)),
      length-replicate {A = ℕ} (8190 - length (items_bytes (front ++ back))) 0,
    )

-- the place at which skipping so many items ends
pub left-is : (bytes : List ℕ) (front back : List Item) (at : ℕ) → IsPageOf bytes (front ++ back) → is_left_at at (many_rest item_rest (length front) (drop 2 bytes)) ≡ true → at ≡ end_of front
left-is bytes front back at h is =
    let e : eqb (length (items_bytes back ++ zeros (front ++ back)) + at) 8192 ≡ true = ap (is_left_at at) (sym (front-skipped bytes front back h)) ∙ is in
    omega (arith, eqb-true _ _ e, rest-length front back h.room)

pub is-left : (bytes : List ℕ) (front back : List Item) (at : ℕ) → IsPageOf bytes (front ++ back) → at ≡ end_of front → is_left_at at (many_rest item_rest (length front) (drop 2 bytes)) ≡ true
is-left bytes front back at h is =
    ap (is_left_at at) (front-skipped bytes front back h)
    ∙ ap (λ (n : ℕ). eqb n 8192) (ap (λ (k : ℕ). length (items_bytes back ++ zeros (front ++ back)) + k) is ∙ rest-length front back h.room)

pub makes-fit : (bytes : List ℕ) (items : List Item) (start count end : ℕ) → IsPageOf bytes items → count ≤ length items
    → is_left_at start (many_rest item_rest (length items - count) (drop 2 bytes)) ≡ true → is_left_at end (many_rest item_rest (length items) (drop 2 bytes)) ≡ true → FitsPage bytes start count end
makes-fit bytes items start count end h few one two =
    let front : List Item = take (length items - count) items in
    let back : List Item = drop (length items - count) items in
    let parts : front ++ back ≡ items = take-append-drop (length items - count) items in
    let page : IsPageOf bytes (front ++ back) = subst (λ (xs : List Item). IsPageOf bytes xs) (sym parts) h in
    let fronts : length items - count ≡ length front = omega (arith, few, length-take (length items - count) items) in
    let none : items ++ [] ≡ items = append-nil items in
    let all : IsPageOf bytes (items ++ []) = subst (λ (xs : List Item). IsPageOf bytes xs) (sym none) h in
    record {
      front = front;
      back = back;
      page = page;
      starts = left-is bytes front back start page (ap (λ (n : ℕ). is_left_at start (many_rest item_rest n (drop 2 bytes))) (sym fronts) ∙ one);
      counts = omega (arith, few, length-drop (length items - count) items);
      ends = left-is bytes items [] end all two ∙ ap end_of (sym parts);
    }

-- the tests of a page that fits
pub record FitTests (bytes : List ℕ) (start count end many : ℕ) : Type 0 where
  pub size : length bytes ≡ 8192
  pub few : count ≤ many
  pub begins : is_left_at start (many_rest item_rest (many - count) (drop 2 bytes)) ≡ true
  pub stops : is_left_at end (many_rest item_rest many (drop 2 bytes)) ≡ true

pub page-count : (bytes : List ℕ) (items : List Item) → IsPageOf bytes items → count_told bytes ≡ length items
page-count bytes items h = ap count_told h.whole ∙ count-page items h.room

pub fit-tests : (bytes : List ℕ) (start count end many : ℕ) → FitsPage bytes start count end → many ≡ count_told bytes → FitTests bytes start count end many
fit-tests bytes start count end many f is =
    let all : many ≡ length (f.front ++ f.back) = is ∙ page-count bytes (f.front ++ f.back) f.page in
    let fronts : many - count ≡ length f.front = omega (arith, all, f.counts, length-append f.front f.back) in
    let none : (f.front ++ f.back) ++ [] ≡ f.front ++ f.back = append-nil (f.front ++ f.back) in
    let page : IsPageOf bytes ((f.front ++ f.back) ++ []) = subst (λ (xs : List Item). IsPageOf bytes xs) (sym none) f.page in
    record {
      size = page_size bytes _ f.page;
      few = omega (arith, all, f.counts, length-append f.front f.back);
      begins = ap (λ (n : ℕ). is_left_at start (many_rest item_rest n (drop 2 bytes))) fronts ∙ is-left bytes f.front f.back start f.page f.starts;
      stops = ap (λ (n : ℕ). is_left_at end (many_rest item_rest n (drop 2 bytes))) all ∙ is-left bytes (f.front ++ f.back) [] end page f.ends;
    }

-- a page that passes the tests
pub fit-of-tests : (bytes : List ℕ) (start count end many : ℕ) → IsPage bytes → many ≡ count_told bytes → count ≤ many
    → is_left_at start (many_rest item_rest (many - count) (drop 2 bytes)) ≡ true → is_left_at end (many_rest item_rest many (drop 2 bytes)) ≡ true → FitsPage bytes start count end
fit-of-tests bytes start count end many page is few one two =
    let all : many ≡ length page.0 = is ∙ page-count bytes page.0 page.1 in
    makes-fit bytes page.0 start count end page.1 (omega (arith, few, all))
    (ap (λ (n : ℕ). is_left_at start (many_rest item_rest (n - count) (drop 2 bytes))) (sym all) ∙ one)
    (ap (λ (n : ℕ). is_left_at end (many_rest item_rest n (drop 2 bytes))) (sym all) ∙ two)

pub fit-is-page : (bytes : List ℕ) (start count end : ℕ) → FitsPage bytes start count end → IsPage bytes
fit-is-page bytes start count end f = (f.front ++ f.back, f.page)

-- the time of an item, read where the item begins
pub record TimeRead (bytes : List ℕ) (item : Item) : Type 0 where
  pub first : ℕ × List ℕ
  pub one : take_byte bytes ≡ Some first
  pub second : ℕ × List ℕ
  pub two : number_below (2 ^ 40) first.1 ≡ Some second
  pub time : second.0 ≡ item.time

pub time-of-bytes : (item : Item) (rest : List ℕ) → IsItem item → TimeRead (item_bytes item ++ rest) item
unfolding item_bytes
time-of-bytes item rest h =
    let after : List ℕ = until_bytes item.mark ++ body_bytes item.body ++ rest in
    record {
      first = (mark_flag item.mark + body_flag item.body, number item.time ++ after);
      one = refl;
      second = (item.time, after);
      two = below_again (2 ^ 40) item.time after h.sound.tick (omega (arith, h.sound.tick));
      time = refl;
    }

pub time-read : (bytes : List ℕ) (at : ℕ) (front : List Item) (item : Item) (back : List Item) → IsPageOf bytes (front ++ item ∷ back) → at ≡ end_of front → TimeRead (drop at bytes) item
time-read bytes at front item back h is =
    subst (λ (bs : List ℕ). TimeRead bs item) (sym (ap (λ (n : ℕ). drop n bytes) is ∙ item_there bytes front item back h))
    (time-of-bytes item _ (item_is_there bytes front item back h))
