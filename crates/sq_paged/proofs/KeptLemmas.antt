-- What is kept of each page, after a change of one.
use Rattle.std.proofs.Common.{◌≡◌, ◌≢◌, ℕ, ◌≤◌, true, List, [], ◌∷◌, ◌++◌, Option, Some, None, length, refl, sym, ap, ◌∙◌, arith}
use Rattle.std.specs.Prelude.{IfSome, is_some, ◌||◌}
use Rattle.std.specs.FinMap as finite
use Rattle.sq_item.specs.declared.Item.{Item}
use Rattle.sq_outside.specs.Disks.{Pages}
use Rattle.sq_pool.specs.Slots.{digest_at as digest_at}
use Rattle.sq_pool.specs.Pools.{Pooled, bytes_in, is_held, if_none, if_kept, HasDigest, Agree}
use Rattle.sq_pool.specs.Trust.{Tells}
use Rattle.sq_paged.specs.Fronts.{first_time}
use Rattle.sq_paged.specs.KeptPages.{Appended, Taken, Started, items_kept, items_of_bytes}
use Rattle.sq_bring.specs.Bringing.{page_seen, FitsKept, LeavesOthers}
use Rattle.sq_paged.specs.Faces.{IsKeptPage}
use Rattle.sq_bring.specs.declared.bring.Kept.{Kept}
use Rattle.sq_paged.proofs.StoreLemmas.{items-seen, back-head}

one-is : (o : Option (List ℕ)) (k : Option (List ℕ)) (g : Option (List ℕ)) → (is_some o || is_some k) ≡ true → IfSome k (HasDigest g) → (b : List ℕ) × (if_none o (if_kept k g) ≡ Some b)
one-is (Some b) k g h d = (b, refl)
one-is None None g h d = absurd cc
one-is None (Some k) None h d = absurd d
one-is None (Some k) (Some b) h d = (b, refl)

-- where the pages are known, each page in the map is seen
pub told-seen : (c : Pooled) (told : Option Pages) (p : ℕ) → Tells told → Agree c told → is_held c p ≡ true → (b : List ℕ) × (page_seen c told p ≡ Some b)
told-seen c None p t agree held = absurd cc
told-seen c (Some told) p t agree held = one-is (bytes_in p c.resident) (digest_at c.kept p) (finite.get told p) held (agree p)

pub first-behind : (xs ys : List Item) (t : ℕ) → first_time xs ≡ Some t → first_time (xs ++ ys) ≡ Some t
first-behind [] ys t h = absurd cc
first-behind (x ∷ xs) ys t h = h

first-time-is : (items : List Item) (first : Item) (rest : List Item) (time : ℕ) → items ≡ first ∷ rest → time ≡ first.time → first_time items ≡ Some time
first-time-is items first rest time e is = ap first_time e ∙ ap (λ (n : ℕ). Some n) (sym is)

-- another page than the one that changed
pub spared-items : (c : Pooled) (told : Option Pages) (d : Pooled) (now : Option Pages) (page : ℕ) (kept : Kept) → LeavesOthers c told d now page → kept.page ≢ page → Tells now → items_kept d now kept ≡ items_kept c told kept
spared-items c told d now page kept s other t = ap (λ (o : Option (List ℕ)). items_of_bytes o kept) (s.same t kept.page other)

pub spared-kept : (c : Pooled) (told : Option Pages) (d : Pooled) (now : Option Pages) (page : ℕ) (kept : Kept) → IsKeptPage c told kept → LeavesOthers c told d now page → kept.page ≢ page → IsKeptPage d now kept
spared-kept c told d now page kept k s other =
    record {
      held = s.held kept.page other ∙ k.held;
      some = k.some;
      ends = k.ends;
      fits = λ bytes e. k.fits bytes (s.known kept.page other bytes e);
      timed = λ t. ap first_time (spared-items c told d now page kept s other t) ∙ k.timed (s.tells t);
    }

pub appended-kept : (c : Pooled) (told : Option Pages) (d : Pooled) (now : Option Pages) (kept after : Kept) (item : Item) → IsKeptPage c told kept → Appended c told d now kept after item → IsKeptPage d now after
appended-kept c told d now kept after item k a =
    record {
      held = ap (λ (p : ℕ). is_held d p) a.page ∙ a.held;
      some = omega (arith, a.count);
      ends = a.ends;
      fits = a.fits;
      timed = λ t. ap first_time (a.items t) ∙ first-behind (items_kept c told kept) (item ∷ []) kept.time (k.timed (a.spares.tells t)) ∙ ap (λ (n : ℕ). Some n) (sym a.time);
    }

pub taken-kept : (c : Pooled) (told : Option Pages) (d : Pooled) (now : Option Pages) (kept after : Kept) (item : Item) → Taken c told d now kept after item → 1 ≤ after.count → IsKeptPage d now after
taken-kept c told d now kept after item a some =
    let held : is_held d after.page ≡ true = ap (λ (p : ℕ). is_held d p) a.page ∙ a.held in
    record {
      held = held;
      some = some;
      ends = a.ends;
      fits = a.fits;
      timed = λ t.
          let b = told-seen d now after.page t a.spares.agree held in
          let f = a.fits b.0 b.1 in
          let h = back-head f.back (omega (arith, f.counts, some)) in
          let items : items_kept d now after ≡ h.0 ∷ h.1 = seen-are b.0 b.1 f h.0 h.1 h.2 in
          first-time-is (items_kept d now after) h.0 h.1 after.time items (a.time t h.0 h.1 items);
    }
  where
    seen-are : (b : List ℕ) → page_seen d now after.page ≡ Some b → (f : FitsKept b after) (first : Item) (rest : List Item) → f.back ≡ first ∷ rest → items_kept d now after ≡ first ∷ rest
    seen-are b is f first rest e = items-seen d now after b is f ∙ e

-- nothing is left of a page whose last item was taken
pub taken-all : (c : Pooled) (told : Option Pages) (d : Pooled) (now : Option Pages) (kept after : Kept) (item : Item) → Taken c told d now kept after item → after.count ≡ 0 → Tells now → items_kept c told kept ≡ item ∷ []
taken-all c told d now kept after item a none t =
    let held : is_held d after.page ≡ true = ap (λ (p : ℕ). is_held d p) a.page ∙ a.held in
    let b = told-seen d now after.page t a.spares.agree held in
    let f = a.fits b.0 b.1 in
    a.items t ∙ ap (λ (xs : List Item). item ∷ xs) (items-seen d now after b.0 b.1 f ∙ empty f.back (sym f.counts ∙ none))
  where
    empty : (xs : List Item) → length xs ≡ 0 → xs ≡ []
    empty [] h = refl
    empty (x ∷ xs) h = absurd (omega (arith, h))

pub started-kept : (c : Pooled) (told : Option Pages) (d : Pooled) (now : Option Pages) (kept : Kept) (item : Item) → Started c told d now kept item → IsKeptPage d now kept
started-kept c told d now kept item s =
    record {
      held = s.held;
      some = omega (arith, s.count);
      ends = s.ends;
      fits = s.fits;
      timed = λ t. ap first_time (s.items t) ∙ ap (λ (n : ℕ). Some n) (sym s.time);
    }
