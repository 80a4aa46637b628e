-- The map that a pool and a disk stand for, after each change.
use Rattle.std.proofs.Common.{◌≡◌, ℕ, zero, suc, ◌<◌, ◌≢◌, Bool, true, false, not, cond, eqb, List, [], ◌∷◌, ◌++◌, Option, Some, None, length, refl, sym, ap, subst, ◌∙◌, inl, inr, arith, get_or-set_other, get_or-set_same}
use Rattle.std.specs.Prelude.{slice_get, IfSome, IsSome, is_some, ◌||◌, ◌&&◌}
use Rattle.std.proofs.Math.ListN.{set, length-set}
use Rattle.std.proofs.lemmas.List.{get_or_past}
use Rattle.std.proofs.lemmas.Bool.{cases_eq, cases_lt}
use Rattle.std.specs.FinMap as finite
use Rattle.std.specs.Ordering.{nat_cmp, is_eq}
use Rattle.std.specs.declared.cmp.Ordering.{Ordering}
use Rattle.std.specs.declared.cmp.Ordering.TheVariants.{Less, Equal, Greater}
use Rattle.std.specs.Cmp.{nat_cmp_total, eq_by_cmp_equiv}
use Rattle.sha2.specs.Sha256.{sha256}
use Rattle.sq_link.proofs.ListLemmas.{eqb-other}
use Rattle.sq_outside.specs.Disks.{Pages, DiskLog, Honest, put_at, after_get}
use Rattle.sq_pool.specs.Trust.{known, Tells, pages_with, HasPage}
use Rattle.sq_pool.specs.Slots.{without_page, digest_at}
use Rattle.sq_pool.specs.Errors.{IsLastPut}
use Rattle.sq_pool.specs.Pools.{Pooled, bytes_in, is_held, page_of, if_none, if_kept, HasDigest, Agree, SameMap, Spills, HasFrameLeft, with_bytes, loaded, Fetches, Keeps, Makes, Drops, zeros, page_added, IsNumbered, LetsGo}
use Rattle.sq_pool.proofs.PoolLemmas.{is-some}
use Rattle.sq_pool.proofs.TrustLemmas.{if-tells, tells-with, tells-without, honest-tells, known-honest, known-pages, known-get, put-came}
use Rattle.sq_pool.proofs.TrustWords.{pages_without}
use Rattle.sq_words.proofs.Numbers.{eqb_itself}

-- ---- lists of pages

bytes-step : (x : ℕ × List ℕ) (q : ℕ) (t : Bool) (xs ys : List (ℕ × List ℕ)) → eqb x.0 q ≡ false → bytes_in q ys ≡ bytes_in q xs → bytes_in q (cond t (x ∷ ys) ys) ≡ bytes_in q xs
bytes-step x q true xs ys other h = rw other h
bytes-step x q false xs ys other h = h

bytes-same : (x : ℕ × List ℕ) (q : ℕ) (ys xs : List (ℕ × List ℕ)) → bytes_in q ys ≡ bytes_in q xs → bytes_in q (x ∷ ys) ≡ bytes_in q (x ∷ xs)
bytes-same x q ys xs h = ap (λ (o : Option (List ℕ)). cond (eqb x.0 q) (Some x.1) o) h

pub bytes-other : (p q : ℕ) (xs : List (ℕ × List ℕ)) → q ≢ p → bytes_in q (without_page p xs) ≡ bytes_in q xs
bytes-other p q [] other = refl
bytes-other p q (x ∷ xs) other =
    elim (cases_eq x.0 p) [
      | inl e ↦
          let gone : eqb x.0 p ≡ true = rw (e) (eqb_itself p) in
          let apart : eqb x.0 q ≡ false = eqb-other x.0 q (λ s. other (sym s ∙ e)) in
          rw (gone, apart) (bytes-other p q xs other)
      | inr differ ↦ rw (eqb-other x.0 p differ) (bytes-same x q (without_page p xs) xs (bytes-other p q xs other))
    ]

pub bytes-gone : (p : ℕ) (xs : List (ℕ × List ℕ)) → bytes_in p (without_page p xs) ≡ None
bytes-gone p [] = refl
bytes-gone p (x ∷ xs) =
    elim (cases_eq x.0 p) [
      | inl e ↦ let gone : eqb x.0 p ≡ true = rw (e) (eqb_itself p) in rw (gone) (bytes-gone p xs)
      | inr differ ↦ let apart = eqb-other x.0 p differ in rw (apart, apart) (bytes-gone p xs)
    ]

last-step : (t : Bool) (v : List ℕ) (o r : Option (List ℕ)) (b : List ℕ) → (o ≡ None → r ≡ Some b) → cond t (Some v) o ≡ None → cond t (Some v) r ≡ Some b
last-step true v o r b rest h = absurd cc
last-step false v o r b rest h = rest h

pub bytes-last : (p : ℕ) (b : List ℕ) (xs : List (ℕ × List ℕ)) → bytes_in p xs ≡ None → bytes_in p (xs ++ (p, b) ∷ []) ≡ Some b
bytes-last p b [] h = rw (eqb_itself p) refl
bytes-last p b (x ∷ xs) h = last-step (eqb x.0 p) x.1 (bytes_in p xs) (bytes_in p (xs ++ (p, b) ∷ [])) b (bytes-last p b xs) h

pub bytes-before : (p q : ℕ) (b : List ℕ) (xs : List (ℕ × List ℕ)) → q ≢ p → bytes_in q (xs ++ (p, b) ∷ []) ≡ bytes_in q xs
bytes-before p q b [] other = rw (eqb-other p q (λ e. other (sym e))) refl
bytes-before p q b (x ∷ xs) other = bytes-same x q (xs ++ (p, b) ∷ []) xs (bytes-before p q b xs other)

with-step : (x : ℕ × List ℕ) (w : List ℕ) (t : Bool) (o : Option (List ℕ)) (ys zs : List (ℕ × List ℕ)) → (o ≡ None → ys ≡ zs) → cond t (Some x.1) o ≡ None
    → ◌≡◌ {A = List (ℕ × List ℕ)} (cond t (x.0, w) x ∷ ys) (x ∷ zs)
with-step x w true o ys zs h e = absurd cc
with-step x w false o ys zs h e = ap (λ rest. x ∷ rest) (h e)

with-last : (p : ℕ) (w b : List ℕ) (xs : List (ℕ × List ℕ)) → bytes_in p xs ≡ None → with_bytes p w (xs ++ (p, b) ∷ []) ≡ xs ++ (p, w) ∷ []
with-last p w b [] h = rw (eqb_itself p) refl
with-last p w b (x ∷ xs) h = with-step x w (eqb x.0 p) (bytes_in p xs) (with_bytes p w (xs ++ (p, b) ∷ [])) (xs ++ (p, w) ∷ []) (with-last p w b xs) h

first-bytes : (xs : List (ℕ × List ℕ)) (p : ℕ) (b : List ℕ) → slice_get xs 0 ≡ Some (p, b) → bytes_in p xs ≡ Some b
first-bytes [] p b e = absurd cc
first-bytes (x ∷ xs) p b e =
    let same : x ≡ (p, b) = cc in
    subst (λ (y : ℕ × List ℕ). bytes_in p (y ∷ xs) ≡ Some b) (sym same) (rw (eqb_itself p) refl)

-- written bytes of a page that was just put into a frame
pub written : (mid : Pooled) (p : ℕ) (b w : List ℕ) → bytes_in p mid.resident ≡ None
    → ◌≡◌ {A = Pooled} (record (loaded mid p b) { resident = with_bytes p w (loaded mid p b).resident }) (loaded mid p w)
written mid p b w none = λ i. record { resident = with-last p w b mid.resident none i; kept = set mid.kept p None; frames = mid.frames }

pub loaded-bytes : (mid : Pooled) (p : ℕ) (b : List ℕ) → bytes_in p mid.resident ≡ None → bytes_in p (loaded mid p b).resident ≡ Some b
loaded-bytes mid p b none = bytes-last p b mid.resident none

-- ---- room

pub room-out : (c : Pooled) (told : Option Pages) (d : Pooled) (now : Option Pages) (p : ℕ) → HasFrameLeft c told d now → bytes_in p c.resident ≡ None → bytes_in p d.resident ≡ None
room-out c told d now p room none =
    elim room.how [
      | inl same ↦ ap (λ (x : Pooled). bytes_in p x.resident) same.0 ∙ none
      | inr s ↦ ap (λ (x : Pooled). bytes_in p x.resident) s.pool ∙
          elim (cases_eq p s.page) [
            | inl e ↦ subst (λ (q : ℕ). bytes_in q (without_page s.page c.resident) ≡ None) (sym e) (bytes-gone s.page c.resident)
            | inr other ↦ bytes-other s.page p c.resident other ∙ none
          ]
    ]

-- a page that isn't resident isn't the one that is spilled
not-spilled : (c : Pooled) (told : Option Pages) (d : Pooled) (now : Option Pages) (p : ℕ) (s : Spills c told d now) → bytes_in p c.resident ≡ None → p ≢ s.page
not-spilled c told d now p s none e =
    let b : Some s.bytes ≡ None = sym (first-bytes c.resident s.page s.bytes s.oldest) ∙ ap (λ (q : ℕ). bytes_in q c.resident) (sym e) ∙ none in cc

pub room-kept : (c : Pooled) (told : Option Pages) (d : Pooled) (now : Option Pages) (p : ℕ) → HasFrameLeft c told d now → bytes_in p c.resident ≡ None → digest_at d.kept p ≡ digest_at c.kept p
room-kept c told d now p room none =
    elim room.how [
      | inl same ↦ ap (λ (x : Pooled). digest_at x.kept p) same.0
      | inr s ↦ ap (λ (x : Pooled). digest_at x.kept p) s.pool ∙ get_or-set_other c.kept s.page p (Some (sha256 s.bytes)) None (not-spilled c told d now p s none)
    ]

unequal : (o : Ordering) → ¬ (o ≡ Equal) → is_eq o ≡ false
unequal Less h = refl
unequal Equal h = absurd (h refl)
unequal Greater h = refl

get-other : (t : Pages) (p q : ℕ) (b : List ℕ) → q ≢ p → finite.get (finite.insert t p b) q ≡ finite.get t q
get-other t p q b other =
    finite.get-insert nat_cmp_total t p b q
    ∙ ap (λ (x : Bool). cond x (Some b) (finite.get t q)) (unequal (nat_cmp q p) (λ e. other (finite.nat_cmp-IsAntisymmetric q p e)))

get-same : (t : Pages) (p : ℕ) (b : List ℕ) → finite.get (finite.insert t p b) p ≡ Some b
get-same t p b = finite.get-insert nat_cmp_total t p b p ∙ ap (λ (x : Bool). cond x (Some b) (finite.get t p)) ((eq_by_cmp_equiv nat_cmp_total).refl p)

-- where the pages are known once there is room, the disk holds the page with bytes of the kept digest
pub room-told : (c : Pooled) (told : Option Pages) (d : Pooled) (now : Option Pages) (p : ℕ) (digest : List ℕ) → HasFrameLeft c told d now → Agree c told → bytes_in p c.resident ≡ None → digest_at c.kept p ≡ Some digest
    → IfSome now (λ n. HasDigest (finite.get n p) digest)
room-told c told d now p digest room agree none kept =
    elim room.how [
      | inl same ↦ subst (λ (o : Option Pages). IfSome o (λ n. HasDigest (finite.get n p) digest)) (sym same.1) (told_at told agree)
      | inr s ↦ subst (λ (o : Option Pages). IfSome o (λ n. HasDigest (finite.get n p) digest)) (sym s.disk) (spilled_at told agree s.page s.bytes (not-spilled c told d now p s none))
    ]
  where
    told_at : (o : Option Pages) → Agree c o → IfSome o (λ n. HasDigest (finite.get n p) digest)
    told_at None a = tt
    told_at (Some t) a = subst (λ (k : Option (List ℕ)). IfSome k (HasDigest (finite.get t p))) kept (a p)

    spilled_at : (o : Option Pages) → Agree c o → (v : ℕ) (b : List ℕ) → p ≢ v → IfSome (pages_with o v b) (λ n. HasDigest (finite.get n p) digest)
    spilled_at None a v b other = tt
    spilled_at (Some t) a v b other = subst (λ (k : Option (List ℕ)). HasDigest k digest) (sym (get-other t v p b other)) (subst (λ (k : Option (List ℕ)). IfSome k (HasDigest (finite.get t p))) kept (a p))

-- the bytes that were put, which have this digest
put_with : (o : Option (List ℕ)) (digest : List ℕ) → HasDigest o digest → (put : List ℕ) × (o ≡ Some put) × (sha256 put ≡ digest)
put_with None digest h = absurd h
put_with (Some b) digest h = (b, refl, h)

known_put : (log : DiskLog) (p : ℕ) (digest : List ℕ) → IfSome (known log) (λ n. HasDigest (finite.get n p) digest) → Tells (known log) → (put : List ℕ) × (put_at log p ≡ Some put) × (sha256 put ≡ digest)
known_put log p digest h t = put_with (put_at log p) digest (subst (λ (o : Option Pages). IfSome o (λ n. HasDigest (finite.get n p) digest)) (known-pages log t) h)

-- an honest disk holds the page
pub holds_page : (log : DiskLog) (p : ℕ) (digest : List ℕ) → IfSome (known log) (λ n. HasDigest (finite.get n p) digest) → Honest log → IsSome (put_at log p)
holds_page log p digest h honest = let put = known_put log p digest h (honest-tells log honest) in is-some (put_at log p) put.0 put.1

-- an honest disk garbles none
pub same_digest : (log : DiskLog) (p : ℕ) (digest bytes : List ℕ) → IfSome (known log) (λ n. HasDigest (finite.get n p) digest) → Honest log → put_at log p ≡ Some bytes → sha256 bytes ≡ digest
same_digest log p digest bytes h honest there =
    subst (λ (o : Option (List ℕ)). HasDigest o digest) there (subst (λ (o : Option Pages). IfSome o (λ n. HasDigest (finite.get n p) digest)) (known-honest log honest) h)

-- where the pages are known behind a get, bytes of the kept digest are those that were put
pub came_back : (log : DiskLog) (p : ℕ) (digest bytes : List ℕ) → IfSome (known log) (λ n. HasDigest (finite.get n p) digest) → (Honest log → put_at log p ≡ Some bytes) → sha256 bytes ≡ digest
    → HasPage (known (after_get log p bytes)) p bytes
came_back log p digest bytes h promised same = if-tells (known (after_get log p bytes)) (λ n. finite.get n p ≡ Some bytes) (λ t.
    let before = known-get log p bytes t in
    let tells : Tells (known log) = subst Tells before t in
    let put = known_put log p digest h tells in
    let is : put.0 ≡ bytes = put-came log p put.0 bytes promised put.1 (same ∙ sym put.2) t in
    subst (λ (o : Option Pages). HasPage o p bytes) (sym (before ∙ known-pages log tells)) (put.1 ∙ ap (λ (b : List ℕ). Some b) is))

-- where the pages are known behind a get, what was put last has the kept digest
pub put_before : (log : DiskLog) (p : ℕ) (digest bytes : List ℕ) → IfSome (known log) (λ n. HasDigest (finite.get n p) digest) → IsLastPut (after_get log p bytes) p digest
put_before log p digest bytes h = λ t.
    subst (λ (o : Option Pages). IfSome o (λ n. HasDigest (finite.get n p) digest)) (known-pages log (subst Tells (known-get log p bytes t) t)) h

pub stays_known : (log : DiskLog) (p : ℕ) (bytes : List ℕ) → IfSome (known (after_get log p bytes)) (λ pages. known log ≡ Some pages)
stays_known log p bytes = if-tells (known (after_get log p bytes)) (λ pages. known log ≡ Some pages) (λ t.
    subst (λ (o : Option Pages). IfSome o (λ pages. known log ≡ Some pages)) (sym (known-get log p bytes t)) (itself (known log)))
  where
    itself : (o : Option Pages) → IfSome o (λ pages. o ≡ Some pages)
    itself None = tt
    itself (Some t) = refl

pub room-tells : (c : Pooled) (told : Option Pages) (d : Pooled) (now : Option Pages) → HasFrameLeft c told d now → Tells now → Tells told
room-tells c told d now room t =
    elim room.how [ inl same ↦ subst Tells same.1 t | inr s ↦ tells-with told s.page s.bytes (subst Tells s.disk t) ]

-- ---- the map stays

at-page : {A : Type 0} (f g : ℕ → A) (p : ℕ) → f p ≡ g p → ((q : ℕ) → q ≢ p → f q ≡ g q) → (q : ℕ) → f q ≡ g q
at-page f g p here other q = elim (cases_eq q p) [ inl e ↦ ap f e ∙ here ∙ ap g (sym e) | inr differ ↦ other q differ ]

kept-cleared : (kept : List (Option (List ℕ))) (p : ℕ) → digest_at (set kept p None) p ≡ None
kept-cleared kept p =
    elim (cases_lt p (length kept)) [
      | inl inside ↦ get_or-set_same kept p None None inside
      | inr past ↦ get_or_past (set kept p None) p None (omega (arith, length-set kept p None))
    ]

page-is : (c d : Pooled) (t n : Pages) (q : ℕ) → bytes_in q d.resident ≡ bytes_in q c.resident → digest_at d.kept q ≡ digest_at c.kept q → finite.get n q ≡ finite.get t q → page_of d n q ≡ page_of c t q
page-is c d t n q a b e = ap (λ (o : Option (List ℕ)). if_none o (if_kept (digest_at d.kept q) (finite.get n q))) a ∙ ap (λ (o : Option (List ℕ)). if_none (bytes_in q c.resident) (if_kept o (finite.get n q))) b
    ∙ ap (λ (o : Option (List ℕ)). if_none (bytes_in q c.resident) (if_kept (digest_at c.kept q) o)) e

held-is : (c d : Pooled) (q : ℕ) → bytes_in q d.resident ≡ bytes_in q c.resident → digest_at d.kept q ≡ digest_at c.kept q → is_held d q ≡ is_held c q
held-is c d q a b = ap (λ (o : Option (List ℕ)). is_some o || is_some (digest_at d.kept q)) a ∙ ap (λ (o : Option (List ℕ)). is_some (bytes_in q c.resident) || is_some o) b

abbrev spilled_of : Pooled → ℕ → List ℕ → Pooled
spilled_of c v b = record c { resident = without_page v c.resident; kept = set c.kept v (Some (sha256 b)) }

spilled-map : (c : Pooled) (t : Pages) (v : ℕ) (b : List ℕ) → bytes_in v c.resident ≡ Some b → v < length c.kept → (q : ℕ) → page_of (spilled_of c v b) (finite.insert t v b) q ≡ page_of c t q
spilled-map c t v b is inside =
    at-page (page_of (spilled_of c v b) (finite.insert t v b)) (page_of c t) v
    (rw (bytes-gone v c.resident, get_or-set_same c.kept v (Some (sha256 b)) None inside, is) (get-same t v b))
    (λ q other. page-is c (spilled_of c v b) t (finite.insert t v b) q (bytes-other v q c.resident other) (get_or-set_other c.kept v q (Some (sha256 b)) None other) (get-other t v q b other))

spilled-held : (c : Pooled) (v : ℕ) (b : List ℕ) → bytes_in v c.resident ≡ Some b → v < length c.kept → (q : ℕ) → is_held (spilled_of c v b) q ≡ is_held c q
spilled-held c v b is inside =
    at-page (is_held (spilled_of c v b)) (is_held c) v
    (rw (bytes-gone v c.resident, get_or-set_same c.kept v (Some (sha256 b)) None inside, is) refl)
    (λ q other. held-is c (spilled_of c v b) q (bytes-other v q c.resident other) (get_or-set_other c.kept v q (Some (sha256 b)) None other))

keeps-spilled : (c : Pooled) (told : Option Pages) (v : ℕ) (b : List ℕ) → bytes_in v c.resident ≡ Some b → v < length c.kept → Keeps c told (spilled_of c v b) (pages_with told v b)
keeps-spilled c None v b is inside = record { pages = tt; numbers = spilled-held c v b is inside; agree = λ a. tt }
keeps-spilled c (Some t) v b is inside = record {
  pages = spilled-map c t v b is inside;
  numbers = spilled-held c v b is inside;
  agree = λ a q.
      elim (cases_eq q v) [
        | inl e ↦ subst (λ (k : ℕ). IfSome (digest_at (spilled_of c v b).kept k) (HasDigest (finite.get (finite.insert t v b) k))) (sym e)
            (subst (λ (o : Option (List ℕ)). IfSome o (HasDigest (finite.get (finite.insert t v b) v))) (sym (get_or-set_same c.kept v (Some (sha256 b)) None inside))
            (subst (λ (o : Option (List ℕ)). HasDigest o (sha256 b)) (sym (get-same t v b)) refl))
        | inr other ↦ subst (λ (o : Option (List ℕ)). IfSome o (HasDigest (finite.get (finite.insert t v b) q))) (sym (get_or-set_other c.kept v q (Some (sha256 b)) None other))
            (subst (λ (o : Option (List ℕ)). IfSome (digest_at c.kept q) (HasDigest o)) (sym (get-other t v q b other)) (a q))
      ];
}

keeps-same : (c : Pooled) (told : Option Pages) → Keeps c told c told
keeps-same c None = record { pages = tt; numbers = λ q. refl; agree = λ a. a }
keeps-same c (Some t) = record { pages = λ q. refl; numbers = λ q. refl; agree = λ a. a }

pub keeps-room : (c : Pooled) (told : Option Pages) (d : Pooled) (now : Option Pages) → HasFrameLeft c told d now → Keeps c told d now
keeps-room c told d now room =
    elim room.how [
      | inl same ↦ subst (λ (x : Pooled). Keeps c told x now) (sym same.0) (subst (λ (o : Option Pages). Keeps c told c o) (sym same.1) (keeps-same c told))
      | inr s ↦ subst (λ (x : Pooled). Keeps c told x now) (sym s.pool) (subst (λ (o : Option Pages). Keeps c told (spilled_of c s.page s.bytes) o) (sym s.disk)
          (keeps-spilled c told s.page s.bytes (first-bytes c.resident s.page s.bytes s.oldest) s.inside))
    ]

loaded-map : (mid : Pooled) (n : Pages) (p : ℕ) (bytes digest : List ℕ) → bytes_in p mid.resident ≡ None → digest_at mid.kept p ≡ Some digest → finite.get n p ≡ Some bytes → (q : ℕ) → page_of (loaded mid p bytes) n q ≡ page_of mid n q
loaded-map mid n p bytes digest none kept there =
    at-page (page_of (loaded mid p bytes) n) (page_of mid n) p
    (rw (bytes-last p bytes mid.resident none, none, kept) (sym there))
    (λ q other. page-is mid (loaded mid p bytes) n n q (bytes-before p q bytes mid.resident other) (get_or-set_other mid.kept p q None None other) refl)

loaded-held : (mid : Pooled) (p : ℕ) (bytes digest : List ℕ) → bytes_in p mid.resident ≡ None → digest_at mid.kept p ≡ Some digest → (q : ℕ) → is_held (loaded mid p bytes) q ≡ is_held mid q
loaded-held mid p bytes digest none kept =
    at-page (is_held (loaded mid p bytes)) (is_held mid) p
    (rw (bytes-last p bytes mid.resident none, none, kept) refl)
    (λ q other. held-is mid (loaded mid p bytes) q (bytes-before p q bytes mid.resident other) (get_or-set_other mid.kept p q None None other))

pub agree-loaded : (mid : Pooled) (now : Option Pages) (p : ℕ) (bytes : List ℕ) → Agree mid now → Agree (loaded mid p bytes) now
agree-loaded mid None p bytes a = tt
agree-loaded mid (Some n) p bytes a = λ q.
    elim (cases_eq q p) [
      | inl e ↦ subst (λ (o : Option (List ℕ)). IfSome o (HasDigest (finite.get n q))) (sym (ap (λ (k : ℕ). digest_at (set mid.kept p None) k) e ∙ kept-cleared mid.kept p)) tt
      | inr other ↦ subst (λ (o : Option (List ℕ)). IfSome o (HasDigest (finite.get n q))) (sym (get_or-set_other mid.kept p q None None other)) (a q)
    ]

keeps-loaded : (mid : Pooled) (now : Option Pages) (p : ℕ) (bytes digest : List ℕ) → bytes_in p mid.resident ≡ None → digest_at mid.kept p ≡ Some digest → HasPage now p bytes → Keeps mid now (loaded mid p bytes) now
keeps-loaded mid None p bytes digest none kept there = record { pages = tt; numbers = loaded-held mid p bytes digest none kept; agree = λ a. a }
keeps-loaded mid (Some n) p bytes digest none kept there = record {
  pages = loaded-map mid n p bytes digest none kept there;
  numbers = loaded-held mid p bytes digest none kept;
  agree = agree-loaded mid (Some n) p bytes;
}

pub keeps-then : (c : Pooled) (told : Option Pages) (d : Pooled) (now : Option Pages) (e : Pooled) (end : Option Pages) → (Tells end → Tells now) → Keeps c told d now → Keeps d now e end → Keeps c told e end
keeps-then c told d now e end tells k l = record {
  pages = joined told now end tells k.pages l.pages;
  numbers = λ q. l.numbers q ∙ k.numbers q;
  agree = λ a. l.agree (k.agree a);
}
  where
    joined : (a b x : Option Pages) → (Tells x → Tells b) → SameMap c a d b → SameMap d b e x → SameMap c a e x
    joined None b x s h m = tt
    joined (Some t) b None s h m = tt
    joined (Some t) None (Some z) s h m = absurd (let no : false ≡ true = s refl in cc)
    joined (Some t) (Some n) (Some z) s h m = λ q. m q ∙ h q

-- nothing was done but that pages are unknown, or are those that were known
keeps-known : (c : Pooled) (told now : Option Pages) → IfSome now (λ pages. told ≡ Some pages) → Keeps c told c now
keeps-known c told None stays = record { pages = none told; numbers = λ q. refl; agree = λ a. tt }
  where
    none : (o : Option Pages) → SameMap c o c None
    none None = tt
    none (Some t) = tt
keeps-known c told (Some n) stays = subst (λ (o : Option Pages). Keeps c o c (Some n)) (sym stays) (keeps-same c (Some n))

known-stays : (told now : Option Pages) → IfSome now (λ pages. told ≡ Some pages) → Tells now → Tells told
known-stays told None stays t = absurd cc
known-stays told (Some n) stays t = subst Tells (sym stays) refl

pub keeps-fetched : (c : Pooled) (told : Option Pages) (d : Pooled) (now : Option Pages) (p : ℕ) (digest : List ℕ) → Fetches c told d now p digest → bytes_in p c.resident ≡ None → digest_at c.kept p ≡ Some digest → Keeps c told d now
keeps-fetched c told d now p digest f none kept =
    let out = room-out c told f.mid f.between p f.room none in
    let mid-kept = room-kept c told f.mid f.between p f.room none ∙ kept in
    let between = keeps-then c told f.mid f.between f.mid now (known-stays f.between now f.stays) (keeps-room c told f.mid f.between f.room) (keeps-known f.mid f.between now f.stays) in
    subst (λ (x : Pooled). Keeps c told x now) (sym f.pool)
    (keeps-then c told f.mid now (loaded f.mid p f.bytes) now (λ t. t) between (keeps-loaded f.mid now p f.bytes digest out mid-kept f.disk))

pub keeps-touched : (c : Pooled) (told : Option Pages) (p : ℕ) (b : List ℕ) → bytes_in p c.resident ≡ Some b → Keeps c told (record c { resident = without_page p c.resident ++ (p, b) ∷ [] }) told
keeps-touched c told p b is =
    let d : Pooled = record c { resident = without_page p c.resident ++ (p, b) ∷ [] } in
    let bytes : (q : ℕ) → bytes_in q d.resident ≡ bytes_in q c.resident = at-page (λ q. bytes_in q d.resident) (λ q. bytes_in q c.resident) p (bytes-last p b (without_page p c.resident) (bytes-gone p c.resident) ∙ sym is)
    (λ q other. bytes-before p q b (without_page p c.resident) other ∙ bytes-other p q c.resident other) in
    record { pages = mapped told bytes; numbers = λ q. held-is c d q (bytes q) refl; agree = λ a. a }
  where
    mapped : (o : Option Pages) → ((q : ℕ) → bytes_in q (without_page p c.resident ++ (p, b) ∷ []) ≡ bytes_in q c.resident) → SameMap c o (record c { resident = without_page p c.resident ++ (p, b) ∷ [] }) o
    mapped None h = tt
    mapped (Some t) h = λ q. page-is c (record c { resident = without_page p c.resident ++ (p, b) ∷ [] }) t t q (h q) refl refl

kept-more : (kept : List (Option (List ℕ))) (q : ℕ) → digest_at (kept ++ None ∷ []) q ≡ digest_at kept q
kept-more [] zero = refl
kept-more [] (suc q) = refl
kept-more (k ∷ kept) zero = refl
kept-more (k ∷ kept) (suc q) = kept-more kept q

keeps-numbered : (c : Pooled) (told : Option Pages) → Keeps c told (page_added c) told
keeps-numbered c None = record { pages = tt; numbers = λ q. held-is c (page_added c) q refl (kept-more c.kept q); agree = λ a. a }
keeps-numbered c (Some t) = record {
  pages = λ q. page-is c (page_added c) t t q refl (kept-more c.kept q) refl;
  numbers = λ q. held-is c (page_added c) q refl (kept-more c.kept q);
  agree = λ a q. subst (λ (o : Option (List ℕ)). IfSome o (HasDigest (finite.get t q))) (sym (kept-more c.kept q)) (a q);
}

-- a page that was in no place is in a frame
makes-loaded : (mid : Pooled) (now : Option Pages) (p : ℕ) → bytes_in p mid.resident ≡ None → digest_at mid.kept p ≡ None → Makes mid now (loaded mid p zeros) now p
makes-loaded mid now p none gone = record {
  fresh = rw (none, gone) refl;
  pages = mapped now;
  numbers = at-page (is_held (loaded mid p zeros)) (λ q. eqb q p || is_held mid q) p
      (rw (bytes-last p zeros mid.resident none, eqb_itself p) refl)
      (λ q other. held-is mid (loaded mid p zeros) q (bytes-before p q zeros mid.resident other) (get_or-set_other mid.kept p q None None other) ∙ sym (rw (eqb-other q p other) refl));
  agree = agree-loaded mid now p zeros;
}
  where
    mapped : (o : Option Pages) → IfSome o (λ t. IfSome o (λ n. (q : ℕ) → page_of (loaded mid p zeros) n q ≡ cond (eqb q p) (Some zeros) (page_of mid t q)))
    mapped None = tt
    mapped (Some t) =
        at-page (page_of (loaded mid p zeros) t) (λ q. cond (eqb q p) (Some zeros) (page_of mid t q)) p
        (rw (bytes-last p zeros mid.resident none, eqb_itself p) refl)
        (λ q other. page-is mid (loaded mid p zeros) t t q (bytes-before p q zeros mid.resident other) (get_or-set_other mid.kept p q None None other) refl ∙ sym (rw (eqb-other q p other) refl))

makes-after : (c : Pooled) (told : Option Pages) (d : Pooled) (now : Option Pages) (e : Pooled) (p : ℕ) → Keeps c told d now → Makes d now e now p → Makes c told e now p
makes-after c told d now e p k m = record {
  fresh = sym (k.numbers p) ∙ m.fresh;
  pages = joined told now k.pages m.pages;
  numbers = λ q. m.numbers q ∙ ap (λ (b : Bool). eqb q p || b) (k.numbers q);
  agree = λ a. m.agree (k.agree a);
}
  where
    joined : (a b : Option Pages) → SameMap c a d b → IfSome b (λ t. IfSome b (λ n. (q : ℕ) → page_of e n q ≡ cond (eqb q p) (Some zeros) (page_of d t q)))
        → IfSome a (λ t. IfSome b (λ n. (q : ℕ) → page_of e n q ≡ cond (eqb q p) (Some zeros) (page_of c t q)))
    joined None b h x = tt
    joined (Some t) None h x = tt
    joined (Some t) (Some n) h x = λ q. x q ∙ ap (λ (o : Option (List ℕ)). cond (eqb q p) (Some zeros) o) (h q)

-- what one more number leaves
pub record IsStart (c : Pooled) (told : Option Pages) (start : Pooled) (p : ℕ) : Type 0 where
  pub keeps : Keeps c told start told
  pub out : bytes_in p start.resident ≡ None
  pub gone : digest_at start.kept p ≡ None

pub started : (c : Pooled) (told : Option Pages) (start : Pooled) (p : ℕ) → IsNumbered c start → bytes_in p c.resident ≡ None → digest_at c.kept p ≡ None → IsStart c told start p
started c told start p numbers none gone =
    elim numbers [
      | inl same ↦ subst (λ (x : Pooled). IsStart c told x p) (sym same) (record { keeps = keeps-same c told; out = none; gone = gone })
      | inr more ↦ subst (λ (x : Pooled). IsStart c told x p) (sym more) (record { keeps = keeps-numbered c told; out = none; gone = kept-more c.kept p ∙ gone })
    ]

pub numbered-frames : (c start : Pooled) → IsNumbered c start → 0 < c.frames → 0 < start.frames
numbered-frames c start numbers some =
    elim numbers [
      | inl same ↦ subst (λ (x : Pooled). 0 < x.frames) (sym same) some
      | inr more ↦ subst (λ (x : Pooled). 0 < x.frames) (sym more) some
    ]

pub makes : (c : Pooled) (told : Option Pages) (start mid : Pooled) (now : Option Pages) (p : ℕ) → IsStart c told start p → HasFrameLeft start told mid now → Makes c told (loaded mid p zeros) now p
makes c told start mid now p s room =
    let out = room-out start told mid now p room s.out in
    let gone : digest_at mid.kept p ≡ None = room-kept start told mid now p room s.out ∙ s.gone in
    makes-after c told mid now (loaded mid p zeros) p
    (keeps-then c told start told mid now (room-tells start told mid now room) s.keeps (keeps-room start told mid now room)) (makes-loaded mid now p out gone)

pub room-length : (c : Pooled) (told : Option Pages) (d : Pooled) (now : Option Pages) → HasFrameLeft c told d now → length d.kept ≡ length c.kept
room-length c told d now room =
    elim room.how [
      | inl same ↦ ap (λ (x : Pooled). length x.kept) same.0
      | inr s ↦ ap (λ (x : Pooled). length x.kept) s.pool ∙ length-set c.kept s.page (Some (sha256 s.bytes))
    ]

-- a page is let go

drops-at : (c d : Pooled) (told now : Option Pages) (p : ℕ) → bytes_in p d.resident ≡ None → digest_at d.kept p ≡ None → ((q : ℕ) → q ≢ p → (bytes_in q d.resident ≡ bytes_in q c.resident) × (digest_at d.kept q ≡ digest_at c.kept q))
    → IfSome told (λ t. IfSome now (λ n. (q : ℕ) → q ≢ p → finite.get n q ≡ finite.get t q)) → (Tells now → Tells told) → Drops c told d now p
drops-at c d told now p none gone rest got tells = record {
  pages = mapped told now got;
  numbers = at-page (is_held d) (λ q. not (eqb q p) && is_held c q) p
      (rw (none, gone, eqb_itself p) refl)
      (λ q other. held-is c d q (rest q other).0 (rest q other).1 ∙ sym (rw (eqb-other q p other) refl));
  agree = λ a. agrees told now got tells a;
}
  where
    mapped : (a b : Option Pages) → IfSome a (λ t. IfSome b (λ n. (q : ℕ) → q ≢ p → finite.get n q ≡ finite.get t q)) → IfSome a (λ t. IfSome b (λ n. (q : ℕ) → page_of d n q ≡ cond (eqb q p) None (page_of c t q)))
    mapped None b h = tt
    mapped (Some t) None h = tt
    mapped (Some t) (Some n) h =
        at-page (page_of d n) (λ q. cond (eqb q p) None (page_of c t q)) p
        (rw (none, gone, eqb_itself p) refl)
        (λ q other. page-is c d t n q (rest q other).0 (rest q other).1 (h q other) ∙ sym (rw (eqb-other q p other) refl))

    agrees : (a b : Option Pages) → IfSome a (λ t. IfSome b (λ n. (q : ℕ) → q ≢ p → finite.get n q ≡ finite.get t q)) → (Tells b → Tells a) → Agree c a → Agree d b
    agrees a None h s g = tt
    agrees None (Some n) h s g = absurd (let no : false ≡ true = s refl in cc)
    agrees (Some t) (Some n) h s g = λ q.
        elim (cases_eq q p) [
          | inl e ↦ subst (λ (o : Option (List ℕ)). IfSome o (HasDigest (finite.get n q))) (sym (ap (digest_at d.kept) e ∙ gone)) tt
          | inr other ↦ subst (λ (o : Option (List ℕ)). IfSome o (HasDigest (finite.get n q))) (sym (rest q other).1)
              (subst (λ (o : Option (List ℕ)). IfSome (digest_at c.kept q) (HasDigest o)) (sym (h q other)) (g q))
        ]

same-gets : (told : Option Pages) (p : ℕ) → IfSome told (λ t. IfSome told (λ n. (q : ℕ) → q ≢ p → finite.get n q ≡ finite.get t q))
same-gets None p = tt
same-gets (Some t) p = λ q other. refl

less-gets : (told : Option Pages) (p : ℕ) → IfSome told (λ t. IfSome (pages_without told p) (λ n. (q : ℕ) → q ≢ p → finite.get n q ≡ finite.get t q))
less-gets None p = tt
less-gets (Some t) p = λ q other. finite.get-remove nat_cmp_total t p q ∙ ap (λ (x : Bool). cond x None (finite.get t q)) (unequal (nat_cmp q p) (λ e. other (finite.nat_cmp-IsAntisymmetric q p e)))

pub drops-resident : (c : Pooled) (told : Option Pages) (p : ℕ) → Drops c told (record c { resident = without_page p c.resident; kept = set c.kept p None }) told p
drops-resident c told p =
    drops-at c (record c { resident = without_page p c.resident; kept = set c.kept p None }) told told p (bytes-gone p c.resident) (kept-cleared c.kept p)
    (λ q other. (bytes-other p q c.resident other, get_or-set_other c.kept p q None None other)) (same-gets told p) (λ t. t)

pub drops-spilled : (c : Pooled) (told now : Option Pages) (p : ℕ) → bytes_in p c.resident ≡ None → now ≡ pages_without told p → Drops c told (record c { kept = set c.kept p None }) now p
drops-spilled c told now p none is =
    subst (λ (o : Option Pages). Drops c told (record c { kept = set c.kept p None }) o p) (sym is)
    (drops-at c (record c { kept = set c.kept p None }) told (pages_without told p) p none (kept-cleared c.kept p) (λ q other. (refl, get_or-set_other c.kept p q None None other)) (less-gets told p) (tells-without told p))

lets-go : (c d : Pooled) (p : ℕ) → bytes_in p d.resident ≡ None → digest_at d.kept p ≡ None → ((q : ℕ) → q ≢ p → (bytes_in q d.resident ≡ bytes_in q c.resident) × (digest_at d.kept q ≡ digest_at c.kept q)) → LetsGo c d p
lets-go c d p none gone rest = record {
  bytes = at-page (λ q. bytes_in q d.resident) (λ q. cond (eqb q p) None (bytes_in q c.resident)) p (rw (none, eqb_itself p) refl) (λ q other. (rest q other).0 ∙ sym (rw (eqb-other q p other) refl));
  kept = at-page (λ q. digest_at d.kept q) (λ q. cond (eqb q p) None (digest_at c.kept q)) p (rw (gone, eqb_itself p) refl) (λ q other. (rest q other).1 ∙ sym (rw (eqb-other q p other) refl));
}

pub lets-resident-go : (c : Pooled) (p : ℕ) → LetsGo c (record c { resident = without_page p c.resident; kept = set c.kept p None }) p
lets-resident-go c p =
    lets-go c (record c { resident = without_page p c.resident; kept = set c.kept p None }) p (bytes-gone p c.resident) (kept-cleared c.kept p)
    (λ q other. (bytes-other p q c.resident other, get_or-set_other c.kept p q None None other))

pub lets-spilled-go : (c : Pooled) (p : ℕ) → bytes_in p c.resident ≡ None → LetsGo c (record c { kept = set c.kept p None }) p
lets-spilled-go c p none = lets-go c (record c { kept = set c.kept p None }) p none (kept-cleared c.kept p) (λ q other. (refl, get_or-set_other c.kept p q None None other))
