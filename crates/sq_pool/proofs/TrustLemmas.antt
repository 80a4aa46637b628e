-- What is known of a disk after each call, and what makes it known.
use Rattle.std.proofs.Common.{◌≡◌, ℕ, Bool, true, false, not, cond, List, [], ◌∷◌, ◌++◌, Option, Some, None, ◌⊎◌, inl, inr, refl, sym, ap, subst, ◌∙◌, append_assoc, append-nil}
use Rattle.std.specs.Prelude.{IfSome, option_map, ◌||◌, ◌&&◌}
use Rattle.std.specs.List.{list_all}
use Rattle.std.specs.Str.{bytes_eq}
use Rattle.std.specs.FinMap as finite
use Rattle.std.proofs.lemmas.List.Folds.{list_all-append}
use Rattle.std.proofs.lemmas.Slice.Eq.{bytes_eq-Decides}
use Rattle.sha2.specs.Sha256.{sha256}
use Rattle.sq_outside.specs.Disks.{DiskLog, Pages, Honest, MayLose, put_at, beside, after_put, after_give_up, after_get}
use Rattle.sq_pool.specs.Trust.{AllAmong, DigestsApart, is_faithful, known, Tells, IsLater, CameLast, pages_with}
use Rattle.sq_pool.proofs.TrustWords.{pages_without}

-- known from what the disk promises and what came back
abbrev known_by : Bool → Bool → Pages → Option Pages
known_by honest faithful pages = cond (honest || faithful) (Some pages) None

changed : (t : Bool) (pages : Pages) (f : Pages → Pages) → cond t (Some (f pages)) None ≡ option_map f (cond t (Some pages) None)
changed true pages f = refl
changed false pages f = refl

pub tells-with : (o : Option Pages) (page : ℕ) (bytes : List ℕ) → Tells (pages_with o page bytes) → Tells o
tells-with None page bytes h = absurd cc
tells-with (Some t) page bytes h = refl

pub tells-without : (o : Option Pages) (page : ℕ) → Tells (pages_without o page) → Tells o
tells-without None page h = absurd cc
tells-without (Some t) page h = refl

pub if-tells : (o : Option Pages) (P : Pages → Type 0) → (Tells o → IfSome o P) → IfSome o P
if-tells None P h = tt
if-tells (Some t) P h = h refl

pub honest-tells : (log : DiskLog) → Honest log → Tells (known log)
honest-tells log h = subst (λ (b : Bool). Tells (known_by b (list_all is_faithful log.came) log.pages)) (sym h) refl

pub known-honest : (log : DiskLog) → Honest log → known log ≡ Some log.pages
known-honest log h = ap (λ (b : Bool). known_by b (list_all is_faithful log.came) log.pages) h

-- what is known is what was put
pub known-pages : (log : DiskLog) → Tells (known log) → known log ≡ Some log.pages
known-pages log h = go (log.honest || list_all is_faithful log.came) h
  where
    go : (t : Bool) → Tells (cond t (Some log.pages) None) → cond t (Some log.pages) None ≡ Some log.pages
    go true h = refl
    go false h = absurd cc

-- ---- each call

pub known-put : (log : DiskLog) (page : ℕ) (bytes : List ℕ) → known (after_put log page bytes) ≡ pages_with (known log) page bytes
known-put log page bytes = changed (log.honest || list_all is_faithful log.came) log.pages (λ (t : Pages). finite.insert t page bytes)

pub known-give_up : (log : DiskLog) (page : ℕ) → known (after_give_up log page) ≡ pages_without (known log) page
known-give_up log page = changed (log.honest || list_all is_faithful log.came) log.pages (λ (t : Pages). finite.remove t page)

pub known-lost : (before now : DiskLog) (page : ℕ) → MayLose before now page → (known now ≡ known before) ⊎ (known now ≡ pages_without (known before) page)
known-lost before now page lost = elim lost [ inl same ↦ inl (ap known same) | inr gone ↦ inr (ap known gone ∙ known-give_up before page) ]

-- more came back
came-more : (honest faithful more : Bool) (pages : Pages) → Tells (known_by honest (faithful && more) pages) → known_by honest (faithful && more) pages ≡ known_by honest faithful pages
came-more true faithful more pages h = refl
came-more false true true pages h = refl
came-more false true false pages h = absurd cc
came-more false false more pages h = absurd cc

got : (log : DiskLog) (page : ℕ) (bytes : List ℕ) → known (after_get log page bytes) ≡ known_by log.honest (list_all is_faithful log.came && list_all is_faithful (beside (put_at log page) bytes)) log.pages
got log page bytes = ap (λ (b : Bool). known_by log.honest b log.pages) (list_all-append is_faithful log.came (beside (put_at log page) bytes))

pub known-get : (log : DiskLog) (page : ℕ) (bytes : List ℕ) → Tells (known (after_get log page bytes)) → known (after_get log page bytes) ≡ known log
known-get log page bytes h =
    got log page bytes ∙ came-more log.honest (list_all is_faithful log.came) (list_all is_faithful (beside (put_at log page) bytes)) log.pages (subst Tells (got log page bytes) h)

-- ---- later

pub IsLater-refl : (log : DiskLog) → IsLater log log
IsLater-refl log = record { known = λ h. h; honest = refl; came = ([], sym (append-nil log.came)) }

pub IsLater-trans : (before mid now : DiskLog) → IsLater before mid → IsLater mid now → IsLater before now
IsLater-trans before mid now first then = record {
  known = λ h. first.known (then.known h);
  honest = then.honest ∙ first.honest;
  came = (first.came.0 ++ then.came.0, then.came.1 ∙ ap (λ (xs : List (List ℕ × List ℕ)). xs ++ then.came.0) first.came.1 ∙ append_assoc before.came first.came.0 then.came.0);
}

pub IsLater-same : (before now : DiskLog) → now ≡ before → IsLater before now
IsLater-same before now same = subst (IsLater before) (sym same) (IsLater-refl before)

pub IsLater-put : (log : DiskLog) (page : ℕ) (bytes : List ℕ) → IsLater log (after_put log page bytes)
IsLater-put log page bytes = record {
  known = λ h. tells-with (known log) page bytes (subst Tells (known-put log page bytes) h);
  honest = refl;
  came = ([], sym (append-nil log.came));
}

pub IsLater-give_up : (log : DiskLog) (page : ℕ) → IsLater log (after_give_up log page)
IsLater-give_up log page = record {
  known = λ h. tells-without (known log) page (subst Tells (known-give_up log page) h);
  honest = refl;
  came = ([], sym (append-nil log.came));
}

pub IsLater-lost : (before now : DiskLog) (page : ℕ) → MayLose before now page → IsLater before now
IsLater-lost before now page lost =
    elim lost [ inl same ↦ IsLater-same before now same | inr gone ↦ subst (IsLater before) (sym gone) (IsLater-give_up before page) ]

pub IsLater-get : (log : DiskLog) (page : ℕ) (bytes : List ℕ) → IsLater log (after_get log page bytes)
IsLater-get log page bytes = record { known = λ h. subst Tells (known-get log page bytes h) h; honest = refl; came = (beside (put_at log page) bytes, refl) }

-- what came back last of a call came back last of a longer one
pub came-since : (before mid now : DiskLog) (page : ℕ) (bytes : List ℕ) → IsLater before mid → CameLast mid now page bytes → CameLast before now page bytes
came-since before mid now page bytes later came = go (put_at now page) came
  where
    go : (o : Option (List ℕ)) → IfSome o (λ put. (others : List (List ℕ × List ℕ)) × (now.came ≡ (mid.came ++ others) ++ (put, bytes) ∷ []))
        → IfSome o (λ put. (others : List (List ℕ × List ℕ)) × (now.came ≡ (before.came ++ others) ++ (put, bytes) ∷ []))
    go None h = tt
    go (Some put) (others, is) = (
      later.came.0 ++ others,
      is ∙ ap (λ (xs : List (List ℕ × List ℕ)). (xs ++ others) ++ (put, bytes) ∷ []) later.came.1
          ∙ ap (λ (xs : List (List ℕ × List ℕ)). xs ++ (put, bytes) ∷ []) (append_assoc before.came later.came.0 others),
    )

-- what a page's get gave came back last
pub came-got : (before mid now : DiskLog) (page : ℕ) (bytes : List ℕ) → IsLater before mid → now ≡ after_get mid page bytes → CameLast before now page bytes
came-got before mid now page bytes later got = came-since before mid now page bytes later (subst (λ (log : DiskLog). CameLast mid log page bytes) (sym got) (go (put_at mid page)))
  where
    go : (o : Option (List ℕ)) → IfSome o (λ put. (others : List (List ℕ × List ℕ)) × (mid.came ++ beside o bytes ≡ (mid.came ++ others) ++ (put, bytes) ∷ []))
    go None = tt
    go (Some put) = ([], ap (λ (xs : List (List ℕ × List ℕ)). xs ++ (put, bytes) ∷ []) (sym (append-nil mid.came)))

-- ---- what came back

-- bytes that are known to have come back with the digest of what was put are what was put
same-came : (honest faithful same digests : Bool) (pages : Pages) (P : Type 0) → (honest ≡ true → P) → (same ≡ true → P) → digests ≡ true → Tells (known_by honest (faithful && ((same || not digests) && true)) pages) → P
same-came true faithful same digests pages P promised equal d h = promised refl
same-came false true true digests pages P promised equal d h = equal refl
same-came false true false true pages P promised equal d h = absurd cc
same-came false true false false pages P promised equal d h = absurd cc
same-came false false same digests pages P promised equal d h = absurd cc

got-some : (log : DiskLog) (page : ℕ) (put bytes : List ℕ) → put_at log page ≡ Some put → Tells (known (after_get log page bytes))
    → Tells (known_by log.honest (list_all is_faithful log.came && (is_faithful (put, bytes) && true)) log.pages)
got-some log page put bytes there h =
    subst (λ (o : Option (List ℕ)). Tells (known_by log.honest (list_all is_faithful log.came && list_all is_faithful (beside o bytes)) log.pages)) there (subst Tells (got log page bytes) h)

one_of : (put bytes : List ℕ) → Some put ≡ Some bytes → put ≡ bytes
one_of put bytes e = cc

pub put-came : (log : DiskLog) (page : ℕ) (put bytes : List ℕ) → (Honest log → put_at log page ≡ Some bytes) → put_at log page ≡ Some put → sha256 bytes ≡ sha256 put → Tells (known (after_get log page bytes)) → put ≡ bytes
put-came log page put bytes promised there digest h =
    same-came log.honest (list_all is_faithful log.came) (bytes_eq put bytes) (bytes_eq (sha256 put) (sha256 bytes)) log.pages (put ≡ bytes)
    (λ honest. one_of put bytes (sym there ∙ promised honest))
    (bytes_eq-Decides put bytes).0
    ((bytes_eq-Decides (sha256 put) (sha256 bytes)).1 (sym digest))
    (got-some log page put bytes there h)

-- ---- where no two pages have one digest

either : (same digests : Bool) → (digests ≡ true → same ≡ true) → (same || not digests) ≡ true
either true digests h = refl
either false true h = absurd (let e : false ≡ true = h refl in cc)
either false false h = refl

pub apart-faithful : (all : List (List ℕ)) (came : List (List ℕ × List ℕ)) → DigestsApart all → AllAmong all came → list_all is_faithful came ≡ true
apart-faithful all [] apart among = refl
apart-faithful all (pair ∷ came) apart among =
    rw (either (bytes_eq pair.0 pair.1) (bytes_eq (sha256 pair.0) (sha256 pair.1))
    (λ d. (bytes_eq-Decides pair.0 pair.1).1 (apart pair.0 pair.1 among.0 among.1 ((bytes_eq-Decides (sha256 pair.0) (sha256 pair.1)).0 d))))
    (apart-faithful all came apart among.2)

-- a disk is known where no two of these pages have one digest
pub apart-tells : (log : DiskLog) (all : List (List ℕ)) → DigestsApart all → AllAmong all log.came → known log ≡ Some log.pages
apart-tells log all apart among = go log.honest (apart-faithful all log.came apart among)
  where
    go : (b : Bool) → list_all is_faithful log.came ≡ true → known_by b (list_all is_faithful log.came) log.pages ≡ Some log.pages
    go true h = refl
    go false h = ap (λ (f : Bool). known_by false f log.pages) h
