-- What bringing a page leaves of the other pages.
use Rattle.std.proofs.Common.{◌≡◌, ◌≢◌, ℕ, ◌-◌, true, false, List, Option, Some, None, refl, sym, ap, ◌∙◌, inl, inr}
use Rattle.std.specs.Prelude.{is_some}
use Rattle.std.proofs.lemmas.Bool.{cases_eq}
use Rattle.std.specs.FinMap as finite
use Rattle.sq_outside.specs.Disks.{DiskLog, Pages}
use Rattle.sq_pool.specs.Slots.{without_page, digest_at}
use Rattle.sq_pool.specs.Pools.{Pooled, bytes_in, is_held, if_none, if_kept, Agree, HasFrameLeft, loaded, Keeps, Brings, Touched, CameBack}
use Rattle.sq_pool.specs.Trust.{Tells}
use Rattle.sq_pool.proofs.MapLemmas.{bytes-other, bytes-gone, bytes-last, bytes-before}
use Rattle.sq_page.proofs.Takes.{some_is}
use Rattle.sq_bring.specs.Bringing.{page_seen, FitsKept, IsFit, Brought, LeavesOthers, WereIn}
use Rattle.sq_bring.specs.declared.bring.Kept.{Kept}

-- a page that is in a frame after one was spilled was there before
pub room-known : (c : Pooled) (told : Option Pages) (d : Pooled) (now : Option Pages) → HasFrameLeft c told d now → (q : ℕ) (b : List ℕ) → bytes_in q d.resident ≡ Some b → bytes_in q c.resident ≡ Some b
room-known c told d now room q b e =
    elim room.how [
      | inl same ↦ sym (ap (λ (x : Pooled). bytes_in q x.resident) same.0) ∙ e
      | inr s ↦
          let spilled : bytes_in q (without_page s.page c.resident) ≡ Some b = sym (ap (λ (x : Pooled). bytes_in q x.resident) s.pool) ∙ e in
          elim (cases_eq q s.page) [
            | inl at ↦ let gone : bytes_in q (without_page s.page c.resident) ≡ None = rw (at) (bytes-gone s.page c.resident) in let no : None ≡ Some b = sym gone ∙ spilled in absurd cc
            | inr other ↦ sym (bytes-other s.page q c.resident other) ∙ spilled
          ]
    ]

pub loaded-known : (mid d : Pooled) (p : ℕ) (bytes : List ℕ) → d ≡ loaded mid p bytes → (q : ℕ) → q ≢ p → (b : List ℕ) → bytes_in q d.resident ≡ Some b → bytes_in q mid.resident ≡ Some b
loaded-known mid d p bytes is q other b e = sym (bytes-before p q bytes mid.resident other) ∙ sym (ap (λ (x : Pooled). bytes_in q x.resident) is) ∙ e

pub brings-known : (c : Pooled) (told : Option Pages) (d : Pooled) (now : Option Pages) (p : ℕ) → Brings c told d now p → (q : ℕ) → q ≢ p → (b : List ℕ) → bytes_in q d.resident ≡ Some b → bytes_in q c.resident ≡ Some b
brings-known c told d now p (Touched bytes had is same) q other b e =
    sym (bytes-other p q c.resident other) ∙ sym (bytes-before p q bytes (without_page p c.resident) other) ∙ sym (ap (λ (x : Pooled). bytes_in q x.resident) is) ∙ e
brings-known c told d now p (CameBack digest out kept f) q other b e =
    room-known c told f.mid f.between f.room q b (loaded-known f.mid d p f.bytes f.pool q other b e)

-- the bytes of a page in a frame are those that are seen
pub in-frame : (c : Pooled) (told : Option Pages) (p : ℕ) (b : List ℕ) → bytes_in p c.resident ≡ Some b → page_seen c told p ≡ Some b
in-frame c None p b e = e
in-frame c (Some t) p b e = ap (λ (o : Option (List ℕ)). if_none o (if_kept (digest_at c.kept p) (finite.get t p))) e

known-by : (c : Pooled) (told : Option Pages) (d : Pooled) (now : Option Pages) → (Tells now → Tells told) → Keeps c told d now → (q : ℕ) (b : List ℕ)
    → (bytes_in q d.resident ≡ Some b → bytes_in q c.resident ≡ Some b) → page_seen d now q ≡ Some b → page_seen c told q ≡ Some b
known-by c told d None tells k q b stays e = in-frame c told q b (stays e)
known-by c None d (Some n) tells k q b stays e = let no : false ≡ true = tells refl in absurd cc
known-by c (Some t) d (Some n) tells k q b stays e = sym (k.pages q) ∙ e

pub same-by : (c : Pooled) (told : Option Pages) (d : Pooled) (now : Option Pages) → (Tells now → Tells told) → Keeps c told d now → Tells now → (q : ℕ) → page_seen d now q ≡ page_seen c told q
same-by c told d None tells k t q = absurd cc
same-by c None d (Some n) tells k t q = let no : false ≡ true = tells t in absurd cc
same-by c (Some t) d (Some n) tells k s q = k.pages q

pub brings-spares : (c : Pooled) (told : Option Pages) (d : Pooled) (now : Option Pages) (p : ℕ) → Brings c told d now p → Keeps c told d now → (Tells now → Tells told) → Agree d now → d.frames ≡ c.frames
    → LeavesOthers c told d now p
brings-spares c told d now p brings k tells agree frames =
    record {
      known = λ q other b e. known-by c told d now tells k q b (brings-known c told d now p brings q other b) e;
      same = λ t q other. same-by c told d now tells k t q;
      held = λ q other. k.numbers q;
      tells = tells;
      agree = agree;
      frames = frames;
    }

-- a page that was in a frame has the same bytes there
pub brings-there : (c : Pooled) (told : Option Pages) (d : Pooled) (now : Option Pages) (p : ℕ) → Brings c told d now p → is_some (bytes_in p c.resident) ≡ true
    → (b : List ℕ) × (bytes_in p d.resident ≡ Some b) × (bytes_in p c.resident ≡ Some b)
brings-there c told d now p (Touched bytes had is same) there = (bytes, ap (λ (x : Pooled). bytes_in p x.resident) is ∙ bytes-last p bytes (without_page p c.resident) (bytes-gone p c.resident), had)
brings-there c told d now p (CameBack digest out kept f) there = let no : false ≡ true = sym (ap (λ (o : Option (List ℕ)). is_some o) out) ∙ there in absurd cc

pub were-there : (c : Pooled) (told : Option Pages) (d : Pooled) (now : Option Pages) (before after : DiskLog) (p : ℕ) (bytes : List ℕ) → Brings c told d now p → is_some (bytes_in p c.resident) ≡ true → bytes_in p d.resident ≡ Some bytes
    → WereIn c before after p bytes
were-there c told d now before after p bytes brings there e =
    let b = brings-there c told d now p brings there in inl (b.2 ∙ ap (λ (x : List ℕ). Some x) (some_is _ _ (sym b.1 ∙ e)))

-- a page that was in a frame was brought
pub brought-there : (c : Pooled) (told : Option Pages) (d : Pooled) (now : Option Pages) (kept : Kept) → Brings c told d now kept.page → Keeps c told d now → (Tells now → Tells told) → Agree d now → d.frames ≡ c.frames
    → IsFit (page_seen c told kept.page) kept → is_held c kept.page ≡ true → is_some (bytes_in kept.page c.resident) ≡ true → Brought c told d now kept
brought-there c told d now kept brings k tells agree frames fit held there =
    let b = brings-there c told d now kept.page brings there in
    record {
      bytes = b.0;
      there = b.1;
      fits = fit b.0 (in-frame c told kept.page b.0 b.2);
      held = k.numbers kept.page ∙ held;
      same = λ t. in-frame c told kept.page b.0 b.2;
      spares = brings-spares c told d now kept.page brings k tells agree frames;
    }

-- a page that came back and passed the test was brought
pub brought-back : (c : Pooled) (told : Option Pages) (d : Pooled) (now : Option Pages) (kept : Kept) → Brings c told d now kept.page → Keeps c told d now → (Tells now → Tells told) → Agree d now → d.frames ≡ c.frames
    → is_held c kept.page ≡ true → (b : List ℕ) → bytes_in kept.page d.resident ≡ Some b → FitsKept b kept → Brought c told d now kept
brought-back c told d now kept brings k tells agree frames held b there fits =
    record {
      bytes = b;
      there = there;
      fits = fits;
      held = k.numbers kept.page ∙ held;
      same = λ t. sym (same-by c told d now tells k t kept.page) ∙ in-frame d now kept.page b there;
      spares = brings-spares c told d now kept.page brings k tells agree frames;
    }

-- where the pages are known, what came back fits
pub told-fits : (c : Pooled) (told : Option Pages) (d : Pooled) (now : Option Pages) (kept : Kept) → Keeps c told d now → (Tells now → Tells told) → IsFit (page_seen c told kept.page) kept → (b : List ℕ) → bytes_in kept.page d.resident ≡ Some b
    → Tells now → FitsKept b kept
told-fits c told d now kept k tells fit b there t = fit b (sym (same-by c told d now tells k t kept.page) ∙ in-frame d now kept.page b there)
