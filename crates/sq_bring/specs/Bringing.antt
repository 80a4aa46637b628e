-- What is kept of a page, the pages of a pool as they are seen over a disk, and why a page is refused.
use Rattle.std.specs.Prelude.{◌≡◌, ◌≢◌, ◌⊎◌, ⊤, ℕ, true, List, Option, Some, None, IsSomeAnd}
use Rattle.sq_outside.specs.Disks.{DiskLog, Pages}
use Rattle.sq_page.specs.Fitting.{FitsPage}
use Rattle.sq_pool.specs.Pools.{Pooled, bytes_in, page_of, is_held, HasDigest, Agree}
use Rattle.sq_pool.specs.Errors.{IsGarbling, IsWholePage}
use Rattle.sq_pool.specs.Slots.{digest_at}
use Rattle.sq_pool.specs.Trust.{CameLast, Tells}
use Rattle.sq_pool.specs.declared.pool.PoolErr.{PoolErr}
use Rattle.sq_pool.specs.declared.pool.PoolErr.TheVariants as pool
use Rattle.sq_bring.specs.declared.bring.Kept.{Kept}
use Rattle.sq_bring.specs.declared.bring.QueueErr.{QueueErr}
use Rattle.sq_bring.specs.declared.bring.QueueErr.TheVariants as error

-- the bytes of a page, where they are known: in a frame, or on a disk of which the pages are known
abbrev pub page_seen : Pooled → Option Pages → ℕ → Option (List ℕ)
page_seen c None p = bytes_in p c.resident
page_seen c (Some told) p = page_of c told p

-- the bytes are a page that fits what is kept of it
abbrev pub FitsKept : List ℕ → Kept → Type 0
FitsKept bytes kept = FitsPage bytes kept.start kept.count kept.end

-- where its bytes are known, the page fits
abbrev pub IsFit : Option (List ℕ) → Kept → Type 0
IsFit known kept = (bytes : List ℕ) → known ≡ Some bytes → FitsKept bytes kept

-- what a call leaves of all pages but one: what is seen behind it was seen before, and where the pages are known behind it
-- they were known before
pub record LeavesOthers (c : Pooled) (told : Option Pages) (d : Pooled) (now : Option Pages) (page : ℕ) : Type 0 where
  pub known : (q : ℕ) → q ≢ page → (bytes : List ℕ) → page_seen d now q ≡ Some bytes → page_seen c told q ≡ Some bytes
  pub same : Tells now → (q : ℕ) → q ≢ page → page_seen d now q ≡ page_seen c told q
  pub held : (q : ℕ) → q ≢ page → is_held d q ≡ is_held c q
  pub tells : Tells now → Tells told
  pub agree : Agree d now
  pub frames : d.frames ≡ c.frames

-- a page is in a frame and fits; where the pages are known behind the call, it is the same as before
pub record Brought (c : Pooled) (told : Option Pages) (d : Pooled) (now : Option Pages) (kept : Kept) : Type 0 where
  pub bytes : List ℕ
  pub there : bytes_in kept.page d.resident ≡ Some bytes
  pub fits : FitsKept bytes kept
  pub held : is_held d kept.page ≡ true
  pub same : Tells now → page_seen c told kept.page ≡ Some bytes
  pub spares : LeavesOthers c told d now kept.page

-- over every disk, the bytes of a page as a call had them: they stood in its frame before, or came back in it with the digest that was kept
abbrev pub WereIn : Pooled → DiskLog → DiskLog → ℕ → List ℕ → Type 0
WereIn c before now page bytes = (bytes_in page c.resident ≡ Some bytes) ⊎ (IsSomeAnd (digest_at c.kept page) (HasDigest (Some bytes)) × CameLast before now page bytes)

-- the error of a queue for that of its pool
abbrev pub of_pool : PoolErr → QueueErr
of_pool pool.Disk = error.Disk
of_pool (pool.Garbled page kept got) = error.Garbled page kept got
of_pool pool.Memory = error.Memory

-- why bytes are refused: they don't fit what is kept of their page
abbrev pub IsMisfit : List ℕ → Kept → QueueErr → Type 0
IsMisfit bytes kept error.Disk = ⊥
IsMisfit bytes kept (error.Garbled page old got) = ⊥
IsMisfit bytes kept (error.NotAPage page got) = (page ≡ kept.page) × (got.items ≡ bytes) × (¬ (FitsKept bytes kept))
IsMisfit bytes kept error.Memory = ⊤

-- why a page is refused, by the pool and the disk's log before and after: the digest that was kept isn't that of the bytes which came
-- back in this call, or these came back in it with the digest that was kept, and don't fit what is kept of the page
abbrev pub IsCause : Pooled → Pooled → DiskLog → DiskLog → Kept → QueueErr → Type 0
IsCause c d before now kept error.Disk = ⊤
IsCause c d before now kept (error.Garbled page old got) = IsGarbling c d before now kept.page (pool.Garbled page old got)
IsCause c d before now kept (error.NotAPage page bytes) =
    (page ≡ kept.page) × (bytes_in page c.resident ≡ None) × IsWholePage c d before now page bytes.items × (¬ (FitsKept bytes.items kept))
IsCause c d before now kept error.Memory = ⊤

-- a refusal that may come over an honest disk
abbrev pub IsTold : QueueErr → Type 0
IsTold error.Disk = ⊤
IsTold (error.Garbled page old got) = ⊥
IsTold (error.NotAPage page bytes) = ⊥
IsTold error.Memory = ⊤

-- a refusal that may come over a disk that is known: a page that came back with its digest is the one that was put
abbrev pub NoMisfit : QueueErr → Type 0
NoMisfit error.Disk = ⊤
NoMisfit (error.Garbled page old got) = ⊤
NoMisfit (error.NotAPage page bytes) = ⊥
NoMisfit error.Memory = ⊤
