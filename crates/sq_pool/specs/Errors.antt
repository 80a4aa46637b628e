-- Why a pool fails.
use Rattle.std.specs.Prelude.{◌≡◌, ⊤, ℕ, List, Some}
use Rattle.sha2.specs.Sha256.{sha256}
use Rattle.sq_outside.specs.Disks.{DiskLog, put_at}
use Rattle.sq_pool.specs.declared.pool.PoolErr.{PoolErr}
use Rattle.sq_pool.specs.declared.pool.PoolErr.TheVariants as error
use Rattle.sq_pool.specs.Slots.{digest_at}
use Rattle.sq_pool.specs.Pools.{Pooled, HasDigest, bytes_in}
use Rattle.sq_pool.specs.Trust.{CameLast, Tells, known}

-- where the disk is known, the bytes that were put last under the number have this digest
abbrev pub IsLastPut : DiskLog → ℕ → List ℕ → Type 0
IsLastPut log page digest = Tells (known log) → HasDigest (put_at log page) digest

-- these bytes came back last, in this call, and are in the page's frame
pub record IsBack (d : Pooled) (before now : DiskLog) (page : ℕ) (bytes : List ℕ) : Type 0 where
  pub there : bytes_in page d.resident ≡ Some bytes
  pub came : CameLast before now page bytes

-- they have the digest that was kept, which is that of the bytes last put
abbrev pub IsWholePage : Pooled → Pooled → DiskLog → DiskLog → ℕ → List ℕ → Type 0
IsWholePage c d before now page bytes = IsBack d before now page bytes × (digest_at c.kept page ≡ Some (sha256 bytes)) × IsLastPut now page (sha256 bytes)

-- a page that was in no frame came back whole
abbrev pub ComesBack : Pooled → Pooled → DiskLog → DiskLog → ℕ → Type 0
ComesBack c d before now page = (bytes : List ℕ) × IsWholePage c d before now page bytes

-- the digest that was kept of the page, which is that of the bytes last put, isn't that of the bytes which came back in this call and are in
-- its frame now
abbrev pub IsGarbling : Pooled → Pooled → DiskLog → DiskLog → ℕ → PoolErr → Type 0
IsGarbling c d before now p error.Disk = ⊤
IsGarbling c d before now p (error.Garbled page kept got) =
    (page ≡ p) × (digest_at c.kept p ≡ Some kept.0) × ((bytes : List ℕ) × IsBack d before now p bytes × (sha256 bytes ≡ got.0)) × (¬ (kept.0 ≡ got.0)) × IsLastPut now p kept.0
IsGarbling c d before now p error.Memory = ⊤
