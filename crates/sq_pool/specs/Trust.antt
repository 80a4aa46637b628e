-- Which pages of a disk are to be relied on.
use Rattle.std.specs.Prelude.{◌≡◌, ℕ, Bool, true, not, ◌||◌, if◌then◌else◌, List, [], ◌∷◌, ◌++◌, Option, Some, None, IfSome, is_some, option_map}
use Rattle.std.specs.List.{Contains, list_all}
use Rattle.std.specs.Str.{bytes_eq}
use Rattle.std.specs.FinMap as map
use Rattle.sha2.specs.Sha256.{sha256}
use Rattle.sq_outside.specs.Disks.{DiskLog, Pages, put_at}

-- what came back is what was put, or its digest is another
abbrev pub is_faithful : List ℕ × List ℕ → Bool
is_faithful pair = bytes_eq pair.0 pair.1 || not (bytes_eq (sha256 pair.0) (sha256 pair.1))

-- the pages that were put, where the disk is honest, or no page came back changed with the digest of what was put
abbrev pub known : DiskLog → Option Pages
known log = if log.honest || list_all is_faithful log.came then Some log.pages else None

abbrev pub Tells : Option Pages → Type 0
Tells pages = is_some pages ≡ true

-- what a call leaves of a disk: what is known behind it was known before it, the disk promises what it promised, and what came
-- back before it stays noted
pub record IsLater (before now : DiskLog) : Type 0 where
  pub known : Tells (known now) → Tells (known before)
  pub honest : now.honest ≡ before.honest
  pub came : (more : List (List ℕ × List ℕ)) × (now.came ≡ before.came ++ more)

-- these bytes came back last, in this call: they end what came back, beside what was put under the page's number
abbrev pub CameLast : DiskLog → DiskLog → ℕ → List ℕ → Type 0
CameLast before now page bytes = IfSome (put_at now page) (λ put. (others : List (List ℕ × List ℕ)) × (now.came ≡ (before.came ++ others) ++ (put, bytes) ∷ []))

-- the pages, with these bytes at the number, and with none there
abbrev pub pages_with : Option Pages → ℕ → List ℕ → Option Pages
pages_with pages page bytes = option_map (λ told. map.insert told page bytes) pages

-- where pages are known, the one at the number has these bytes
abbrev pub HasPage : Option Pages → ℕ → List ℕ → Type 0
HasPage pages page bytes = IfSome pages (λ told. map.get told page ≡ Some bytes)

-- each page that was put and each that came back is one of these
abbrev pub AllAmong : List (List ℕ) → List (List ℕ × List ℕ) → Type 0
AllAmong all [] = Unit {0}
AllAmong all (pair ∷ came) = Contains all pair.0 × Contains all pair.1 × AllAmong all came

-- no two of these have one digest
abbrev pub DigestsApart : List (List ℕ) → Type 0
DigestsApart all = (p q : List ℕ) → Contains all p → Contains all q → sha256 p ≡ sha256 q → p ≡ q
