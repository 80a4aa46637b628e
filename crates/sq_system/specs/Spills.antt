-- What a disk over a file is.
use Rattle.std.specs.Prelude.{◌≡◌, ℕ, ◌*◌, List, length, Option, is_some, IfSome, refl}
use Rattle.std.specs.Coded.{Coded, code_by, coded×, coded_ℕ}
use Rattle.std.specs.FinMap as map
use Rattle.sq_outside.specs.declared.TheConstants.{PAGE}
use Rattle.sq_outside.specs.Disks.{Pages, DiskLog, log_code}
use Rattle.sq_system.specs.ByteFiles.{StandsAt}

-- every page stands at its place of a file: page n at byte n * PAGE
abbrev pub PagesStand : Pages → List ℕ → Type 0
PagesStand pages held = (page : ℕ) → IfSome (map.get pages page) (λ bytes. (length bytes ≡ PAGE) × StandsAt held (page * PAGE) bytes)

-- and where what the file holds is told
abbrev pub AreKept : Pages → Option (List ℕ) → Type 0
AreKept pages file = IfSome file (PagesStand pages)

-- what went through the disk, and how many calls failed
pub record Spilled : Type 0 where
  pub log : DiskLog
  pub failed : ℕ

-- a disk is honest where its file tells what it holds
abbrev pub spilled : DiskLog → Option (List ℕ) → ℕ → Spilled
spilled log file faults = record { log = record log { honest = is_some file }; failed = faults }

abbrev pub spilled_code : Coded Spilled
spilled_code = code_by (DiskLog × ℕ) (coded× log_code coded_ℕ) (λ s. (s.log, s.failed)) (λ p. record { log = p.0; failed = p.1 }) (λ _. refl)
