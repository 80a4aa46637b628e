-- Pages that stand in a file, after a write to it and a change of what is listed.
use Rattle.std.proofs.Common.{◌≡◌, ◌≢◌, ℕ, ◌*◌, List, Bool, true, false, cond, Option, None, Some, length, refl, sym, subst, rules, arith}
use Rattle.std.specs.Prelude.{IfSome, ◌==◌}
use Rattle.std.specs.Ordering.{nat_cmp}
use Rattle.std.specs.Cmp.{nat_cmp_total, unsigned_tied}
use Rattle.std.specs.FinMap as map
use Rattle.sq_outside.specs.declared.TheConstants.{PAGE}
use Rattle.sq_outside.specs.Disks.{Pages}
use Rattle.sq_system.specs.ByteFiles.{StandsAt, HoldsAt, ShareNoByte, KeepsBeside, KeepsTheRest}
use Rattle.sq_system.specs.Spills.{PagesStand, AreKept}

-- one page at its place
abbrev Stand : List ℕ → ℕ → Option (List ℕ) → Type 0
Stand held page one = IfSome one (λ bytes. (length bytes ≡ PAGE) × StandsAt held (page * PAGE) bytes)

other-page : (q page : ℕ) → (q == page) ≡ false → q ≢ page
other-page q page is = search rules

-- the places of two pages share no byte
apart : (page q size width : ℕ) → size ≡ PAGE → width ≡ PAGE → q ≢ page → ShareNoByte (page * PAGE) size (q * PAGE) width
apart page q size width one other differ = grind arith

-- another page stands after a write to the place of a page
beside : (before now : List ℕ) (page q size : ℕ) (one : Option (List ℕ)) → size ≡ PAGE → q ≢ page → KeepsBeside before now (page * PAGE) size
    → Stand before q one → Stand now q one
beside before now page q size None whole differ keeps stand = tt
beside before now page q size (Some bytes) whole differ keeps stand =
    (stand.0, keeps (q * PAGE) bytes (apart page q size (length bytes) whole stand.0 differ) stand.1)

-- a page is changed in a list, and the others stand
changed : (held : List ℕ) (page q : ℕ) (one other : Option (List ℕ)) (b : Bool) → (q == page) ≡ b
    → Stand held page one → (q ≢ page → Stand held q other) → Stand held q (cond b one other)
changed held page q one other true is new old = (let same : q ≡ page = search rules in subst (λ p. Stand held p one) (sym same) new)
changed held page q one other false is new old = old (other-page q page is)

insert-stands : (pages : Pages) (before now : List ℕ) (page : ℕ) (bytes : List ℕ) → length bytes ≡ PAGE → StandsAt now (page * PAGE) bytes
    → KeepsBeside before now (page * PAGE) (length bytes) → PagesStand pages before → PagesStand (map.insert pages page bytes) now
insert-stands pages before now page bytes whole stands keeps all q =
    rw (map.get-insert nat_cmp_total, unsigned_tied q page)
    (changed now page q (Some bytes) (map.get pages q) _ refl (whole, stands) (λ differ. beside before now page q _ _ whole differ keeps (all q)))

remove-stands : (pages : Pages) (before now : List ℕ) (page size : ℕ) → size ≡ PAGE
    → KeepsBeside before now (page * PAGE) size → PagesStand pages before → PagesStand (map.remove pages page) now
remove-stands pages before now page size whole keeps all q =
    rw (map.get-remove nat_cmp_total, unsigned_tied q page)
    (changed now page q None (map.get pages q) _ refl tt (λ differ. beside before now page q _ _ whole differ keeps (all q)))

-- after a page was written, after a write failed, and where a page is given up
pub kept-put : (pages : Pages) (before now : Option (List ℕ)) (page : ℕ) (bytes : List ℕ) → length bytes ≡ PAGE → HoldsAt now (page * PAGE) bytes
    → KeepsTheRest before now (page * PAGE) (length bytes) → AreKept pages before → AreKept (map.insert pages page bytes) now
kept-put pages None now page bytes whole stands keeps all = rw keeps tt
kept-put pages (Some before) None page bytes whole stands keeps all = absurd keeps
kept-put pages (Some before) (Some now) page bytes whole stands keeps all = insert-stands pages before now page bytes whole stands keeps all

pub kept-lost : (pages : Pages) (before now : Option (List ℕ)) (page size : ℕ) → size ≡ PAGE → KeepsTheRest before now (page * PAGE) size
    → AreKept pages before → AreKept (map.remove pages page) now
kept-lost pages None now page size whole keeps all = rw keeps tt
kept-lost pages (Some before) None page size whole keeps all = absurd keeps
kept-lost pages (Some before) (Some now) page size whole keeps all = remove-stands pages before now page size whole keeps all

given-up : (page q : ℕ) (held : List ℕ) (one : Option (List ℕ)) (b : Bool) → Stand held q one → Stand held q (cond b None one)
given-up page q held one true stand = tt
given-up page q held one false stand = stand

pub kept-given-up : (pages : Pages) (file : Option (List ℕ)) (page : ℕ) → AreKept pages file → AreKept (map.remove pages page) file
kept-given-up pages None page all = tt
kept-given-up pages (Some held) page all = λ q. rw (map.get-remove nat_cmp_total) (given-up page q held (map.get pages q) _ (all q))

pub kept-empty : (file : Option (List ℕ)) → AreKept map.empty file
kept-empty None = tt
kept-empty (Some held) = λ q. rw (map.get-empty nat_cmp) tt
