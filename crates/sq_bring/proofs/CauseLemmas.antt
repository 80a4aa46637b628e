-- Why a page is refused.
use Rattle.std.proofs.Common.{◌≡◌, ℕ, false, List, Option, Some, None, inr, refl, sym, subst, ◌∙◌}
use Rattle.std.specs.Prelude.{is_some, Result, Ok, Err, IfErr, IsSomeAnd}
use Rattle.sq_outside.specs.Disks.{DiskLog}
use Rattle.sq_pool.specs.Errors.{IsGarbling, ComesBack, IsWholePage}
use Rattle.sq_pool.specs.Pools.{Pooled, HasDigest, bytes_in}
use Rattle.sq_pool.specs.Slots.{digest_at}
use Rattle.sq_pool.specs.Trust.{CameLast}
use Rattle.sq_pool.specs.declared.pool.PoolErr.{PoolErr}
use Rattle.sq_pool.specs.declared.pool.PoolErr.TheVariants as pool
use Rattle.sq_bring.specs.Bringing.{FitsKept, IsCause, IsMisfit, IsTold, NoMisfit, WereIn, of_pool}
use Rattle.sq_bring.specs.declared.bring.Kept.{Kept}
use Rattle.sq_bring.specs.declared.bring.QueueErr.{QueueErr}
use Rattle.sq_bring.specs.declared.bring.QueueErr.TheVariants as error

pub if-err : {A E : Type 0} {P Q : E → Type 0} (r : Result A E) → ((e : E) → P e → Q e) → IfErr r P → IfErr r Q
if-err (Ok x) f h = tt
if-err (Err e) f h = f e h

pub none-by : (o : Option (List ℕ)) → false ≡ is_some o → o ≡ None
none-by None h = refl
none-by (Some b) h = absurd cc

one_is : (o : Option (List ℕ)) (a b : List ℕ) → o ≡ Some a → o ≡ Some b → a ≡ b
one_is o a b e f = let both : Some a ≡ Some b = sym e ∙ f in cc

-- bytes that came back have the digest that was kept
pub were-back : (c d : Pooled) (before now : DiskLog) (p : ℕ) (bytes : List ℕ) → ComesBack c d before now p → bytes_in p d.resident ≡ Some bytes → WereIn c before now p bytes
were-back c d before now p bytes (b, whole) e =
    inr (subst (λ (bs : List ℕ). IsSomeAnd (digest_at c.kept p) (HasDigest (Some bs)) × CameLast before now p bs) (one_is (bytes_in p d.resident) b bytes whole.0.there e)
    (subst (λ (o : Option (List ℕ)). IsSomeAnd o (HasDigest (Some b))) (sym whole.1) refl, whole.0.came))

-- the pool refused the page
pub pool-cause : (c d : Pooled) (before now : DiskLog) (kept : Kept) (e : PoolErr) → IsGarbling c d before now kept.page e → IsCause c d before now kept (of_pool e)
pool-cause c d before now kept pool.Disk h = tt
pool-cause c d before now kept (pool.Garbled page old got) h = h
pool-cause c d before now kept pool.Memory h = tt

pub pool-fits : (e : PoolErr) → NoMisfit (of_pool e)
pool-fits pool.Disk = tt
pool-fits (pool.Garbled page old got) = tt
pool-fits pool.Memory = tt

pub told-fits-all : (e : QueueErr) → IsTold e → NoMisfit e
told-fits-all error.Disk h = tt
told-fits-all (error.Garbled page old got) h = absurd h
told-fits-all (error.NotAPage page bytes) h = absurd h
told-fits-all error.Memory h = tt

-- bytes that came back with their digest don't fit
pub misfit-cause : (c d : Pooled) (before now : DiskLog) (kept : Kept) (bytes : List ℕ) (e : QueueErr) → bytes_in kept.page c.resident ≡ None → ComesBack c d before now kept.page
    → bytes_in kept.page d.resident ≡ Some bytes → IsMisfit bytes kept e → IsCause c d before now kept e
misfit-cause c d before now kept bytes error.Disk out back there h = absurd h
misfit-cause c d before now kept bytes (error.Garbled page old got) out back there h = absurd h
misfit-cause c d before now kept bytes (error.NotAPage page got) out (b, whole) there (at, same, refused) =
    let is : b ≡ got.items = one_is (bytes_in kept.page d.resident) b bytes whole.0.there there ∙ sym same in (
      at,
      subst (λ (p : ℕ). bytes_in p c.resident ≡ None) (sym at) out,
      subst (λ (p : ℕ). IsWholePage c d before now p got.items) (sym at) (subst (λ (bs : List ℕ). IsWholePage c d before now kept.page bs) is whole),
      subst (λ (bs : List ℕ). ¬ (FitsKept bs kept)) (sym same) refused,
    )
misfit-cause c d before now kept bytes error.Memory out back there h = tt
