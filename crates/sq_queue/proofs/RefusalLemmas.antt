-- Why an item is refused, where the memory is full.
use Rattle.std.proofs.Common.{◌≡◌, ℕ, sym, subst, ◌∙◌}
use Rattle.std.specs.Prelude.{Result, Ok, Err, IfErr, IsErr, IsErrAnd, OnOk}
use Rattle.sq_outside.specs.Disks.{DiskLog}
use Rattle.sq_bring.specs.Bringing.{IsTold, NoMisfit}
use Rattle.sq_bring.specs.declared.bring.QueueErr.{QueueErr}
use Rattle.sq_bring.specs.declared.bring.QueueErr.TheVariants as error
use Rattle.sq_queue.specs.Faces.{IsRefusal}
use Rattle.sq_queue.specs.declared.Queues.{Queues}

-- of a call that was refused
pub on-refused : {T E : Type 0} (P : Type 0) (r : Result T E) → IsErr r → OnOk r P
on-refused P (Ok x) refused = absurd cc
on-refused P (Err e) refused = tt

pub if-refused : {T E : Type 0} {P Q : E → Type 0} (r : Result T E) → ((e : E) → P e → Q e) → IsErrAnd r P → IfErr r Q
if-refused (Ok x) f refused = absurd refused
if-refused (Err e) f refused = f e refused

pub memory-no-disk : {A : Type 0} (e : QueueErr) → e ≡ error.Memory → e ≡ error.Disk → A
memory-no-disk e memory disk = let no : error.Memory ≡ error.Disk = sym memory ∙ disk in absurd cc

pub memory-refusal : (q r : Queues) (before now : DiskLog) (arc : ℕ) (e : QueueErr) → e ≡ error.Memory → IsRefusal q r before now arc e
memory-refusal q r before now arc e memory = subst (λ (x : QueueErr). IsRefusal q r before now arc x) (sym memory) tt

pub memory-told : (e : QueueErr) → e ≡ error.Memory → IsTold e
memory-told e memory = subst IsTold (sym memory) tt

pub memory-no-misfit : (e : QueueErr) → e ≡ error.Memory → NoMisfit e
memory-no-misfit e memory = subst NoMisfit (sym memory) tt
