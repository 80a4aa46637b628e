-- What holds of a result.
use Rattle.std.specs.Prelude.{Err, IfOk, Ok, Result, OnOk}
use Rattle.std.proofs.Common.{OnErr}

-- what holds by two facts of a value, where there is one
pub IfOk_both : {T E : Type 0} (r : Result T E) (P Q R : T → Type 0) → ((x : T) → P x → Q x → R x) → IfOk r P → IfOk r Q → IfOk r R
IfOk_both (Ok x) P Q R from p q = from x p q
IfOk_both (Err e) P Q R from p q = tt

-- what holds in any case holds where a call failed
pub OnErr_from : {T E A : Type 0} (r : Result T E) → A → OnErr r A
OnErr_from (Ok x) a = tt
OnErr_from (Err e) a = a

pub OnOk_weaker : {T E P Q : Type 0} (r : Result T E) → (P → Q) → OnOk r P → OnOk r Q
OnOk_weaker (Ok x) f h = f h
OnOk_weaker (Err e) f h = tt

pub on_ok_map : {T E : Type 0} {A B : Type 0} (r : Result T E) → (A → B) → OnOk r A → OnOk r B
on_ok_map (Ok x) f h = f h
on_ok_map (Err e) f h = h
