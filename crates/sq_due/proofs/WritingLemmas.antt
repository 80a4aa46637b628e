-- Text that is written piece by piece.
use Rattle.std.proofs.Common.{◌≡◌, ℕ, ◌+◌, ◌<◌, ◌≤◌, inl, inr, List, [], ◌++◌, length, take, drop, get_or, refl, ap, sym, ◌∙◌, subst, append_assoc, append-nil, Option, None, Some}
use Rattle.std.specs.Prelude.{Result, Ok, Err, OnOk, IfErr}
use Rattle.std.specs.List.{flat_map}
use Rattle.sq_outside.specs.Sinks.{AppendsPrefix, appended}
use Rattle.sq_outside.proofs.SinkLemmas.{appended-append}
use Rattle.sq_lines.proofs.PairLemmas.{text-more, text-rest}
use Rattle.sq_status.specs.declared.Status.{Status}
use Rattle.sq_due.specs.Writing.{IsLost, LosesRest, Moves}
use Rattle.sq_work.proofs.StoppedLemmas.{rose_later}

pub moves-then : (before mid now : Option (List ℕ)) (waited waits later more next : List ℕ) → Moves before waited mid waits more → Moves mid waits now later next
    → Moves before waited now later (more ++ next)
moves-then before mid now waited waits later more next a b = record {
  part = a.part ++ b.part;
  now_is = b.now_is ∙ ap (λ o. appended o b.part) a.now_is ∙ appended-append before a.part b.part;
  all = append_assoc a.part b.part later ∙ ap (λ x. a.part ++ x) b.all ∙ sym (append_assoc a.part waits next) ∙ ap (λ x. x ++ next) a.all ∙ append_assoc waited more next;
}

pub moves-lost : (before mid now : Option (List ℕ)) (waited waits more next : List ℕ) → Moves before waited mid waits more → AppendsPrefix mid now (waits ++ next)
    → AppendsPrefix before now (waited ++ (more ++ next))
moves-lost before mid now waited waits more next a b = (
  a.part ++ b.0,
  (b.1.0, sym (append_assoc waited more next) ∙ ap (λ x. x ++ next) (sym a.all) ∙ append_assoc a.part waits next ∙ ap (λ x. a.part ++ x) b.1.1 ∙ sym (append_assoc a.part b.0 b.1.0)),
  b.2 ∙ ap (λ o. appended o b.0) a.now_is ∙ appended-append before a.part b.0,
)

pub prefix_longer : (before now : Option (List ℕ)) (bytes more : List ℕ) → AppendsPrefix before now bytes → AppendsPrefix before now (bytes ++ more)
prefix_longer before now bytes more a = (a.0, (a.1.0 ++ more, ap (λ x. x ++ more) a.1.1 ∙ append_assoc a.0 a.1.0 more), a.2)

module _ {X : Type 0} where
  -- an element that is lost on the way
  pub lost_at : (f : X → List ℕ) (xs : List X) (i : ℕ) (x : X) (before mid now : Option (List ℕ)) (waited waits : List ℕ) → i < length xs → x ≡ get_or xs i x
      → Moves before waited mid waits (flat_map f (take i xs)) → AppendsPrefix mid now (waits ++ f x) → AppendsPrefix before now (waited ++ flat_map f xs)
  lost_at f xs i x before mid now waited waits inside at a b =
      let e = ap (λ y. y ++ flat_map f (drop (i + 1) xs)) (text-more f xs i x inside at) in
      subst (λ y. AppendsPrefix before now (waited ++ y)) (sym (text-rest f xs (i + 1) ∙ e))
      (subst (λ y. AppendsPrefix before now y) (append_assoc waited (flat_map f (take i xs) ++ f x) (flat_map f (drop (i + 1) xs)))
      (prefix_longer before now (waited ++ (flat_map f (take i xs) ++ f x)) (flat_map f (drop (i + 1) xs))
      (moves-lost before mid now waited waits (flat_map f (take i xs)) (f x) a b)))

pub on_ok : {T E P Q : Type 0} (r : Result T E) → OnOk r P → (P → Q) → OnOk r Q
on_ok (Ok x) p f = f p
on_ok (Err e) p f = tt

-- of what is lost on its way less went out, too
pub loses_map : {T P Q : Type 0} (before now : ℕ) (r : Result T Status) → IfErr r (LosesRest P before now) → (P → Q) → IfErr r (LosesRest Q before now)
loses_map before now (Ok x) lost f = tt
loses_map before now (Err s) lost f = record { begun = f lost.begun; lost = lost.lost }

pub on_ok_any : {T E P : Type 0} (r : Result T E) → P → OnOk r P
on_ok_any (Ok x) p = p
on_ok_any (Err e) p = tt

pub appended-nil : (before : Option (List ℕ)) → appended before [] ≡ before
appended-nil None = refl
appended-nil (Some ws) = ap Some (append-nil ws)

-- nothing was written yet
pub lost_at_once : (before : Option (List ℕ)) (text : List ℕ) → AppendsPrefix before before text
lost_at_once before text = ([], (text, refl), sym (appended-nil before))

-- what is lost since a later count of faults is lost since an earlier one
pub lost_later : (before mid now : ℕ) (s : Status) → before ≤ mid → IsLost mid now s → IsLost before now s
lost_later before mid now s le (inl memory) = inl memory
lost_later before mid now s le (inr sink) = inr (sink.0, rose_later 1 before mid now le sink.1)
