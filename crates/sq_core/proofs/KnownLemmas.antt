-- Sources of which all is known.
use Rattle.std.proofs.Common.{◌≡◌, ℕ, zero, suc, ◌&&◌, true, List, length, replicate, Option, Some, None, refl, ap, sym, ◌∙◌}
use Rattle.std.specs.Prelude.{slice_get}
use Rattle.std.proofs.lemmas.List.{length-replicate}
use Rattle.sq_replay.specs.RecordedTuples.{Recorded, first_recorded}
use Rattle.sq_flow.specs.Flows.{more_from, tuples_to_come}
use Rattle.sq_flow.specs.Sources.{all_below, holds_none, is_clear, is_clear_of}

none-at : (n source : ℕ) → more_from (slice_get (replicate n None) source) ≡ None
none-at zero source = refl
none-at (suc n) zero = refl
none-at (suc n) (suc source) = none-at n source

pub none-come : (ahead : List (Option ℕ)) (n : ℕ) → ahead ≡ replicate n None → (source : ℕ) → more_from (slice_get ahead source) ≡ None
none-come ahead n is source = ap (λ l. more_from (slice_get l source)) is ∙ none-at n source

pub many-none : (ahead : List (Option ℕ)) (n : ℕ) → ahead ≡ replicate n None → length ahead ≡ n
many-none ahead n is = ap length is ∙ length-replicate n None

-- where no more comes of any source than is known the replay waits for none
pub known-clear : (sources : List Recorded) (ahead : List (Option ℕ)) → ((source : ℕ) → more_from (slice_get ahead source) ≡ None) → is_clear sources ahead ≡ true
known-clear sources ahead none = each (length sources)
  where
    at : (k : ℕ) (o : Option ℕ) → holds_none sources k o None ≡ true
    at k None = refl
    at k (Some time) = refl

    one : (k : ℕ) → is_clear_of sources ahead k ≡ true
    one k = ap (holds_none sources k (first_recorded (tuples_to_come (slice_get sources k)))) (none k) ∙ at k (first_recorded (tuples_to_come (slice_get sources k)))

    each : (n : ℕ) → all_below (is_clear_of sources ahead) n ≡ true
    each zero = refl
    each (suc n) = ap (λ b. b && is_clear_of sources ahead n) (each n) ∙ one n
