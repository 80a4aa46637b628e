-- Sources of which not all is known: what may still come of each, and what a call does whatever comes.
--     with_tails tails flow     the flow as if all were known that comes behind what is
--     Fits m tails flow         that may come
--     Whatever m flow P         P at every tail that fits
use Rattle.std.specs.Prelude.{◌≡◌, ℕ, suc, ◌^◌, ◌≤◌, ◌==◌, if◌then◌else◌, List, [], ◌∷◌, ◌++◌, length, Option, Some, None, Vec, slice_get}
use Rattle.std.specs.declared.alloc.Global.{Global}
use mathlib.Core.Path.{◌∙◌, ap, refl}
use Rattle.sq_value.specs.declared.Tuple.{Tuple}
use Rattle.sq_oper.specs.declared.operator.Operator.{Ghosts}
use Rattle.sq_replay.specs.RecordedTuples.{Recorded}
use Rattle.sq_flow.specs.declared.flow.Flow.{Flow}
use Rattle.sq_flow.specs.Flows.{IsFlow, RiseFrom, more_from, tuples_to_come}

-- of each source what comes behind what is known of it
abbrev pub Tails : Type 0
Tails = ℕ → List Tuple

-- nothing where no more comes, and else tuples from a tick on whose times don't fall
abbrev pub IsSourceTail : Option ℕ → List Tuple → Type 0
IsSourceTail None tail = tail ≡ []
IsSourceTail (Some from) tail = RiseFrom from tail

-- these may come, where this is told of each source
abbrev pub AreTails : List (Option ℕ) → Tails → Type 0
AreTails ahead tails = (source : ℕ) → IsSourceTail (more_from (slice_get ahead source)) (tails source)

-- each source with its tail
abbrev pub sources_with : Tails → List Recorded → List Recorded
sources_with tails [] = []
sources_with tails (s ∷ sources) = record { items = s.items ++ tails 0 } ∷ sources_with (λ source. tails (suc source)) sources

pub joined-length : (tails : Tails) (sources : List Recorded) → length sources ≡ length (sources_with tails sources)
joined-length tails [] = refl
joined-length tails (s ∷ sources) = ap suc (joined-length (λ source. tails (suc source)) sources)

abbrev pub joined_in : Tails → Vec Recorded Global → Vec Recorded Global
joined_in tails v = record { ptr = v.ptr; len = v.len; cap = v.cap; alloc = v.alloc; items = sources_with tails v.items; ok = (v.ok.0 ∙ joined-length tails v.items, v.ok.1); small = v.small }

-- no more comes of any source
abbrev pub closed : List (Option ℕ) → List (Option ℕ)
closed [] = []
closed (from ∷ ahead) = None ∷ closed ahead

pub closed-length : (ahead : List (Option ℕ)) → length ahead ≡ length (closed ahead)
closed-length [] = refl
closed-length (from ∷ ahead) = ap suc (closed-length ahead)

abbrev pub closed_in : Vec (Option ℕ) Global → Vec (Option ℕ) Global
closed_in v = record { ptr = v.ptr; len = v.len; cap = v.cap; alloc = v.alloc; items = closed v.items; ok = (v.ok.0 ∙ closed-length v.items, v.ok.1); small = v.small }

abbrev pub with_tails : {O : Type 0} → Tails → Flow O → Flow O
with_tails tails flow = record flow { sources = joined_in tails flow.sources; ahead = closed_in flow.ahead }

-- nothing comes; these come in front of what else does
abbrev pub no_tails : Tails
no_tails source = []

abbrev pub with_known : ℕ → List Tuple → Tails → Tails
with_known source more tails other = (if other == source then more else []) ++ tails other

-- these may come, and with them the flow is one that keeps its invariants
pub record Fits {O : Type 0} (m : Ghosts O) (tails : Tails) (flow : Flow O) : Type 0 where
  pub may : AreTails flow.ahead.items tails
  pub keeps : IsFlow m (with_tails tails flow)

-- all may come that rises behind what is known, no more of a source than can be counted
pub record MayCome (sources : List Recorded) (ahead : List (Option ℕ)) (tails : Tails) : Type 0 where
  pub may : AreTails ahead tails
  pub rises : (source : ℕ) → RiseFrom 0 (tuples_to_come (slice_get (sources_with tails sources) source))
  pub few : (source : ℕ) → length (tuples_to_come (slice_get (sources_with tails sources) source)) ≤ 2 ^ 62

abbrev pub MayFit : {O : Type 0} → Ghosts O → List Recorded → List (Option ℕ) → Flow O → Type 0
MayFit m sources ahead flow = (tails : Tails) → MayCome sources ahead tails → Fits m tails flow

-- P at every way in which the sources may go on
abbrev pub Whatever : {O : Type 0} → Ghosts O → Flow O → (Tails → Type 0) → Type 0
Whatever m flow P = (tails : Tails) → Fits m tails flow → P tails
