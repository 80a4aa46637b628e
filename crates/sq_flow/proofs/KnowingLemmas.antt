-- A flow of which more is known is the one that it was with that to come, and whatever comes behind it.
use Rattle.std.proofs.Common.{◌≡◌, ℕ, zero, suc, ◌<◌, ◌≤◌, cond, false, List, [], ◌∷◌, ◌++◌, length, set, Option, None, refl, ap, sym, ◌∙◌, subst, append-nil, ◌^◌}
use Rattle.std.proofs.Math.Dec.{eqb-suc-suc, eqb-suc-zero, eqb-zero-suc}
use Rattle.std.proofs.Math.Nat.{ℕ_set}
use Rattle.std.proofs.Math.Bridge.{le_prop}
use Rattle.std.specs.Prelude.{Vec, slice_get}
use Rattle.std.specs.Vec.{with_item}
use Rattle.std.specs.declared.alloc.Global.{Global}
use mathlib.Core.HLevel.{is_prop→PathP}
use Rattle.sq_oper.specs.declared.operator.Operator.{Ghosts}
use Rattle.sq_replay.specs.RecordedTuples.{Recorded}
use Rattle.sq_flow.specs.declared.flow.Flow.{Flow}
use Rattle.sq_flow.specs.Flows.{IsFlow, IsReplaying, tuples_to_come, to_release}
use Rattle.sq_flow.specs.Tails.{Tails, Fits, sources_with, joined_in, closed, closed-length, closed_in, with_tails, no_tails, with_known}

closed-set : (ahead : List (Option ℕ)) (source : ℕ) (from : Option ℕ) → closed ahead ≡ closed (set ahead source from)
closed-set [] source from = refl
closed-set (x ∷ ahead) zero from = refl
closed-set (x ∷ ahead) (suc source) from = ap (λ l. None ∷ l) (closed-set ahead source from)

-- two vectors in one place with the same elements are one
vec-same : {X : Type 0} (v w : Vec X Global) → v.ptr ≡ w.ptr → v.len ≡ w.len → v.cap ≡ w.cap → v.alloc ≡ w.alloc → v.items ≡ w.items → v ≡ w
vec-same v w p n c a q = λ i. record {
  ptr = p i;
  len = n i;
  cap = c i;
  alloc = a i;
  items = q i;
  ok = is_prop→PathP (λ j. (n j ≡ length (q j)) × (n j ≤ c j)) (λ j x y k. (ℕ_set _ _ x.0 y.0 k, le_prop x.1 y.1 k)) v.ok w.ok i;
  small = is_prop→PathP (λ j. c j < 2 ^ 63) (λ j x y k. le_prop x y k) v.small w.small i;
}

-- tails that agree are as good as each other
joined-agree : (tails tails' : Tails) (sources : List Recorded) → ((source : ℕ) → tails source ≡ tails' source) → sources_with tails sources ≡ sources_with tails' sources
joined-agree tails tails' [] same = refl
joined-agree tails tails' (s ∷ sources) same =
    ap (λ l. record { items = s.items ++ l } ∷ sources_with (λ k. tails (suc k)) sources) (same 0)
    ∙ ap (λ l. record { items = s.items ++ tails' 0 } ∷ l) (joined-agree (λ k. tails (suc k)) (λ k. tails' (suc k)) sources (λ k. same (suc k)))

-- what comes first of a source of which nothing is known is as good as known
joined-added : (tails : Tails) (sources : List Recorded) (source : ℕ) (w : Recorded) → tuples_to_come (slice_get sources source) ≡ []
    → sources_with (with_known source w.items tails) sources ≡ sources_with tails (set sources source w)
joined-added tails [] source w bare = refl
joined-added tails (s ∷ sources) zero w bare =
    ap (λ known. record { items = known ++ (w.items ++ tails 0) } ∷ sources_with (λ k. with_known zero w.items tails (suc k)) sources) bare
    ∙ ap (λ l. record { items = w.items ++ tails 0 } ∷ l)
    (joined-agree (λ k. with_known zero w.items tails (suc k)) (λ k. tails (suc k)) sources (λ k. ap (λ b. cond b w.items [] ++ tails (suc k)) (eqb-suc-zero k)))
joined-added tails (s ∷ sources) (suc source) w bare =
    ap (λ b. record { items = s.items ++ (cond b w.items [] ++ tails 0) } ∷ sources_with (λ k. with_known (suc source) w.items tails (suc k)) sources) (eqb-zero-suc source)
    ∙ ap (λ l. record { items = s.items ++ tails 0 } ∷ l)
    (joined-agree (λ k. with_known (suc source) w.items tails (suc k)) (with_known source w.items (λ k. tails (suc k))) sources
    (λ k. ap (λ b. cond b w.items [] ++ tails (suc k)) (eqb-suc-suc k source))
    ∙ joined-added (λ k. tails (suc k)) sources source w bare)

joined-none : (sources : List Recorded) → sources_with no_tails sources ≡ sources
joined-none [] = refl
joined-none (s ∷ sources) = ap (λ l. record { items = l } ∷ sources_with no_tails sources) (append-nil s.items) ∙ ap (λ l. s ∷ l) (joined-none sources)

-- a flow keeps its invariants by what is known where it keeps them with no tails, and isn't over
known-keeps : {O : Type 0} (m : Ghosts O) (f : Flow O) → IsFlow m (with_tails no_tails f) → f.over ≡ false → IsFlow m f
known-keeps m f keeps open_now =
    record {
      shaped = keeps.shaped;
      lanes = keeps.lanes;
      ended = keeps.ended;
      seats = keeps.seats;
      few = keeps.few;
      held = keeps.held;
      replay =
          subst (λ sources. IsReplaying sources f.ahead.items f.clock f.counts.items f.over) (joined-none f.sources.items)
          (record {
            few_sources = keeps.replay.few_sources;
            coming = keeps.replay.coming;
            told = closed-length f.ahead.items ∙ keeps.replay.told;
            counted = keeps.replay.counted;
            few_tuples = keeps.replay.few_tuples;
            ends = keeps.replay.ends;
            closed = λ over. absurd (cc (sym open_now ∙ over));
          });
      levels = keeps.levels;
      owned = keeps.owned;
    }

-- these tuples become known of a source of which nothing is, and from which tick on more may come
module _ {O : Type 0} (f : Flow O) (source : ℕ) (w : Recorded) (from : Option ℕ) (bare : to_release f source ≡ []) where
  abbrev with_more : Flow O
  with_more = record f { sources = with_item f.sources source w; ahead = with_item f.ahead source from }

  -- the flow goes on as the one before, where they came first
  pub fed-tails : (tails : Tails) → with_tails (with_known source w.items tails) f ≡ with_tails tails with_more
  fed-tails tails = λ i. record f {
    sources = vec-same (joined_in (with_known source w.items tails) f.sources) (joined_in tails (with_item f.sources source w)) refl refl refl refl (joined-added tails f.sources.items source w bare) i;
    ahead = vec-same (closed_in f.ahead) (closed_in (with_item f.ahead source from)) refl refl refl refl (closed-set f.ahead.items source from) i;
  }

  pub fed-keeps : (m : Ghosts O) → Fits m (with_known source w.items no_tails) f → f.over ≡ false → IsFlow m with_more
  fed-keeps m may open_now = known-keeps m with_more (subst (IsFlow m) (fed-tails no_tails) may.keeps) open_now
