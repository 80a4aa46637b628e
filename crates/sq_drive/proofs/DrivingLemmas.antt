-- What a run has shown of its answer, on its way and at its end.
use Rattle.std.proofs.Common.{◌≡◌, inl, inr, ℕ, ◌<◌, List, length, ap, sym, ◌∙◌, subst, arith, Option}
use Rattle.std.specs.Prelude.{Result, Ok, Err, IfErr}
use Rattle.sq_words.specs.Lists.{IsPrefixOf}
use Rattle.sq_outside.specs.Disks.{Pages}
use Rattle.sq_net.specs.SoundNetworks.{IsSound}
use Rattle.sq_oper.specs.declared.outs.Event.{Event}
use Rattle.sq_points.specs.Points.{points_of}
use Rattle.sq_model.specs.Shedding.{Replay}
use Rattle.sq_start.specs.Nets.{drop_decisions}
use Rattle.sq_pool.specs.Trust.{Tells}
use Rattle.sq_flow.specs.Events.{drops_of}
use Rattle.sq_core.specs.declared.engine.Engine.{Engine}
use Rattle.sq_core.specs.Runs.{IsRun, ShownAll}
use Rattle.sq_core.proofs.RunLemmas.{shown-so-far}
use Rattle.sq_status.specs.declared.Status.{Status}
use Rattle.sq_status.specs.declared.Status.TheVariants as status
use Rattle.sq_due.specs.Due.{answer_in}
use Rattle.sq_due.specs.Writing.{IsLost}
use Rattle.sq_drive.specs.Driving.{BeginsAnswer, Completes}
use Rattle.sq_words.proofs.Lists.{has_item}

-- an output is one of the wiring
wired : (r : Replay) → IsSound r.network → (o : ℕ) → o < length r.network.outputs → o < length r.network.wires.outputs
wired r sound o low = omega (arith, low, sound.agrees.outputs)

pub completes : (r : Replay) → IsSound r.network → (engine : Engine) (history : List Event) (begun steps : ℕ) → ShownAll r engine history begun steps → Completes r.network (answer_in r) history
completes r sound engine history begun steps all = record {
  lines = λ o low. all.lines o (wired r sound o low);
  drops = λ w low. let p = has_item (points_of r.network) w low in all.drops w p.0 p.1 ∙ ap (drop_decisions r w) (sym p.1);
  plans = all.plans;
}

-- what follows of the error of a call that failed
pub if_err : {T E : Type 0} {P : E → Type 0} (Q : E → Type 0) (r : Result T E) → IfErr r P → ((e : E) → P e → Q e) → IfErr r Q
if_err Q (Ok x) p f = tt
if_err Q (Err e) p f = f e p

pub not_too_much : (P : Type 0) (faults faults' : ℕ) (s : Status) → IsLost faults faults' s → s ≡ status.TooMuch → P
not_too_much P faults faults' s (inl memory) e = let both : status.Memory ≡ status.TooMuch = sym memory ∙ e in cc
not_too_much P faults faults' s (inr sink) e = let both : status.SinkFault ≡ status.TooMuch = sym sink.0 ∙ e in cc

pub sound_run : (r : Replay) (pages : Option Pages) (engine : Engine) (history : List Event) (begun steps : ℕ) → IsRun r pages engine history begun steps → IsSound r.network
sound_run r pages engine history begun steps run = subst IsSound run.network run.sound.network

-- what was shown so far begins the answer
pub begins_run : (r : Replay) (pages : Option Pages) (engine : Engine) (history : List Event) (begun steps : ℕ) → IsRun r pages engine history begun steps → Tells pages
    → BeginsAnswer r.network (answer_in r) history
begins_run r pages engine history begun steps run tells =
    let far = shown-so-far engine r pages history begun steps tells run in
    record {
      lines = λ o low. far.lines o (wired r (sound_run r pages engine history begun steps run) o low);
      drops = λ w low.
          let p = has_item (points_of r.network) w low in
          subst (λ k. IsPrefixOf (drops_of w history) (drop_decisions r w k)) (sym p.1) (far.drops w p.0 p.1);
      plans = far.plans;
    }
