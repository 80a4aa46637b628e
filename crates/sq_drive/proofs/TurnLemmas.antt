-- Turns of a run, one after another, to its end, or to the one that fails.
use Rattle.std.proofs.Common.{◌≡◌, ℕ, Option, Vec, slice_get, ◌≤◌, ◌^◌, List, [], ◌++◌, ap, sym, ◌∙◌, subst, refl, arith, append_assoc, append-nil}
use Rattle.std.specs.List.{AllByRecursion}
use Rattle.std.specs.declared.alloc.Global.{Global}
use Rattle.sq_net.specs.declared.Network.{Network}
use Rattle.sq_oper.specs.declared.outs.Event.{Event}
use Rattle.sq_sched.specs.declared.policy.Pick.{Pick}
use Rattle.sq_model.specs.Shedding.{Replay}
use Rattle.sq_actor.specs.declared.actor.Actor.{Actor}
use Rattle.sq_pool.specs.Trust.{Tells, known}
use Rattle.sq_pool.proofs.TrustLemmas.{IsLater-refl, IsLater-trans}
use Rattle.sq_flow.specs.declared.errors.RunErr.{RunErr}
use Rattle.sq_flow.specs.declared.steps.Progress.{Progress}
use Rattle.sq_flow.specs.Flows.{Stepped, more_from}
use Rattle.sq_flow.specs.Stepping.{Stage}
use Rattle.sq_flow.specs.Tails.{with_tails}
use Rattle.sq_flow.proofs.CauseLemmas.{page-since}
use Rattle.sq_flow.proofs.StepLemmas.{stepped-none}
use Rattle.sq_core.specs.Meanings.{actors}
use Rattle.sq_core.specs.Runs.{IsRun, flow_of}
use Rattle.sq_core.specs.Steps.{RunFails, RunsOn}
use Rattle.sq_core.proofs.RunLemmas.{fits-after, shown-so-far}
use Rattle.sq_status.specs.declared.Status.{Status}
use Rattle.sq_work.proofs.StoppedLemmas.{rose_later}
use Rattle.sq_due.specs.declared.audience.Audience.{Ghosts}
use Rattle.sq_due.specs.Due.{answer_in, turns_in}
use Rattle.sq_drive.specs.Driving.{BeginsAnswer, StoppedWith}
use Rattle.sq_due.specs.Histories.{IsEventAt}
use Rattle.sq_drive.specs.Failing.{CameTo}
use Rattle.sq_drive.specs.Stopping.{status_of}
use Rattle.sq_drive.specs.Turns.{CanTurn, FailsOn, GoesOn, IsDrivable, KeepsRun, Moment, RunState, TurnFails, TurnsOn}
use Rattle.sq_due.specs.Writing.{IsLost, LosesRest}
use Rattle.sq_drive.proofs.DrivingLemmas.{begins_run, not_too_much}
use Rattle.sq_drive.proofs.FailLemmas.{came_at_once, came_then}
use Rattle.sq_drive.proofs.LeftLemmas.{stepped_then}
use Rattle.sq_drive.proofs.StopLemmas.{cut_later, lost_cut, lost_garbled, lost_stop, lost_unchanged, step_cause, step_cut, step_garbled, step_much, step_unchanged, stop_map}
use Rattle.sq_words.proofs.Alls.{all_append}

-- a moment of a run, as a step knows it that has shown these events
abbrev pub stage_at : RunState → List Event → Stage Actor
stage_at a events = record { flow = flow_of a.engine; log = a.log; faults = a.faults; events = events; steps = a.steps }

pub keeps_none : (a : RunState) → KeepsRun a a
keeps_none a = record { network = refl; later = IsLater-refl a.log; faults = omega arith }

pub keeps_then : (a b c : RunState) → KeepsRun a b → KeepsRun b c → KeepsRun a c
keeps_then a b c first second = record {
  network = second.network ∙ first.network;
  later = IsLater-trans a.log b.log c.log first.later second.later;
  faults = omega (arith, first.faults, second.faults);
}

-- no step yet
pub goes_none : (a : RunState) → IsDrivable (known a.log) a.engine → GoesOn a.engine.network a a []
goes_none a can = record {
  there = tt;
  left = stepped-none actors (known a.log) (flow_of a.engine) [] can.sound.engine.flow can.together;
  left_on = λ tails fits. stepped-none actors (known a.log) (with_tails tails (flow_of a.engine)) [] fits.keeps can.together;
  runs = λ r history begun run. subst (λ xs. IsRun r (known a.log) a.engine xs begun a.steps) (sym (append-nil history)) run;
  sound = can.sound;
  known = can.known;
}

module _ (n : Network) (a b : RunState) (events : List Event) (first : GoesOn n a b events) where
  -- they go on
  pub goes_then : (c : RunState) (more : List Event) → GoesOn n b c more → GoesOn n a c (events ++ more)
  goes_then c more second = record {
    there = all_append (IsEventAt n) events more first.there second.there;
    left = stepped_then (known a.log) (known b.log) (flow_of a.engine) (flow_of b.engine) events first.left (known c.log) (flow_of c.engine) more second.left;
    left_on = λ tails fits.
        let one = first.left_on tails fits in
        let fits_then = fits-after (known a.log) (known b.log) (flow_of a.engine) (flow_of b.engine) [] events first.left tails fits one in
        stepped_then (known a.log) (known b.log) (with_tails tails (flow_of a.engine)) (with_tails tails (flow_of b.engine)) events one (known c.log) (with_tails tails (flow_of c.engine)) more
        (second.left_on tails fits_then);
    runs = λ r history begun run.
        subst (λ xs. IsRun r (known c.log) c.engine xs begun c.steps) (append_assoc history events more)
        (second.runs r (history ++ events) begun (first.runs r history begun run));
    sound = second.sound;
    known = second.known;
  }

  -- the next one fails
  pub fails_then : KeepsRun a b → (c : RunState) (more : List Event) (s : Status) → FailsOn n b c more s → FailsOn n a c (events ++ more) s
  fails_then keeps c more s second = record {
    mid = second.mid;
    tells = second.tells;
    last = second.last;
    there = all_append (IsEventAt n) events more first.there second.there;
    left = stepped_then (known a.log) (known b.log) (flow_of a.engine) (flow_of b.engine) events first.left second.mid (flow_of second.last) more second.left;
    stops = λ told r history begun run.
        subst (λ xs. StoppedWith a.log.honest r xs begun c.steps s) (append_assoc history events more)
        (subst (λ h. StoppedWith h r ((history ++ events) ++ more) begun c.steps s) keeps.later.honest
        (second.stops told r (history ++ events) begun (first.runs r history begun run)));
    cause = stop_map (CameTo b.log c.log b.engine s) (CameTo a.log c.log a.engine s) b.log c.log a.log c.log b.faults c.faults a.faults c.faults s
        (rose_later 1 a.faults b.faults c.faults keeps.faults) (λ queues e. page-since queues a.log b.log c.log e keeps.later)
        (λ e came. came_then a.log b.log c.log a.engine b.engine e s keeps.later events first.left first.left_on keeps.network came) second.cause;
  }

  -- what they showed is lost on its way out
  pub fails_lost : (before now : ℕ) (s : Status) → IsLost before now s → FailsOn n a b events s
  fails_lost before now s lost = record {
    mid = known b.log;
    tells = λ told. told;
    last = b.engine;
    there = first.there;
    left = first.left;
    stops = λ told r history begun run.
        let on = first.runs r history begun run in
        record {
          first = begins_run r (known b.log) b.engine (history ++ events) begun b.steps on told;
          work = (shown-so-far b.engine r (known b.log) (history ++ events) begun b.steps told on).work;
          unchanged = λ is-honest. lost_unchanged before now s lost;
          garbled = lost_garbled before now s lost;
          too_much = not_too_much (2 ^ 62 ≤ turns_in r) before now s lost;
        };
    cause = lost_stop (CameTo a.log b.log a.engine s) a.log b.log a.faults b.faults before now s lost;
  }

-- one step, of an engine that showed nothing before it
module _ (a b : RunState) (cleared shown : List Event) (none : cleared ≡ []) where
  run_here : (r : Replay) (history : List Event) (begun : ℕ) → IsRun r (known a.log) a.engine history begun a.steps → IsRun r (known a.log) a.engine (history ++ cleared) begun a.steps
  run_here r history begun run = subst (λ xs. IsRun r (known a.log) a.engine xs begun a.steps) (sym (ap (λ xs. history ++ xs) none ∙ append-nil history)) run

  pub goes_here : IsDrivable (known a.log) a.engine → (pick : Pick) (p : Progress) → RunsOn pick (stage_at a cleared) (stage_at b shown) a.engine b.engine p → GoesOn a.engine.network a b shown
  goes_here can pick p on = record {
    there = on.shows (subst (AllByRecursion (IsEventAt a.engine.network)) (sym none) tt);
    left = subst (λ xs. Stepped actors (known a.log) (known b.log) (flow_of a.engine) (flow_of b.engine) xs shown) none on.step.train.moves.stepped;
    left_on = λ tails fits.
        subst (λ xs. Stepped actors (known a.log) (known b.log) (with_tails tails (flow_of a.engine)) (with_tails tails (flow_of b.engine)) xs shown) none (on.step.train.moves.on tails fits);
    runs = λ r history begun run. on.run r history begun (run_here r history begun run);
    sound = on.sound;
    known = λ source. ap (λ (v : Vec (Option ℕ) Global). more_from (slice_get v.items source)) on.step.train.moves.stepped.ahead ∙ can.known source;
  }

  -- it failed
  module _ (e : RunErr) (failed : RunFails (stage_at a cleared) (stage_at b shown) a.engine b.engine e) (keeps : KeepsRun a b) (can : IsDrivable (known a.log) a.engine) where
    step_stops : Tells (known b.log) → (r : Replay) (history : List Event) (begun : ℕ) → IsRun r (known a.log) a.engine history begun a.steps
        → StoppedWith a.log.honest r (history ++ []) begun b.steps (status_of e)
    step_stops told r history begun run =
        let halt = failed.stopped told r history begun (run_here r history begun run) in
        record {
          first = subst (BeginsAnswer r.network (answer_in r)) (sym (append-nil history)) (begins_run r (known a.log) a.engine history begun a.steps run (keeps.later.known told));
          work = halt.so_far.work;
          unchanged = step_unchanged a.log.honest e halt.named;
          garbled = step_garbled a.log.honest e halt.named;
          too_much = λ much. halt.turns (step_much e much);
        }

    pub fails_here : FailsOn a.engine.network a b [] (status_of e)
    fails_here = record {
      mid = known a.log;
      tells = keeps.later.known;
      last = a.engine;
      there = tt;
      left = (goes_none a can).left;
      stops = step_stops;
      cause = step_cause (CameTo a.log b.log a.engine (status_of e)) b.engine a.log b.log a.faults b.faults e
          (came_at_once a.log b.log a.engine b.engine cleared none e keeps.network failed.step.feed) failed.failed failed.step.cause;
    }

-- the same before an audience
module _ {A O : Type 0} (m : Ghosts A O) where
  pub turns_none : (a : Moment A O) → CanTurn m a → TurnsOn m a.run.engine.network a a
  turns_none a can = record {
    events = [];
    goes = goes_none a.run can.engine;
    shown = λ from history was. subst (m.shown from a.audience a.out a.run.engine.network) (sym (append-nil history)) was;
    ready = can.audience;
  }

  module _ (n : Network) (a b : Moment A O) where
    pub turn_on : (events : List Event) → GoesOn n a.run b.run events
        → ((from : O) (history : List Event) → m.shown from a.audience a.out n history → m.shown from b.audience b.out n (history ++ events)) → m.ready b.audience n → TurnsOn m n a b
    turn_on events goes shown ready = record { events = events; goes = goes; shown = shown; ready = ready }

    -- what was shown is lost on its way out
    pub turn_lost : (events : List Event) → GoesOn n a.run b.run events → (s : Status)
        → LosesRest ((from : O) (history : List Event) → m.shown from a.audience a.out n history → m.begun from b.out n (history ++ events)) (m.faults a.out) (m.faults b.out) s → TurnFails m n a b s
    turn_lost events goes s loses = record {
      events = events;
      fails = fails_lost n a.run b.run events goes (m.faults a.out) (m.faults b.out) s loses.lost;
      begun = loses.begun;
      cut = lost_cut (m.faults a.out) (m.faults b.out) s loses.lost;
    }

    module _ (first : TurnsOn m n a b) (c : Moment A O) where
      pub turns_then : TurnsOn m n b c → TurnsOn m n a c
      turns_then second = record {
        events = first.events ++ second.events;
        goes = goes_then n a.run b.run first.events first.goes c.run second.events second.goes;
        shown = λ from history was. subst (m.shown from c.audience c.out n) (append_assoc history first.events second.events)
            (second.shown from (history ++ first.events) (first.shown from history was));
        ready = second.ready;
      }

      pub turns_fail : KeepsRun a.run b.run → m.faults a.out ≤ m.faults b.out → (s : Status) → TurnFails m n b c s → TurnFails m n a c s
      turns_fail keeps later s second = record {
        events = first.events ++ second.events;
        fails = fails_then n a.run b.run first.events first.goes keeps c.run second.events s second.fails;
        begun = λ from history was. subst (m.begun from c.out n) (append_assoc history first.events second.events)
            (second.begun from (history ++ first.events) (first.shown from history was));
        cut = cut_later (m.faults a.out) (m.faults b.out) (m.faults c.out) s later second.cut;
      }

  -- the engine failed, and nothing was shown
  pub turn_fails : (n : Network) (a : Moment A O) (b : RunState) (e : RunErr) → FailsOn n a.run b [] (status_of e)
      → ((from : O) (history : List Event) → m.shown from a.audience a.out n history → m.begun from a.out n history) → (s : Status) → s ≡ status_of e → TurnFails m n a (record a { run = b }) s
  turn_fails n a b e fails begins s is = subst (TurnFails m n a (record a { run = b })) (sym is) (record {
    events = [];
    fails = fails;
    begun = λ from history was. subst (m.begun from a.out n) (sym (append-nil history)) (begins from history was);
    cut = step_cut (m.faults a.out) (m.faults a.out) e;
  })
