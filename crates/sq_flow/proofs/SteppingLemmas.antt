-- A step, and a train as one step after another.
use Rattle.std.proofs.Common.{◌≡◌, ◌≢◌, ℕ, ◌+◌, ◌≤◌, true, false, le_refl, le_trans, refl, subst, sym, arith, inl, inr}
use Rattle.std.specs.Prelude.{List, Vec, Option, Result, Ok, Err, IfOk, IfErr, slice_get}
use Rattle.std.specs.declared.alloc.Global.{Global}
use Rattle.sq_outside.specs.Disks.{DiskLog}
use Rattle.sq_road.specs.Levels.{AgreesWith}
use Rattle.sq_oper.specs.declared.operator.Operator.{Ghosts}
use Rattle.sq_oper.specs.declared.outs.Event.{Event}
use Rattle.sq_pool.specs.Trust.{IsLater, Tells, known}
use Rattle.sq_pool.proofs.TrustLemmas.{IsLater-refl, IsLater-trans}
use Rattle.sq_queue.specs.Faces.{Together}
use Rattle.sq_replay.specs.RecordedTuples.{Recorded}
use Rattle.sq_words.proofs.Prefixes.{prefix_along, prefix_itself}
use Rattle.sq_flow.specs.declared.flow.Flow.{Flow}
use Rattle.sq_flow.specs.declared.flow.Did.{Did}
use Rattle.sq_flow.specs.declared.flow.Did.TheVariants.{Waits, Fed, Finished}
use Rattle.sq_flow.specs.declared.errors.RunErr.{RunErr}
use Rattle.sq_flow.specs.declared.errors.RunErr.TheVariants.{TooMuch}
use Rattle.sq_flow.specs.Causes.{IsFeedCause, IsCauseIn}
use Rattle.sq_flow.specs.Takes.{NotChanged}
use Rattle.sq_flow.specs.Events.{lines_of, drops_of}
use Rattle.sq_flow.specs.Flows.{IsFlow, Stepped, ShowsPrefix, NoneStrange, CostsFed, TooMuchOnly, measure_of}
use Rattle.sq_flow.specs.Plans.{PlansPrefix, plans_of}
use Rattle.sq_flow.specs.Tails.{Tails, AreTails, Whatever, Fits, joined_in, closed_in, with_tails}
use Rattle.sq_flow.specs.Readiness.{IsReady, Took}
use Rattle.sq_flow.specs.Seats.{done_at}
use Rattle.sq_flow.specs.Stepping.{Stage, stage_on, Remains, StepsTo, Proceeds, MayStep, StepOk, StepWhole, TrainOk, FailsAt, FallsShort, StepErr}
use Rattle.sq_flow.proofs.FedFlow.{costs-none}
use Rattle.sq_flow.proofs.ReleasedPlans.{plans-stay}
use Rattle.sq_flow.proofs.ReplayFlow.{lines-stay}
use Rattle.sq_flow.proofs.StepLemmas.{stepped-none, stepped-both, prefix-after, plans-after, none-strange-after, costs-after, costs-most-after, too-much-after}
use Rattle.sq_flow.proofs.CauseLemmas.{cause-since, none-too-much}
use Rattle.sq_flow.proofs.TouchLemmas.{touches-none, touches-both}
use Rattle.sq_flow.proofs.TookLemmas.{took-both, took-last}

keeps-none : {O : Type 0} (a : Stage O) → Remains a a
keeps-none a = record { faults = le_refl _; later = IsLater-refl _; stay = prefix_itself a.events }

keeps-both : {O : Type 0} (a b c : Stage O) → Remains a b → Remains b c → Remains a c
keeps-both a b c p q = record { faults = le_trans p.faults q.faults; later = IsLater-trans _ _ _ p.later q.later; stay = prefix_along _ _ _ p.stay q.stay }

-- a train between two steps, each of which fed
pub record Underway {O : Type 0} (m : Ghosts O) (actor fed : ℕ) (a b : Stage O) : Type 0 where
  pub moves : Proceeds m actor a b
  pub falls : measure_of b.flow + fed ≤ measure_of a.flow
  pub begun : fed ≡ 0 → b.flow ≡ a.flow
  pub took : done_at a.flow.over (slice_get a.flow.seats.items actor) ≡ false → Took actor fed false a.flow b.flow

-- what holds of a value holds of what comes of it
if-ok : {T E : Type 0} (r : Result T E) (P Q : T → Type 0) → ((x : T) → P x → Q x) → IfOk r P → IfOk r Q
if-ok (Ok x) P Q from h = from x h
if-ok (Err e) P Q from h = tt

if-err : {T E : Type 0} (r : Result T E) (P Q : E → Type 0) → ((e : E) → P e → Q e) → IfErr r P → IfErr r Q
if-err (Ok x) P Q from h = tt
if-err (Err e) P Q from h = from e h

-- a step that takes no steps' count takes it at any
module _ {O : Type 0} (m : Ghosts O) (n : ℕ) (failed : Option RunErr) (before after : ℕ → Stage O) where
  pub ok-at : (place actor : ℕ) (r : Result Did RunErr) → place ≡ actor → IfOk r (λ did. (k : ℕ) → StepWhole m place did (before k) (after k) failed)
      → IfOk r (λ did. StepWhole m actor did (before n) (after n) failed)
  ok-at place actor r same h = if-ok r _ _ (λ did told. subst (λ a. StepWhole m a did (before n) (after n) failed) same (told n)) h

  pub err-at : (r : Result Did RunErr) → IfErr r (λ e. (k : ℕ) → StepErr m (before k) (after k) e) → IfErr r (StepErr m (before n) (after n))
  err-at r h = if-err r _ _ (λ e told. told n) h

-- the flow with other sources
abbrev pub sourced : {O : Type 0} → Flow O → Vec Recorded Global → Vec (Option ℕ) Global → Flow O
sourced f sources ahead = record f { sources = sources; ahead = ahead }

module _ {O : Type 0} (m : Ghosts O) where
  -- what may come before a step may come behind it
  pub fits-after : (f f1 : Flow O) (tails : Tails) → f1.ahead ≡ f.ahead → IsFlow m (with_tails tails f1) → Fits m tails f → Fits m tails f1
  fits-after f f1 tails same keeps fits = record { may = subst (λ (ahead : Vec (Option ℕ) Global). AreTails ahead.items tails) (sym same) fits.may; keeps = keeps }

  -- a step that failed was the first
  pub fails-here : (was is : DiskLog) (f f' : Flow O) (events : List Event) (e : RunErr) → IsFlow m f → Together f.queues (known was) → IsLater was is
      → IsFeedCause f f' was is e → FailsAt m was is f f' events e
  fails-here was is f f' events e flow together later cause =
      record {
        before = f;
        mid = was;
        shown = events;
        stepped = stepped-none m (known was) f events flow together;
        on = λ tails fits. stepped-none m (known was) (with_tails tails f) events fits.keeps together;
        later = IsLater-refl was;
        last = later;
        feed = cause;
      }

  -- a step that failed before it fed anything, and showed no tuple and no decision
  pub short-silent : (a b : Stage O) (e : RunErr) → IsFlow m a.flow → b.steps ≡ a.steps → ((o : ℕ) → lines_of o b.events ≡ lines_of o a.events) → ((w : ℕ) → drops_of w b.events ≡ drops_of w a.events)
      → PlansPrefix a.flow b.flow.levels a.events b.events → (Tells (known b.log) → NotChanged a.log.honest e) → e ≢ TooMuch → FallsShort m a b e
  short-silent a b e flow steps lines drops plans strange counts =
      record {
        prefix = lines-stay m (known a.log) (known b.log) a.flow b.flow.levels a.events b.events lines drops;
        plans = plans;
        strange = λ told table agrees holds. strange told;
        cost = costs-none m a.flow flow (known a.log) (known b.log) b.flow.levels a.steps b.steps steps;
        too_much = none-too-much m (known a.log) (known b.log) a.flow b.flow e counts;
      }

  -- a step of an operator that failed before it fed anything: it touches no source, and closes no level
  pub err-unfed : (a b : Stage O) (e : RunErr) → IsFlow m a.flow → Remains a b → b.flow.levels ≡ a.flow.levels → b.steps ≡ a.steps → plans_of b.events ≡ plans_of a.events
      → ((sources : Vec Recorded Global) (ahead : Vec (Option ℕ) Global) → IsFlow m (sourced a.flow sources ahead) → ShowsPrefix m (known a.log) (known b.log) (sourced a.flow sources ahead) a.flow.levels a.events b.events)
      → ((sources : Vec Recorded Global) (ahead : Vec (Option ℕ) Global) → IsFlow m (sourced a.flow sources ahead) → NoneStrange m a.log.honest (known a.log) (known b.log) (sourced a.flow sources ahead) a.flow.levels e)
      → ((sources sources' : Vec Recorded Global) (ahead ahead' : Vec (Option ℕ) Global) → IsFlow m (sourced a.flow sources ahead) → TooMuchOnly m (known a.log) (known b.log) (sourced a.flow sources ahead) (sourced b.flow sources' ahead') e)
      → IsCauseIn b.flow a.log b.log a.faults b.faults e → FailsAt m a.log b.log a.flow b.flow a.events e → StepErr m a b e
  err-unfed a b e flow keeps levels steps plans prefix strange too_much cause feed =
      record {
        keeps = keeps;
        closes = λ table agrees. rw (sym levels) agrees;
        short = short a.flow.sources b.flow.sources a.flow.ahead b.flow.ahead flow;
        on = λ tails fits. short (joined_in tails a.flow.sources) (joined_in tails b.flow.sources) (closed_in a.flow.ahead) (closed_in b.flow.ahead) fits.keeps;
        cause = cause;
        feed = feed;
      }
    where
      short : (sources sources' : Vec Recorded Global) (ahead ahead' : Vec (Option ℕ) Global) → IsFlow m (sourced a.flow sources ahead)
          → FallsShort m (record a { flow = sourced a.flow sources ahead }) (record b { flow = sourced b.flow sources' ahead' }) e
      short sources sources' ahead ahead' sound =
          record {
            prefix = rw levels (prefix sources ahead sound);
            plans = subst (λ l. PlansPrefix (sourced a.flow sources ahead) l a.events b.events) (sym levels) (plans-stay (sourced a.flow sources ahead) a.events b.events plans);
            strange = rw levels (strange sources ahead sound);
            cost = costs-none m (sourced a.flow sources ahead) sound (known a.log) (known b.log) b.flow.levels a.steps b.steps steps;
            too_much = too_much sources sources' ahead ahead' sound;
          }

  -- nothing was done
  pub moves-none : (actor : ℕ) (a : Stage O) → IsFlow m a.flow → Together a.flow.queues (known a.log) → Proceeds m actor a a
  moves-none actor a flow together =
      record {
        stepped = stepped-none m (known a.log) a.flow a.events flow together;
        on = λ tails fits. stepped-none m (known a.log) (with_tails tails a.flow) a.events fits.keeps together;
        keeps = keeps-none a;
        touches = touches-none actor a.flow;
        cost = refl;
      }

  pub step-waits : (actor : ℕ) (a : Stage O) (failed : Option RunErr) → MayStep m a.flow (known a.log) failed → (IsReady a.flow actor → ⊥) → StepWhole m actor Waits a a failed
  step-waits actor a failed may waits =
      record { step = record { moves = moves-none actor a may.holds.flow may.holds.together; lowers = refl; took = tt; waits = (waits, refl) }; whole = may.whole }

  -- what holds whatever comes behind a step holds whatever came before it
  pub after-step : (actor : ℕ) (a b : Stage O) → Proceeds m actor a b → (P : Tails → Type 0) → ((tails : Tails) → StepsTo m (stage_on tails a) (stage_on tails b) → Fits m tails b.flow → P tails) → Whatever m a.flow P
  after-step actor a b p P then tails fits = let first = p.on tails fits in then tails first (fits-after a.flow b.flow tails p.stepped.ahead first.flow_after fits)

  pub moves-both : (actor : ℕ) (a b c : Stage O) → Proceeds m actor a b → Proceeds m actor b c → Proceeds m actor a c
  moves-both actor a b c p q =
      record {
        stepped = stepped-both m _ _ _ _ _ _ p.stepped _ _ _ q.stepped;
        on = after-step actor a b p (λ tails. StepsTo m (stage_on tails a) (stage_on tails c)) (λ tails first fits. stepped-both m _ _ _ _ _ _ first _ _ _ (q.on tails fits));
        keeps = keeps-both a b c p.keeps q.keeps;
        touches = touches-both actor a.flow b.flow c.flow p.stepped.wires p.stepped.seats p.touches q.touches;
        cost = costs-after m _ _ _ _ _ _ p.stepped c.flow a.steps b.steps c.steps p.cost q.cost;
      }

  short-after : (a b c : Stage O) (e : RunErr) → Remains a b → Remains b c → ((table : ℕ → ℕ → ℕ) → AgreesWith c.flow.levels table → AgreesWith b.flow.levels table)
      → StepsTo m a b → CostsFed m a.flow b.flow a.steps b.steps → FallsShort m b c e → FallsShort m a c e
  short-after a b c e before keeps closes first cost q =
      let tells = keeps.later.known in
      record {
        prefix = prefix-after m _ _ _ _ _ _ first (known c.log) c.flow.levels c.events tells closes q.prefix;
        plans = plans-after m _ _ _ _ _ _ first c.flow.levels c.events q.plans;
        strange = none-strange-after m _ _ _ _ _ _ first a.log.honest b.log.honest (known c.log) c.flow.levels e before.later.honest tells closes q.strange;
        cost = costs-most-after m _ _ _ _ _ _ first (known c.log) c.flow.levels a.steps b.steps c.steps tells closes cost q.cost;
        too_much = too-much-after m _ _ _ _ _ _ first (known c.log) c.flow e tells closes q.too_much;
      }

  pub err-after : (actor : ℕ) (a b c : Stage O) (e : RunErr) → Proceeds m actor a b → StepErr m b c e → StepErr m a c e
  err-after actor a b c e p q =
      record {
        keeps = keeps-both a b c p.keeps q.keeps;
        closes = λ table agrees. p.stepped.closes table (q.closes table agrees);
        short = short-after a b c e p.keeps q.keeps q.closes p.stepped p.cost q.short;
        on = after-step actor a b p (λ tails. FallsShort m (stage_on tails a) (stage_on tails c) e)
            (λ tails first fits. short-after (stage_on tails a) (stage_on tails b) (stage_on tails c) e (remains-on tails a b p.keeps) (remains-on tails b c q.keeps) q.closes first p.cost (q.on tails fits));
        cause = cause-since c.flow a.log b.log c.log a.faults b.faults c.faults e p.keeps.later p.keeps.faults q.cause;
        feed = record {
          before = q.feed.before;
          mid = q.feed.mid;
          shown = q.feed.shown;
          stepped = stepped-both m _ _ _ _ _ _ p.stepped _ _ _ q.feed.stepped;
          on = after-step actor a b p (λ tails. Stepped m (known a.log) (known q.feed.mid) (with_tails tails a.flow) (with_tails tails q.feed.before) a.events q.feed.shown)
              (λ tails first fits. stepped-both m _ _ _ _ _ _ first _ _ _ (q.feed.on tails fits));
          later = IsLater-trans _ _ _ p.keeps.later q.feed.later;
          last = q.feed.last;
          feed = q.feed.feed;
        };
      }
    where
      remains-on : (tails : Tails) (x y : Stage O) → Remains x y → Remains (stage_on tails x) (stage_on tails y)
      remains-on tails x y h = record { faults = h.faults; later = h.later; stay = h.stay }

  module _ (actor fed train : ℕ) (a b : Stage O) (under : Underway m actor fed a b) where
    pub train-whole : fed ≡ train → 1 ≤ train → TrainOk m actor train a b (record { fed = fed; finished = false })
    train-whole all some =
        let falls = under.falls in
        record {
          moves = under.moves;
          falls = omega (arith, falls);
          took = under.took;
          most = omega (arith, all);
          works = λ ready none. absurd (omega (arith, none, all, some));
          stops = inl all;
        }

    module _ (c : Stage O) (did : Did) (step : StepOk m actor did b c) where
      pub train-waits : did ≡ Waits → fed ≤ train → TrainOk m actor train a c (record { fed = fed; finished = false })
      train-waits is few =
          let last = subst (λ d. StepOk m actor d b c) is step in
          let falls = under.falls in
          let less = last.lowers in
          record {
            moves = moves-both actor a b c under.moves last.moves;
            falls = omega (arith, falls, less);
            took = λ running. subst (Took actor fed false a.flow) (sym last.waits.1) (under.took running);
            most = few;
            works = λ ready none. absurd (last.waits.0 (subst (λ f. IsReady f actor) (sym (under.begun none)) ready));
            stops = inr (inr (λ ready. last.waits.0 (subst (λ f. IsReady f actor) last.waits.1 ready)));
          }

      pub train-finished : did ≡ Finished → fed ≤ train → TrainOk m actor train a c (record { fed = fed; finished = true })
      train-finished is few =
          let last = subst (λ d. StepOk m actor d b c) is step in
          let falls = under.falls in
          let less = last.lowers in
          record {
            moves = moves-both actor a b c under.moves last.moves;
            falls = omega (arith, falls, less);
            took = λ running. took-last actor a.flow b.flow c.flow fed false true (under.took running) last.took;
            most = few;
            works = λ ready none. refl;
            stops = inr (inl refl);
          }

      pub train-fed : did ≡ Fed → Underway m actor (fed + 1) a c
      train-fed is =
          let last = subst (λ d. StepOk m actor d b c) is step in
          let falls = under.falls in
          let less = last.lowers in
          record {
            moves = moves-both actor a b c under.moves last.moves;
            falls = omega (arith, falls, less);
            begun = λ none. absurd (omega (arith, none));
            took = λ running. took-both actor a.flow b.flow c.flow fed 1 false false (under.took running) last.took;
          }
