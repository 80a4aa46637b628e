-- How an engine came to fail, step by step.
use Rattle.std.proofs.Common.{◌≡◌, List, [], ◌++◌, refl, ◌∙◌, subst}
use Rattle.sq_outside.specs.Disks.{DiskLog}
use Rattle.sq_oper.specs.declared.outs.Event.{Event}
use Rattle.sq_pool.specs.Trust.{IsLater, known}
use Rattle.sq_pool.proofs.TrustLemmas.{IsLater-trans}
use Rattle.sq_flow.specs.declared.errors.RunErr.{RunErr}
use Rattle.sq_flow.specs.Flows.{Stepped}
use Rattle.sq_flow.specs.Stepping.{FailsAt}
use Rattle.sq_flow.specs.Tails.{Whatever, with_tails}
use Rattle.sq_core.specs.declared.engine.Engine.{Engine}
use Rattle.sq_core.specs.Meanings.{actors}
use Rattle.sq_core.specs.Runs.{flow_of}
use Rattle.sq_core.proofs.RunLemmas.{fits-after}
use Rattle.sq_status.specs.declared.Status.{Status}
use Rattle.sq_drive.specs.Stopping.{status_of}
use Rattle.sq_drive.specs.Failing.{CameTo}
use Rattle.sq_drive.proofs.LeftLemmas.{stepped_then}

-- by one step, of an engine that showed nothing before it
pub came_at_once : (was is : DiskLog) (from to : Engine) (cleared : List Event) → cleared ≡ [] → (e : RunErr) → to.network ≡ from.network
    → FailsAt actors was is (flow_of from) (flow_of to) cleared e → CameTo was is from (status_of e) to
came_at_once was is from to cleared none e same fails = record {
  network = same;
  error = e;
  named = refl;
  fails = subst (λ xs. FailsAt actors was is (flow_of from) (flow_of to) xs e) none fails;
}

-- it fails after it went on
pub came_then : (was mid is : DiskLog) (from via to : Engine) (s : Status) → IsLater was mid → (shown : List Event)
    → Stepped actors (known was) (known mid) (flow_of from) (flow_of via) [] shown
    → Whatever actors (flow_of from) (λ tails. Stepped actors (known was) (known mid) (with_tails tails (flow_of from)) (with_tails tails (flow_of via)) [] shown)
    → via.network ≡ from.network → CameTo mid is via s to → CameTo was is from s to
came_then was mid is from via to s later shown went went_on same came =
    let f = came.fails in
    record {
      network = came.network ∙ same;
      error = came.error;
      named = came.named;
      fails = record {
        before = f.before;
        mid = f.mid;
        shown = shown ++ f.shown;
        stepped = stepped_then (known was) (known mid) (flow_of from) (flow_of via) shown went (known f.mid) f.before f.shown f.stepped;
        on = λ tails fits.
            let first = went_on tails fits in
            let fits_via = fits-after (known was) (known mid) (flow_of from) (flow_of via) [] shown went tails fits first in
            stepped_then (known was) (known mid) (with_tails tails (flow_of from)) (with_tails tails (flow_of via)) shown first (known f.mid) (with_tails tails f.before) f.shown (f.on tails fits_via);
        later = IsLater-trans was mid f.mid later f.later;
        last = f.last;
        feed = f.feed;
      };
    }
