use Rattle.std.proofs.Common.{◌≡◌, true, ◌+◌, ap, le_refl, sym, ◌∙◌}
use Rattle.std.proofs.lemmas.Result.{err_from_is_err_and}
use Rattle.sq_pool.specs.Trust.{known}
use Rattle.sq_pool.proofs.TrustLemmas.{IsLater-refl}
use Rattle.sq_flow.specs.Sources.{is_clear}
use Rattle.sq_flow.proofs.TailLemmas.{all-closed, clear-unwanted}
use Rattle.sq_flow.proofs.flow.Flow.replay_step.Goals as goal
use Rattle.sq_flow.proofs.flow.Flow.replay_step.Goals.{else-look-via-then-look+else-not-is_clear, else-look-via-else-look}
use Rattle.sq_words.proofs.Prefixes.{prefix_itself}

pub returns-in-None-clause-ok : goal.returns-in-None-clause-ok
returns-in-None-clause-ok g c =
    let end = c.end_step.ensures in
    λ n. record {
      step =
          record {
            moves = record {
              stepped = end.stepped (known (g.D.PageDisk.log c.args.disk.now)) c.args.events.now.items c.requires.may.holds.together;
              on = λ tails fits. end.on tails fits (known (g.D.PageDisk.log c.args.disk.now)) c.args.events.now.items c.requires.may.holds.together;
              keeps = record { faults = le_refl _; later = IsLater-refl _; stay = prefix_itself _ };
              touches = end.touches;
              cost = ap (λ k. n + k) (sym end.taken);
            };
            lowers = end.lowers;
            took = end.took;
            waits = tt;
          };
      whole = c.requires.may.whole;
    }

pub returns-in_err-release_step-in-Some-clause-err : goal.returns-in_err-release_step-in-Some-clause-err
returns-in_err-release_step-in-Some-clause-err g c =
    let p = err_from_is_err_and c.from_residual.result c.from_residual.ensures.1 in rw (p.1, p.2) c.in_err-release_step-in-Some.ensures.err

pub end_step-requires-clause-closed : goal.end_step-requires-clause-closed
end_step-requires-clause-closed g c =
    let sources = c.args.self.now.sources.items in
    let ahead = c.args.self.now.ahead.items in
    let clear : is_clear sources ahead ≡ true = elim c.else-look.branch [
      | else-look-via-then-look+else-not-is_clear w ↦ sym w.is_clear.ensures ∙ w.if-not-is_clear.false
      | else-look-via-else-look w ↦ clear-unwanted sources ahead (sym c.look_at_sources-look.ensures.wanted ∙ w.if-look.false)
    ] in
    all-closed sources ahead clear c.requires.may.holds.flow.replay.told (c.look_at_sources-look.ensures.none c.in-None.is)

pub release_step-requires-clause-clear : goal.release_step-requires-clause-clear
release_step-requires-clause-clear g c =
    elim c.else-look.branch [
      | else-look-via-then-look+else-not-is_clear w ↦ sym w.is_clear.ensures ∙ w.if-not-is_clear.false
      | else-look-via-else-look w ↦ clear-unwanted c.args.self.now.sources.items c.args.self.now.ahead.items (sym c.look_at_sources-look.ensures.wanted ∙ w.if-look.false)
    ]
