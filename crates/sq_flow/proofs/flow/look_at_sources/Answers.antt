use Rattle.std.proofs.Common.{◌≡◌, ℕ, ◌<◌, ◌||◌, not, length, Option, None, refl, ap, sym, ◌∙◌, arith}
use Rattle.std.specs.Prelude.{is_some, slice_get}
use Rattle.std.proofs.lemmas.Option.{slice_get_read}
use Rattle.std.proofs.Math.Bool.{or-false}
use Rattle.sq_replay.specs.RecordedTuples.{first_recorded}
use Rattle.sq_flow.specs.Flows.{tuples_to_come, more_from}
use Rattle.sq_flow.specs.Sources.{none_known, is_wanted}
use Rattle.sq_flow.proofs.ClearLemmas.{some-more}
use Rattle.sq_flow.proofs.SourceLemmas.{none-of, best-past, best-stays, best-first, best-new, best-none, best-some}
use Rattle.sq_flow.proofs.flow.look_at_sources.Goals as goal
use Rattle.sq_flow.proofs.flow.look_at_sources.Goals.{in-Some+then-is_none, then-is_none-via-then-is_none, then-is_none-via-else-is_none+then-time-least, in-Some+else-is_none+else-time-least, in-None+then-wanted, in-None+else-wanted}

pub loop-source-preserved : goal.loop-source-preserved
loop-source-preserved c =
    let i = c.loop-source.source in
    let sources = c.args.sources.now.items in
    let ahead = c.args.ahead.now.items in
    let best = c.loop-source.invariant.best in
    let low : i < length sources = omega (arith, c.loop-source-test.true, c.len-source-end.ensures, c.args.sources.now.ok.0) in
    let at = ap tuples_to_come (slice_get_read sources _ i c.index.result.now refl low c.index.ensures) in
    let begins = ap first_recorded at ∙ sym c.time.ensures in
    let with_known = λ (o : Option ℕ) (is : first_recorded (tuples_to_come (slice_get sources i)) ≡ o). ap (λ k. c.loop-source.wanted || none_known k (more_from (slice_get ahead i))) is in
    record {
      best =
          elim c.match-time.branch [
            | in-Some+then-is_none w ↦
                rw (w.next-is, w.least-is)
                (elim w.then-is_none.branch [
                  | then-is_none-via-then-is_none w' ↦ best-first sources i c.loop-source.least c.loop-source.next _ (begins ∙ w.in-Some.is) (w.is_none.ensures ∙ ap not w'.if-is_none.true) best
                  | then-is_none-via-else-is_none+then-time-least w' ↦ best-new sources i c.loop-source.least c.loop-source.next _ (begins ∙ w.in-Some.is) w'.if-time-least.true best
                ])
            | in-Some+else-is_none+else-time-least w ↦
                rw (w.next-is, w.least-is)
                (best-stays sources i c.loop-source.least c.loop-source.next _ (begins ∙ w.in-Some.is) (w.is_none.ensures ∙ ap not w.if-is_none.false) w.if-time-least.false best)
            | in-None+then-wanted w ↦
                rw (w.next-is, w.least-is) (best-past sources i c.loop-source.least c.loop-source.next (at ∙ none-of c.index.result.now.items (sym c.time.ensures ∙ w.in-None.is)) best)
            | in-None+else-wanted w ↦
                rw (w.next-is, w.least-is) (best-past sources i c.loop-source.least c.loop-source.next (at ∙ none-of c.index.result.now.items (sym c.time.ensures ∙ w.in-None.is)) best)
          ];
      wanted =
          some-more (is_wanted sources ahead) i c.loop-source.wanted c.match-time.wanted c.loop-source.invariant.wanted
          (elim c.match-time.branch [
            | in-Some+then-is_none w ↦ w.wanted-is ∙ sym (with_known _ (begins ∙ w.in-Some.is) ∙ or-false c.loop-source.wanted)
            | in-Some+else-is_none+else-time-least w ↦ w.wanted-is ∙ sym (with_known _ (begins ∙ w.in-Some.is) ∙ or-false c.loop-source.wanted)
            | in-None+then-wanted w ↦ w.wanted-is ∙ w.if-wanted.true ∙ sym (ap (λ b. b || is_wanted sources ahead i) w.if-wanted.true)
            | in-None+else-wanted w ↦
                let within : i < length ahead = omega (arith, low, c.requires.told) in
                let from = slice_get_read ahead _ i w.index-else-wanted.result.now refl within w.index-else-wanted.ensures in
                w.wanted-is ∙ w.is_some-wanted.ensures
                ∙ sym (with_known _ (begins ∙ w.in-None.is) ∙ ap (λ b. b || none_known None (more_from (slice_get ahead i))) w.if-wanted.false ∙ ap (λ o. is_some (more_from o)) from)
          ]);
    }

pub returns-clause-none : goal.returns-clause-none
returns-clause-none c = best-none c.args.sources.now.items c.loop-source.source c.loop-source.least c.loop-source.next (omega (arith, c.loop-source-test.false, c.len-source-end.ensures, c.args.sources.now.ok.0)) c.loop-source.invariant.best

pub returns-clause-some : goal.returns-clause-some
returns-clause-some c =
    best-some c.args.sources.now.items c.loop-source.source c.loop-source.least c.loop-source.next
    (omega (arith, c.loop-source-test.false, c.len-source-end.ensures, c.args.sources.now.ok.0)) (omega (arith, c.loop-source.auto.source-end, c.len-source-end.ensures, c.args.sources.now.ok.0)) c.loop-source.invariant.best
