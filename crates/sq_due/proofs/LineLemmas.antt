-- The lines of a history, written piece by piece behind those that were written before.
use Rattle.std.proofs.Common.{◌≡◌, ℕ, List, [], ◌++◌, ap, sym, ◌∙◌, subst, append-nil, Option}
use Rattle.std.proofs.lemmas.Grind.{flat_map-append}
use Rattle.sq_lines.specs.RunLines.{event_line}
use Rattle.sq_outside.specs.Sinks.{AppendsPrefix, appended}
use Rattle.sq_net.specs.declared.Network.{Network}
use Rattle.sq_oper.specs.declared.outs.Event.{Event}
use Rattle.sq_due.specs.Histories.{history_text}
use Rattle.sq_due.specs.Writing.{Moves}
use Rattle.sq_due.proofs.WritingLemmas.{moves-lost, moves-then}

module _ (n : Network) (from mid now : Option (List ℕ)) (waits : List ℕ) (before : List Event) (was : Moves from [] mid waits (history_text n before)) where
  pub shown_then : (rest : List ℕ) (events : List Event) → Moves mid waits now rest (history_text n events) → Moves from [] now rest (history_text n (before ++ events))
  shown_then rest events more =
      subst (Moves from [] now rest) (sym (flat_map-append (event_line n) before events)) (moves-then from mid now [] waits rest (history_text n before) (history_text n events) was more)

  pub shown_lost : (events : List Event) → AppendsPrefix mid now (waits ++ history_text n events) → AppendsPrefix from now (history_text n (before ++ events))
  shown_lost events written =
      subst (AppendsPrefix from now) (sym (flat_map-append (event_line n) before events)) (moves-lost from mid now [] waits (history_text n before) (history_text n events) was written)

  -- what waited was written
  pub all_written : (rest : List ℕ) → Moves mid waits now rest [] → rest ≡ [] → now ≡ appended from (history_text n before)
  all_written rest last none =
      let text = history_text n before in
      let both = moves-then from mid now [] waits rest text [] was last in
      both.now_is ∙ ap (appended from) (sym (append-nil both.part) ∙ ap (λ xs. both.part ++ xs) (sym none) ∙ both.all ∙ append-nil text)

  -- or a beginning of it
  pub last_lost : AppendsPrefix mid now waits → AppendsPrefix from now (history_text n before)
  last_lost written =
      let text = history_text n before in
      subst (AppendsPrefix from now) (append-nil text) (moves-lost from mid now [] waits text [] was (subst (AppendsPrefix mid now) (sym (append-nil waits)) written))
