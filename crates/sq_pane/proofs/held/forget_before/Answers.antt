use Rattle.std.proofs.Common.{◌≡◌, ◌∙◌, refl, sym, ap, subst, Bool, List, drop, rules}
use Rattle.sq_value.specs.declared.Value.{Value}
use Rattle.sq_groups.proofs.OrderLemmas.{keeps_from, kept_in_order}
use Rattle.sq_pane.specs.declared.line.Line.{Line}
use Rattle.sq_pane.specs.Blocks.{IsJoin, AreBlocks}
use Rattle.sq_pane.specs.Panes.{from_pane}
use Rattle.sq_pane.specs.States.{states_of, HaveBlocks}
use Rattle.sq_pane.proofs.StateLemmas.{IsKept, states_kept, lines_kept}
use Rattle.sq_pane.proofs.held.forget_before.Goals as goal

pub returns-clause-states : goal.returns-clause-states
returns-clause-states g c =
    let pane = c.args.pane in
    let r = c.retain.ensures.kept in
    let kept = keeps_from (IsKept pane) _ (λ f. f.1.now ≡ pane) (λ f k v b w f' i t. ((search rules, search rules), search rules)) _ r.0 r.1 refl r.5 in
    ap states_of r.3 ∙ states_kept pane _ _ (kept_in_order (IsKept pane) r.0 r.1 r.4 kept) ∙ ap (λ ls. from_pane pane (states_of ls)) (sym r.2)

pub returns-clause-blocks : goal.returns-clause-blocks
returns-clause-blocks g c =
    let fold = c.args.fold.now in
    let join = IsJoin (g.F.Fold.none fold) (g.F.Fold.joined fold) (g.F.Fold.made fold) (g.F.Fold.number fold) in
    let r = c.retain.ensures.kept in
    let stays = λ (k : List Value) (v : Line g.row.F-State.Denot) (b : Bool) (w : Line g.row.F-State.Denot).
    AreBlocks 64 join v.blocks.items (drop v.ahead v.states.items) → AreBlocks 64 join w.blocks.items (drop w.ahead w.states.items) in
    let kept = keeps_from stays _ (λ f. f.0.now ≡ fold) (λ f k v b w f' i t. (search rules, search rules)) _ r.0 r.1 refl r.5 in
    λ all.
    subst (HaveBlocks join) (sym r.3)
    (lines_kept (λ l. AreBlocks 64 join l.blocks.items (drop l.ahead l.states.items)) _ _ (kept_in_order stays r.0 r.1 r.4 kept) (subst (HaveBlocks join) r.2 all))
