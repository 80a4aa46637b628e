use Rattle.std.proofs.Common.{◌≡◌, ℕ, ◌++◌, List, refl, rules, ap, ap₂, sym, subst, ◌∙◌}
use Rattle.sq_value.specs.declared.Tuple.{Tuple}
use Rattle.sq_oper.specs.Outflow.{given}
use Rattle.sq_oper.specs.Order.{time_of, unmarked}
use Rattle.sq_oper.proofs.FedLemmas.{time-after-item, no_body}
use Rattle.sq_oper.proofs.GivingLemmas.{keeps-some}
use Rattle.sq_oper.proofs.QuietFeeds.{quiet-fed, quiet-err}
use Rattle.sq_lists.specs.Sides.{AllNear}
use Rattle.sq_item.specs.Things.{Thing}
use Rattle.sq_oper.specs.Entries.{Entry}
use Rattle.sq_join.specs.declared.join.JoinBox.{JoinBox}
use Rattle.sq_join.specs.Sides.{join_rest, join_fits}
use Rattle.sq_join.proofs.JoinLemmas.{join_nil, fed_sound, fed_prefix, fed_law, fed_times, fed_left, fed_right, near_left, near_right}
use Rattle.sq_join.proofs.join.JoinBoxOperator.feed.Goals as goal

-- what it still gives, with these tuples held
abbrev rest : JoinBox → List Tuple → List Tuple → List Entry → ℕ → List Thing
rest b left right future q = join_rest b.size b.on.tree left right future q

pub take-requires-clause-sound : goal.take-requires-clause-sound
take-requires-clause-sound g c =
    let b = c.args.self.now in
    let v = c.requires.is_valid in
    rw (c.let_go.ensures.left, c.let_go.ensures.right)
    (fed_sound b.size b.on.tree b.on.scope b.sides.left.items b.sides.right.items b.tally.place c.args.port c.args.item c.in-Some.fields (sym c.get.ensures ∙ c.in-Some.is) c.requires.is_sound c.requires.may_come v.0 v.1)

pub returns-in_err-take : goal.returns-in_err-take
returns-in_err-take g c =
    let b = c.args.self.now in
    let v = c.requires.is_valid in
    let s = c.take.new.sides in
    let gave = c.in_err-take.ensures.gives in
    let began = rw (c.let_go.ensures.left, c.let_go.ensures.right) at gave.prefix in
    quiet-err g.T.Outlet c.args._levels.now c.args.port c.args.item _ _ b.tally c.note.new.self unmarked unmarked (join_fits b.on.scope) (join_fits b.on.scope)
    (rest b b.sides.left.items b.sides.right.items) (rest b s.left.items s.right.items) c.args.out.now c.take.new.out c.args.steps.now _ c.from_residual.result c.from_residual.ensures.1
    (λ future may q.
    fed_prefix b.size b.on.tree b.on.scope b.sides.left.items b.sides.right.items b.tally.place c.args.port c.args.item c.in-Some.fields (sym c.get.ensures ∙ c.in-Some.is) c.requires.is_sound c.requires.may_come v.0 v.1
    future may q (given q (g.T.Outlet.items c.args.out.now)) (given q (g.T.Outlet.items c.take.new.out)) (began q))
    gave.drops (keeps-some g.T.Outlet _ _ gave)

pub returns-in_ok-take : goal.returns-in_ok-take
returns-in_ok-take g c =
    let b = c.args.self.now in
    let v = c.requires.is_valid in
    let s = c.take.new.sides in
    let n = c.note.ensures in
    let gives = c.in_ok-take.ensures.gives in
    let gave = rw (c.let_go.ensures.left, c.let_go.ensures.right) at gives.given in
    let left = rw c.let_go.ensures.left at c.in_ok-take.ensures.left in
    let right = rw c.let_go.ensures.right at c.in_ok-take.ensures.right in
    let place : time_of c.note.new.self.place ≡ c.args.item.time = ap time_of c.note.ensures.place ∙ time-after-item b.tally.place c.args.port c.args.item c.in-Some.fields (sym c.get.ensures ∙ c.in-Some.is) in
    quiet-fed g.T.Outlet c.args._levels.now c.args.port c.args.item _ _ b.tally c.note.new.self unmarked unmarked (join_fits b.on.scope) (join_fits b.on.scope)
    (rest b b.sides.left.items b.sides.right.items) (rest b s.left.items s.right.items) c.args.out.now c.take.new.out c.args.steps.now _ c.tick.new.self (
      rw (left, place) (fed_left b.size b.on.tree b.on.scope b.sides.left.items b.sides.right.items b.tally.place c.args.port c.args.item c.in-Some.fields (sym c.get.ensures ∙ c.in-Some.is) c.requires.is_sound c.requires.may_come v.0 v.1),
      rw (right, place) (fed_right b.size b.on.tree b.on.scope b.sides.left.items b.sides.right.items b.tally.place c.args.port c.args.item c.in-Some.fields (sym c.get.ensures ∙ c.in-Some.is) c.requires.is_sound c.requires.may_come v.0 v.1),
      subst (λ (l : List Tuple). AllNear b.size (time_of c.note.new.self.place) l) (sym left) (rw place
          (near_left b.size b.on.tree b.on.scope b.sides.left.items b.sides.right.items b.tally.place c.args.port c.args.item c.in-Some.fields (sym c.get.ensures ∙ c.in-Some.is) c.requires.is_sound c.requires.may_come v.0 v.1)),
      subst (λ (l : List Tuple). AllNear b.size (time_of c.note.new.self.place) l) (sym right) (rw place
          (near_right b.size b.on.tree b.on.scope b.sides.left.items b.sides.right.items b.tally.place c.args.port c.args.item c.in-Some.fields (sym c.get.ensures ∙ c.in-Some.is) c.requires.is_sound c.requires.may_come v.0 v.1)),
      c.in_ok-take.ensures.indexes,
    )
    (record { place = n.place; taken = n.taken; running = n.running ∙ c.requires.is_running }) refl refl (search rules)
    (λ future may q.
    fed_law b.size b.on.tree b.on.scope b.sides.left.items b.sides.right.items b.tally.place c.args.port c.args.item c.in-Some.fields (sym c.get.ensures ∙ c.in-Some.is) c.requires.is_sound c.requires.may_come v.0 v.1
    future may q (given q (g.T.Outlet.items c.args.out.now)) (given q (g.T.Outlet.items c.take.new.out)) (gave q)
    ∙ ap₂ (λ l r. given q (g.T.Outlet.items c.take.new.out) ++ join_rest b.size b.on.tree l r future q) (sym left) (sym right))
    (λ q. fed_times b.size b.on.tree b.on.scope b.sides.left.items b.sides.right.items b.tally.place c.args.port c.args.item c.in-Some.fields (sym c.get.ensures ∙ c.in-Some.is) c.requires.is_sound c.requires.may_come v.0 v.1 q)
    (λ q. join_nil b.size b.on.tree s.left.items s.right.items q) gives.stays_ready gives.drops (keeps-some g.T.Outlet _ _ gives)

pub returns-in_default : goal.returns-in_default
returns-in_default g c =
    let b = c.args.self.now in
    absurd (no_body (join_fits b.on.scope) b.tally.place c.args.port c.args.item (sym c.get.ensures ∙ c.in_default.is) c.requires.is_sound c.requires.may_come)
