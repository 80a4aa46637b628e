use Rattle.std.proofs.Common.{◌≡◌, ◌++◌, [], ◌∷◌, List, ap, sym, ◌∙◌}
use Rattle.sq_value.specs.declared.Value.{Value}
use Rattle.sq_value.specs.declared.Tuple.{Tuple}
use Rattle.sq_lists.specs.Resamples.{near}
use Rattle.sq_oper.specs.Outflow.{given}
use Rattle.sq_oper.specs.Streams.{things, at_zero}
use Rattle.sq_rounds.proofs.RoundLemmas.{round-near}
use Rattle.sq_rounds.proofs.rounds.give_round.Goals as goal

pub returns-clause-gives : goal.returns-clause-gives
returns-clause-gives g c =
    let table = g.F.Fold.table c.args.fold.now in
    let size = c.args.size in
    let x = c.args.x in
    let held = c.args.held.now.tuples.items in
    let inside : c.let_go.new.held.tuples.items ≡ near size x.time held =
    c.in_ok-let_go.ensures.tuples ∙ sym (round-near table size x.time held c.requires.rises c.requires.reaches) in
    let answers : c.in_ok-answers.answers ≡ table (near size x.time held) = c.in_ok-answers.ensures.answers ∙ ap table inside in
    let time = ap (λ (y : Tuple). y.time) c.in_ok-time.ensures in
    let fields = ap (λ (y : Tuple). y.fields) c.in_ok-time.ensures ∙ ap (λ (l : List Value). x.fields ++ l) answers in
    let gave = rw (c.none.ensures, c.some.ensures) at c.in_ok-give.ensures.given in
    let e = c.in_ok-give.ensures in
    record {
      given = λ q.
          gave q
          ∙ (λ i. given q (g.T.Outlet.items c.args.out.now) ++ at_zero q (things (record { time = time i; fields = fields i } ∷ [])));
      err = tt;
      sound = e.sound;
      extends = e.extends;
      drops = e.drops;
      stays_ready = e.stays_ready;
      came = e.came;
    }
