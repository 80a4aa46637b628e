use Rattle.std.proofs.Common.{◌≡◌, ℕ, ◌+◌, ◌∷◌, [], length, subst, rules}
use Rattle.sq_oper.specs.Giving.{GaveSome}
use Rattle.sq_oper.specs.Streams.{at_ports_below}
use Rattle.sq_tagged.specs.TaggedStreams.{mark_thing}
use Rattle.sq_plain.proofs.filter.FilterBox.pass_mark.Goals as goal

pub returns-in-Some : goal.returns-in-Some
returns-in-Some g c =
    let long : c.len.result ≡ length c.args.self.now.preds.items = search rules in
    rw c.in-Some.is
    (subst (λ (n : ℕ). GaveSome g.T.Outlet (λ q. at_ports_below (n + 1) q (mark_thing (c.args.time, c.in-Some.mark) ∷ [])) c.args.out.now c.give_to_ports.new.out c.give_to_ports.result) long
    c.give_to_ports.ensures)
