use Rattle.sq_join.proofs.KeyLemmas.{equates-push}
use Rattle.sq_join.proofs.keys.Keys.add.Goals as goal

pub returns-in_ok-push-2 : goal.returns-in_ok-push-2
returns-in_ok-push-2 c = λ on equates keys.
    let was = c.args.self.now in
    let places = c.in_order-first.result in
    rw (c.in_ok-push.ensures.items, c.in_ok-push-2.ensures.items)
    (equates-push on was.width places.0 places.1 was.left.items was.right.items (c.in_order-first.ensures on equates) c.if-first-self.true c.if-self-second.true keys)
