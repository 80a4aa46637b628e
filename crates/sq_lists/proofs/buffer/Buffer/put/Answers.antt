use Rattle.std.proofs.Common.{◌≡◌, ℕ, ◌<◌, List, Result, Ok, Err, OnErr, OnOk, ap, sym, subst, ◌∙◌}
use Rattle.std.specs.List.{AllByRecursion, insert}
use Rattle.std.proofs.lemmas.Result.{on_ok_weaker}
use Rattle.sq_value.specs.declared.Value.{Value}
use Rattle.sq_lists.specs.Sorting.{Numbered}
use Rattle.sq_lists.specs.Sorters.{put_in}
use Rattle.sq_lists.specs.Buffers.{Held, numbered_tuple, held_of, both_of, AreInOrder}
use Rattle.sq_lists.proofs.HeldLemmas.{held-insert}
use Rattle.sq_lists.proofs.BufferLemmas.{both-all, both-put-far, both-put-near, order-insert}
use Rattle.sq_lists.proofs.buffer.Buffer.put.Goals as goal

abbrev entry_of : ℕ → ℕ → List Value → Held
entry_of time number fields = ((time, number), fields)

either : {A B : Type 0} (r : Result A B) (old new changed : List Held) → OnOk r (new ≡ changed) → OnErr r (new ≡ old) → AreInOrder old → AreInOrder changed → AreInOrder new
either (Ok a) old new changed ok err up more = subst AreInOrder (sym ok) more
either (Err e) old new changed ok err up more = subst AreInOrder (sym err) up

pub returns-then-index-time-clause-ok : goal.returns-then-index-time-clause-ok
returns-then-index-time-clause-ok c =
    let near = c.self.inside.near.items in
    let far = c.self.inside.far.entries in
    let x = numbered_tuple (entry_of c.args.time c.args.number c.args.fields) in
    let each = both-all (λ a. a.0 < c.args.number) near far (subst (AllByRecursion (λ (a : Numbered). a.0 < c.args.number)) (sym c.self.view_is) c.requires.greater) in
    both-put-far near far c.insert.new.self.entries x each.0 (ap held_of c.in_ok-insert.ensures.entries ∙ held-insert c.args.time c.args.number c.args.fields far each.1)
    ∙ ap (put_in x) c.self.view_is

pub invariant_of-self-2 : goal.invariant_of-self-2
invariant_of-self-2 c =
    let near = c.self.inside.near.items in
    let far = c.self.inside.far.entries in
    let place = c.place_near-place.result in
    let x = entry_of c.args.time c.args.number c.args.fields in
    let each = both-all (λ a. a.0 < c.args.number) near far (subst (AllByRecursion (λ (a : Numbered). a.0 < c.args.number)) (sym c.self.view_is) c.requires.greater) in
    let e = c.place_near-place.ensures in
    either c.put_near.result near c.put_near.new.near.items (insert near place x) c.put_near.ensures.ok c.put_near.ensures.err c.self.invariant
    (order-insert near place x c.self.invariant each.0 e.last e.after)

pub returns-clause-ok : goal.returns-clause-ok
returns-clause-ok c =
    let near = c.self.inside.near.items in
    let far = c.self.inside.far.entries in
    let x = entry_of c.args.time c.args.number c.args.fields in
    let low = subst (AllByRecursion (λ (a : Numbered). a.0 < c.args.number)) (sym c.self.view_is) c.requires.greater in
    on_ok_weaker c.put_near.result (λ e. ap (λ l. both_of l far) e ∙ both-put-near near far c.place_near-place.result x low ∙ ap (put_in (numbered_tuple x)) c.self.view_is) c.put_near.ensures.ok
