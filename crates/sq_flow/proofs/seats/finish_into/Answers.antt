use Rattle.std.proofs.Common.{rules, ap, ◌≡◌, ◌++◌, [], refl, subst, arith}
use Rattle.sq_words.specs.Lists.{IsPrefixOf}
use Rattle.sq_oper.specs.Outflow.{given}
use Rattle.sq_flow.specs.declared.fed_items.FedItems.{FedItems}
use Rattle.sq_flow.specs.Causes.{FailsOver}
use Rattle.sq_flow.proofs.QueueOutletLemmas.{came-open, ends-into, was-shown, of-fault}
use Rattle.sq_flow.proofs.seats.finish_into.Goals as goal

pub finish-done-requires-clause-is_ready : goal.finish-done-requires-clause-is_ready
finish-done-requires-clause-is_ready g c = c.requires.gives

pub returns-in-Ok-clause-finished : goal.returns-in-Ok-clause-finished
returns-in-Ok-clause-finished g c =
    let came = came-open g.D.PageDisk.log g.D.PageDisk.faults _ _ c.requires.gives c.new-given.ensures c.new-noted.ensures c.finish-done.ensures.keeps.came in
    let queues = came.holds.queues in
    let disk = came.holds.disk in
    let events = came.holds.events in
    let told = c.in-Ok.ensures.ok in
    let none = ap (λ (i : FedItems). i.items) c.new-given.ensures in
    ends-into g.D.PageDisk.log g.D.PageDisk.faults _ _ _ _ _ came _ _ _ (search rules) (search rules) (search rules) (told.stays_ready.passes 0).whole
    (record {
      law = λ table q. subst (λ items. given q items ++ g.O.Operator.rest c.args.seat.now.op table [] q ≡ given q c.finish-done.new.out.given.items) none (told.law table q);
      decided = λ table. subst (λ drops. drops ++ g.O.Operator.decides c.args.seat.now.op table [] ≡ c.finish-done.new.out.noted.drops) c.new-noted.ensures (told.decided table);
      loses = told.loses;
      empty = told.empty;
      settled = told.settled;
      sound = c.in-Ok.ensures.keeps.sound (rw none tt);
      after =
          record {
            is_valid = told.stays_valid.0;
            running = told.stays_valid.1;
            moves = told.same.0;
            counted = (let same = told.same.3 in omega (arith, same));
            marks = told.same.1;
            fits = told.same.2;
            place = refl;
            taken = omega arith;
          };
      closed = refl;
      none_came = refl;
    })

pub returns-in-Err-clause-part : goal.returns-in-Err-clause-part
returns-in-Err-clause-part g c =
    let came = came-open g.D.PageDisk.log g.D.PageDisk.faults _ _ c.requires.gives c.new-given.ensures c.new-noted.ensures c.finish-done.ensures.keeps.came in
    let events = came.holds.events in
    let told = c.in-Err.ensures.err in
    let none = ap (λ (i : FedItems). i.items) c.new-given.ensures in
    record {
      items = c.finish-done.new.out.given.items;
      drops = c.finish-done.new.out.noted.drops;
      law = λ table q.
          subst (λ items. IsPrefixOf (given q c.finish-done.new.out.given.items) (given q items ++ g.O.Operator.rest c.args.seat.now.op table [] q)) none (told.prefix table q);
      decided = λ table. subst (λ drops. IsPrefixOf c.finish-done.new.out.noted.drops (drops ++ g.O.Operator.decides c.args.seat.now.op table [])) c.new-noted.ensures (told.decided_prefix table);
      shown = was-shown g.D.PageDisk.log g.D.PageDisk.faults _ _ came _ (search rules);
    }

pub returns-in-Ok-clause-disk : goal.returns-in-Ok-clause-disk
returns-in-Ok-clause-disk g c =
    let came = came-open g.D.PageDisk.log g.D.PageDisk.faults _ _ c.requires.gives c.new-given.ensures c.new-noted.ensures c.finish-done.ensures.keeps.came in
    let disk = came.holds.disk in
    let grows = came.grows in search rules

pub returns-in-Err-clause-disk : goal.returns-in-Err-clause-disk
returns-in-Err-clause-disk g c =
    let came = came-open g.D.PageDisk.log g.D.PageDisk.faults _ _ c.requires.gives c.new-given.ensures c.new-noted.ensures c.finish-done.ensures.keeps.came in
    let disk = came.holds.disk in
    let grows = came.grows in search rules

pub returns-in-Err-clause-fails : goal.returns-in-Err-clause-fails
returns-in-Err-clause-fails g c =
    let came = came-open g.D.PageDisk.log g.D.PageDisk.faults _ _ c.requires.gives c.new-given.ensures c.new-noted.ensures c.finish-done.ensures.keeps.came in
    let queues = came.holds.queues in
    let disk = came.holds.disk in
    let failed = came.holds.failed in
    let fails = of-fault c.finish-done.new.out.failed.now (FailsOver _ _ _ _ _) came.fails (record { cause = tt; honest = λ known. tt }) in search rules

pub returns-in-Ok-clause-whole : goal.returns-in-Ok-clause-whole
returns-in-Ok-clause-whole g c =
    let came = came-open g.D.PageDisk.log g.D.PageDisk.faults _ _ c.requires.gives c.new-given.ensures c.new-noted.ensures c.finish-done.ensures.keeps.came in
    let failed = came.holds.failed in
    let whole = (c.in-Ok.ensures.ok.stays_ready.passes 0).whole in search rules
