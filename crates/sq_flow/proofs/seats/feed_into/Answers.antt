use Rattle.std.proofs.Common.{rules, ap, ◌≡◌, ◌++◌, subst}
use Rattle.sq_words.specs.Lists.{IsPrefixOf}
use Rattle.sq_oper.specs.Outflow.{given}
use Rattle.sq_oper.specs.Entries.{entries}
use Rattle.sq_flow.specs.declared.fed_items.FedItems.{FedItems}
use Rattle.sq_flow.specs.Causes.{FailsOver}
use Rattle.sq_flow.proofs.QueueOutletLemmas.{came-open, feeds-into, was-shown, of-fault}
use Rattle.sq_flow.proofs.seats.feed_into.Goals as goal

pub feed-done-requires-clause-is_ready : goal.feed-done-requires-clause-is_ready
feed-done-requires-clause-is_ready g c = c.requires.gives

pub returns-in-Ok-clause-fed : goal.returns-in-Ok-clause-fed
returns-in-Ok-clause-fed g c =
    let came = came-open g.D.PageDisk.log g.D.PageDisk.faults _ _ c.requires.gives c.new-given.ensures c.new-noted.ensures c.feed-done.ensures.keeps.came in
    let queues = came.holds.queues in
    let disk = came.holds.disk in
    let events = came.holds.events in
    let told = c.in-Ok.ensures.ok in
    let none = ap (λ (i : FedItems). i.items) c.new-given.ensures in
    feeds-into g.D.PageDisk.log g.D.PageDisk.faults _ _ _ _ _ came _ _ _ (search rules) (search rules) (search rules) (told.stays_ready.passes 0).whole c.args.levels.now c.args.port c.args.item
    (record {
      law = λ table future agrees may q.
          subst (λ items. given q items ++ g.O.Operator.rest c.args.seat.now.op table (entries c.args.port c.args.item ++ future) q ≡ given q c.feed-done.new.out.given.items ++ g.O.Operator.rest c.feed-done.new.self table future q) none
          (told.law table future agrees may q);
      decided = λ table future agrees may.
          subst (λ drops. drops ++ g.O.Operator.decides c.args.seat.now.op table (entries c.args.port c.args.item ++ future) ≡ c.feed-done.new.out.noted.drops ++ g.O.Operator.decides c.feed-done.new.self table future) c.new-noted.ensures
          (told.decided table future agrees may);
      loses = told.loses;
      times = told.times;
      sound = c.in-Ok.ensures.keeps.sound (rw none tt);
      after =
          record {
            is_valid = told.stays_valid.0;
            running = told.stays_valid.1;
            moves = told.moves;
            counted = told.counted;
            marks = told.same.0;
            fits = told.same.1;
            place = c.note.ensures.place;
            taken = c.note.ensures.taken;
          };
      reads = told.same_epoch;
      open_still = c.note.ensures.running;
      came = c.with-seat.ensures;
    })

pub returns-in-Err-clause-part : goal.returns-in-Err-clause-part
returns-in-Err-clause-part g c =
    let came = came-open g.D.PageDisk.log g.D.PageDisk.faults _ _ c.requires.gives c.new-given.ensures c.new-noted.ensures c.feed-done.ensures.keeps.came in
    let events = came.holds.events in
    let told = c.in-Err.ensures.err in
    let none = ap (λ (i : FedItems). i.items) c.new-given.ensures in
    record {
      items = c.feed-done.new.out.given.items;
      drops = c.feed-done.new.out.noted.drops;
      law = λ table future agrees may q.
          subst (λ items. IsPrefixOf (given q c.feed-done.new.out.given.items) (given q items ++ g.O.Operator.rest c.args.seat.now.op table (entries c.args.port c.args.item ++ future) q)) none
          (told.prefix table future agrees may q);
      decided = λ table future agrees may.
          subst (λ drops. IsPrefixOf c.feed-done.new.out.noted.drops (drops ++ g.O.Operator.decides c.args.seat.now.op table (entries c.args.port c.args.item ++ future))) c.new-noted.ensures
          (told.decided_prefix table future agrees may);
      shown = was-shown g.D.PageDisk.log g.D.PageDisk.faults _ _ came _ (search rules);
    }

pub returns-in-Ok-clause-disk : goal.returns-in-Ok-clause-disk
returns-in-Ok-clause-disk g c =
    let came = came-open g.D.PageDisk.log g.D.PageDisk.faults _ _ c.requires.gives c.new-given.ensures c.new-noted.ensures c.feed-done.ensures.keeps.came in
    let disk = came.holds.disk in
    let grows = came.grows in search rules

pub returns-in-Err-clause-disk : goal.returns-in-Err-clause-disk
returns-in-Err-clause-disk g c =
    let came = came-open g.D.PageDisk.log g.D.PageDisk.faults _ _ c.requires.gives c.new-given.ensures c.new-noted.ensures c.feed-done.ensures.keeps.came in
    let disk = came.holds.disk in
    let grows = came.grows in search rules

pub returns-in-Err-clause-fails : goal.returns-in-Err-clause-fails
returns-in-Err-clause-fails g c =
    let came = came-open g.D.PageDisk.log g.D.PageDisk.faults _ _ c.requires.gives c.new-given.ensures c.new-noted.ensures c.feed-done.ensures.keeps.came in
    let queues = came.holds.queues in
    let disk = came.holds.disk in
    let failed = came.holds.failed in
    let fails = of-fault c.feed-done.new.out.failed.now (FailsOver _ _ _ _ _) came.fails (record { cause = tt; honest = λ known. tt }) in search rules

pub returns-in-Ok-clause-whole : goal.returns-in-Ok-clause-whole
returns-in-Ok-clause-whole g c =
    let came = came-open g.D.PageDisk.log g.D.PageDisk.faults _ _ c.requires.gives c.new-given.ensures c.new-noted.ensures c.feed-done.ensures.keeps.came in
    let failed = came.holds.failed in
    let whole = (c.in-Ok.ensures.ok.stays_ready.passes 0).whole in search rules
