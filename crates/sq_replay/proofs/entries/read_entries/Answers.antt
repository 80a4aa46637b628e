use Rattle.std.proofs.Common.{◌∙◌, sym}
use Rattle.sq_replay.proofs.EntryLemmas.{entry_on, entry_off, entries_end}
use Rattle.sq_replay.proofs.StreamLemmas.{no_front, pushed}
use Rattle.sq_replay.proofs.entries.read_entries.Goals as goal

pub loop-line-init : goal.loop-line-init
loop-line-init c = no_front c.new-entries.result.items _ c.new-entries.ensures.items

pub returns-in_default-clause-bad : goal.returns-in_default-clause-bad
returns-in_default-clause-bad c =
    entry_off c.loop-line.entries.items c.loop-line.after c.args.lines.now c.loop-line.line-index _ _ c.loop-line-test.true (sym c.read_entry.ensures ∙ c.in_default.is) c.loop-line.invariant

pub loop-line-preserved : goal.loop-line-preserved
loop-line-preserved c =
    entry_on c.loop-line.entries.items c.push.new.self.items c.loop-line.after c.args.lines.now c.loop-line.line-index _ c.in-Some.entry _ c.loop-line-test.true (sym c.read_entry.ensures ∙ c.in-Some.is)
    (pushed c.push.result c.loop-line.entries.items c.push.new.self.items c.in-Some.entry c.push.ensures.items c.if-is_err.ensures.value) c.loop-line.invariant

pub returns-clause-entries : goal.returns-clause-entries
returns-clause-entries c = entries_end c.loop-line.entries.items c.loop-line.after c.args.lines.now c.loop-line.line-index _ c.loop-line-test.false c.loop-line.invariant
