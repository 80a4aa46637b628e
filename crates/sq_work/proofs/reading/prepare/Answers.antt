use Rattle.std.proofs.Common.{arith, map, refl}
use Rattle.sq_work.specs.FolderStates.{folder_state}
use Rattle.sq_work.specs.Scripts.{unread, with_sources}
use Rattle.sq_work.proofs.ReadsLemmas.{IsLaterFolder, later_then}
use Rattle.sq_work.proofs.StoppedLemmas.{accepted_streams, is_command, no_text, picks_leads, stopped_picks, stopped_streams}
use Rattle.sq_work.proofs.reading.prepare.Goals as goal

pub returns-in-Err-picks_for-clause-prepared : goal.returns-in-Err-picks_for-clause-prepared
returns-in-Err-picks_for-clause-prepared g c words asked =
    rw (c.stopped_by-in-Err-picks_for.ensures.0, c.stopped_by-in-Err-picks_for.ensures.1)
    (stopped_picks words c.args.args asked (folder_state g.F.Folder c.args.folder.now) (folder_state g.F.Folder c.limits_for.new.folder) (folder_state g.F.Folder c.picks_for.new.folder)
    (c.in-Ok.ensures.files, c.in-Ok.ensures.later.0, c.in-Ok.ensures.later.1) c.in-Ok.named.0 c.in-Ok.named.1 (c.in-Ok.ensures.leads words asked)
    c.in-Err-picks_for.status _ c.in-Err-picks_for.ensures.missing)

pub returns-in-Ok-streams_of-clause-prepared : goal.returns-in-Ok-streams_of-clause-prepared
returns-in-Ok-streams_of-clause-prepared g c words asked =
    let args = c.args.args in
    let n = c.in-Ok.named.0 in
    let before = folder_state g.F.Folder c.args.folder.now in
    let mid = folder_state g.F.Folder c.picks_for.new.folder in
    let after = folder_state g.F.Folder c.streams_of.new.folder in
    let start = unread args n c.in-Ok.named.1 c.in-Ok-picks_for.picks.items in
    let r = with_sources start (map (λ xs. xs.items) c.in-Ok-streams_of.sources.items) in
    let first : IsLaterFolder before (folder_state g.F.Folder c.limits_for.new.folder) = (c.in-Ok.ensures.files, c.in-Ok.ensures.later.0, c.in-Ok.ensures.later.1) in
    let then : IsLaterFolder (folder_state g.F.Folder c.limits_for.new.folder) mid = (c.in-Ok-picks_for.ensures.files, c.in-Ok-picks_for.ensures.later.0, c.in-Ok-picks_for.ensures.later.1) in
    let leads = picks_leads words args asked before (folder_state g.F.Folder c.limits_for.new.folder) mid first n c.in-Ok.named.1 (c.in-Ok.ensures.leads words asked)
    c.in-Ok-picks_for.picks.items c.in-Ok-picks_for.ensures.picks in
    no_text words before after r c.new.result.items c.new.ensures.items
    (accepted_streams words before mid after (later_then before (folder_state g.F.Folder c.limits_for.new.folder) mid first then) r n refl (is_command words args asked) leads (c.in-Ok-streams_of.ensures.leads start))

pub returns-clause-prepared : goal.returns-clause-prepared
returns-clause-prepared g c words asked =
    let args = c.args.args in
    let n = c.in-Ok.named.0 in
    let before = folder_state g.F.Folder c.args.folder.now in
    let mid = folder_state g.F.Folder c.picks_for.new.folder in
    let after = folder_state g.F.Folder c.streams_of.new.folder in
    let r = unread args n c.in-Ok.named.1 c.in-Ok-picks_for.picks.items in
    let first : IsLaterFolder before (folder_state g.F.Folder c.limits_for.new.folder) = (c.in-Ok.ensures.files, c.in-Ok.ensures.later.0, c.in-Ok.ensures.later.1) in
    let then : IsLaterFolder (folder_state g.F.Folder c.limits_for.new.folder) mid = (c.in-Ok-picks_for.ensures.files, c.in-Ok-picks_for.ensures.later.0, c.in-Ok-picks_for.ensures.later.1) in
    let leads = picks_leads words args asked before (folder_state g.F.Folder c.limits_for.new.folder) mid first n c.in-Ok.named.1 (c.in-Ok.ensures.leads words asked)
    c.in-Ok-picks_for.picks.items c.in-Ok-picks_for.ensures.picks in
    stopped_streams words before mid after (later_then before (folder_state g.F.Folder c.limits_for.new.folder) mid first then) r n refl (is_command words args asked) leads c.in-Err-streams_of.stopped.status _
    (c.in-Err-streams_of.ensures.stopped r)

pub returns-in-Ok-streams_of-clause-runs : goal.returns-in-Ok-streams_of-clause-runs
returns-in-Ok-streams_of-clause-runs g c = record {
  sound = c.in-Ok.ensures.sound;
  limits = c.in-Ok.ensures.limits;
  recorded = c.in-Ok-streams_of.ensures.recorded;
  train = c.requires.train;
  frames = c.requires.frames;
  first = omega arith;
}
