use Rattle.std.proofs.Common.{◌∙◌, arith, map}
use Rattle.sq_work.specs.FolderStates.{folder_state}
use Rattle.sq_work.specs.Scripts.{tap_unread, with_sources}
use Rattle.sq_work.specs.Taps.{Tapped}
use Rattle.sq_work.proofs.StoppedLemmas.{accepted_streams, stopped_streams}
use Rattle.sq_work.proofs.TapLemmas.{is_tap, join_leads, join_stopped, tap_accepted}
use Rattle.sq_work.proofs.tapping.prepare_tap.Goals as goal

pub returns-in-Err-join-clause-prepared : goal.returns-in-Err-join-clause-prepared
returns-in-Err-join-clause-prepared g c words asked =
    let a = c.args.asked.now in
    rw (c.stopped_by-in-Err-join.ensures.0, c.stopped_by-in-Err-join.ensures.1)
    (join_stopped words a.stream a.from c.in-Ok.both.0 c.in-Ok.both.1 (is_tap words a asked) _ _ (c.in-Ok.ensures.leads words asked) c.in-Err-join.status _
    (rw c.as_str.ensures at c.in-Err-join.ensures.refused))

pub returns-in-Ok-streams_of-clause-prepared : goal.returns-in-Ok-streams_of-clause-prepared
returns-in-Ok-streams_of-clause-prepared g c words asked =
    let a = c.args.asked.now in
    let t : Tapped = record { network = c.in-Ok-join.joined.net; first = c.in-Ok-join.joined.first } in
    let r = with_sources (tap_unread t) (map (λ xs. xs.items) c.in-Ok-streams_of.sources.items) in
    let before = folder_state g.F.Folder c.args.folder.now in
    let mid = folder_state g.F.Folder c.both_networks.new.folder in
    let after = folder_state g.F.Folder c.streams_of.new.folder in
    let leads = join_leads words a.stream a.from c.in-Ok.both.0 c.in-Ok.both.1 (is_tap words a asked) before mid (c.in-Ok.ensures.leads words asked) t (rw c.as_str.ensures at c.in-Ok-join.ensures.tapped) in
    tap_accepted words before after r _ _ _ (c.new-in-Ok-streams_of.ensures ∙ c.new.ensures.items) c.new-in-Ok-streams_of-2.ensures.items c.new-in-Ok-streams_of-3.ensures.items
    (accepted_streams words before mid after (c.in-Ok.ensures.files, c.in-Ok.ensures.later.0, c.in-Ok.ensures.later.1) r c.in-Ok.both.0 c.in-Ok-join.ensures.sources (is_tap words a asked) leads
    (c.in-Ok-streams_of.ensures.leads (tap_unread t)))

pub returns-in-Err-streams_of-clause-prepared : goal.returns-in-Err-streams_of-clause-prepared
returns-in-Err-streams_of-clause-prepared g c words asked =
    let a = c.args.asked.now in
    let t : Tapped = record { network = c.in-Ok-join.joined.net; first = c.in-Ok-join.joined.first } in
    let before = folder_state g.F.Folder c.args.folder.now in
    let mid = folder_state g.F.Folder c.both_networks.new.folder in
    let after = folder_state g.F.Folder c.streams_of.new.folder in
    let leads = join_leads words a.stream a.from c.in-Ok.both.0 c.in-Ok.both.1 (is_tap words a asked) before mid (c.in-Ok.ensures.leads words asked) t (rw c.as_str.ensures at c.in-Ok-join.ensures.tapped) in
    stopped_streams words before mid after (c.in-Ok.ensures.files, c.in-Ok.ensures.later.0, c.in-Ok.ensures.later.1) (tap_unread t) c.in-Ok.both.0 c.in-Ok-join.ensures.sources (is_tap words a asked) leads
    c.in-Err-streams_of.stopped.status _ (c.in-Err-streams_of.ensures.stopped (tap_unread t))

pub returns-in-Ok-streams_of-clause-runs : goal.returns-in-Ok-streams_of-clause-runs
returns-in-Ok-streams_of-clause-runs g c = record {
  sound = c.in-Ok-join.ensures.sound;
  limits = c.in-Ok-join.ensures.limits;
  recorded = c.in-Ok-streams_of.ensures.recorded;
  train = omega arith;
  frames = omega arith;
  first = c.in-Ok-join.ensures.first;
}
