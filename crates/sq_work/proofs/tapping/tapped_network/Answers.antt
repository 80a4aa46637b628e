use Rattle.std.proofs.Common.{refl}
use Rattle.sq_work.specs.FolderStates.{folder_state}
use Rattle.sq_work.specs.Scripts.{after_tapped}
use Rattle.sq_work.proofs.StoppedLemmas.{first_leads, first_refused, first_unread}
use Rattle.sq_work.proofs.TapLemmas.{is_tap, tap_named, tap_reads}
use Rattle.sq_work.proofs.tapping.tapped_network.Goals as goal

pub returns-in-Ok-Ok-clause-leads : goal.returns-in-Ok-Ok-clause-leads
returns-in-Ok-Ok-clause-leads g c words asked =
    let a = c.args.asked.now in
    first_leads words a.net (after_tapped a.stream a.from a.query) (is_tap words a asked) (tap_reads words a asked) (λ e. refl) (tap_named words a asked)
    (folder_state g.F.Folder c.args.folder.now) (folder_state g.F.Folder c.network_file.new.folder) c.in-Ok-Ok.network (rw c.in-Ok-Ok.field-0-is at c.in-Ok-Ok.ensures.file)

pub returns-in-Ok-Err-clause-stopped : goal.returns-in-Ok-Err-clause-stopped
returns-in-Ok-Err-clause-stopped g c words asked =
    let a = c.args.asked.now in
    first_refused words a.net (after_tapped a.stream a.from a.query) (is_tap words a asked) (tap_reads words a asked) (λ e. refl) (tap_named words a asked) _ _
    c.in-Ok-Err.e _ _ (rw c.in-Ok-Err.field-0-is at c.in-Ok-Err.ensures.file) c.refused_by.ensures

pub returns-in-Err-clause-stopped : goal.returns-in-Err-clause-stopped
returns-in-Err-clause-stopped g c words asked =
    let a = c.args.asked.now in
    first_unread words a.net (after_tapped a.stream a.from a.query) (is_tap words a asked) (tap_reads words a asked) (λ e. refl) (tap_named words a asked) _ _
    c.in-Err.status _ c.in-Err.ensures.refuses c.in-Err.ensures.unread
