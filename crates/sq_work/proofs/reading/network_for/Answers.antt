use Rattle.std.proofs.Common.{refl}
use Rattle.sq_work.specs.FolderStates.{folder_state}
use Rattle.sq_work.specs.Scripts.{after_network}
use Rattle.sq_work.proofs.StoppedLemmas.{first_leads, first_refused, first_unread, is_command, run_named, run_reads}
use Rattle.sq_work.proofs.reading.network_for.Goals as goal

pub returns-in-Ok-Ok-clause-leads : goal.returns-in-Ok-Ok-clause-leads
returns-in-Ok-Ok-clause-leads g c words asked =
    let args = c.args.args.now in
    first_leads words args.net (after_network args) (is_command words args asked) (run_reads words args asked) (λ e. refl) (run_named words args asked)
    (folder_state g.F.Folder c.args.folder.now) (folder_state g.F.Folder c.network_file.new.folder) c.in-Ok-Ok.network
    (rw c.in-Ok-Ok.field-0-is at c.in-Ok-Ok.ensures.file)

pub returns-in-Ok-Err-clause-stopped : goal.returns-in-Ok-Err-clause-stopped
returns-in-Ok-Err-clause-stopped g c words asked =
    let args = c.args.args.now in
    first_refused words args.net (after_network args) (is_command words args asked) (run_reads words args asked) (λ e. refl) (run_named words args asked) _ _
    c.in-Ok-Err.e _ _ (rw c.in-Ok-Err.field-0-is at c.in-Ok-Err.ensures.file) c.refused_by.ensures

pub returns-in-Err-clause-stopped : goal.returns-in-Err-clause-stopped
returns-in-Err-clause-stopped g c words asked =
    let args = c.args.args.now in
    first_unread words args.net (after_network args) (is_command words args asked) (run_reads words args asked) (λ e. refl) (run_named words args asked) _ _
    c.in-Err.status _ c.in-Err.ensures.refuses c.in-Err.ensures.unread
