use Rattle.sq_work.specs.FolderStates.{folder_state}
use Rattle.sq_work.proofs.StoppedLemmas.{capacities_leads, stopped_capacities}
use Rattle.sq_work.proofs.reading.limits_for.Goals as goal

pub returns-in-Ok-capacities_for-clause-leads : goal.returns-in-Ok-capacities_for-clause-leads
returns-in-Ok-capacities_for-clause-leads g c words asked =
    capacities_leads words c.args.args.now asked (folder_state g.F.Folder c.args.folder.now) (folder_state g.F.Folder c.network_for.new.folder) (folder_state g.F.Folder c.capacities_for.new.folder)
    (c.in-Ok.ensures.files, c.in-Ok.ensures.later.0, c.in-Ok.ensures.later.1) c.in-Ok.network (c.in-Ok.ensures.leads words asked)
    c.in-Ok-capacities_for.capacities c.in-Ok-capacities_for.ensures.capacities

pub returns-in-Err-capacities_for-clause-stopped : goal.returns-in-Err-capacities_for-clause-stopped
returns-in-Err-capacities_for-clause-stopped g c words asked =
    stopped_capacities words c.args.args.now asked (folder_state g.F.Folder c.args.folder.now) (folder_state g.F.Folder c.network_for.new.folder) (folder_state g.F.Folder c.capacities_for.new.folder)
    (c.in-Ok.ensures.files, c.in-Ok.ensures.later.0, c.in-Ok.ensures.later.1) c.in-Ok.network (c.in-Ok.ensures.leads words asked)
    c.in-Err-capacities_for.status _ c.in-Err-capacities_for.ensures.missing
