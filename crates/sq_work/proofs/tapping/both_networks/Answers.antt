use Rattle.std.proofs.Common.{[]}
use Rattle.sq_work.specs.FolderStates.{folder_state}
use Rattle.sq_work.proofs.TapLemmas.{is_tap, query_leads, query_stopped, query_unread}
use Rattle.sq_work.proofs.tapping.both_networks.Goals as goal

pub returns-in-Ok-Ok-clause-leads : goal.returns-in-Ok-Ok-clause-leads
returns-in-Ok-Ok-clause-leads g c words asked =
    let a = c.args.asked.now in
    query_leads words a.stream a.from a.query c.in-Ok.network (is_tap words a asked)
    (folder_state g.F.Folder c.args.folder.now) (folder_state g.F.Folder c.tapped_network.new.folder) (folder_state g.F.Folder c.network_file.new.folder)
    (c.in-Ok.ensures.files, c.in-Ok.ensures.later.0, c.in-Ok.ensures.later.1) (c.in-Ok.ensures.leads words asked) [] c.in-Ok-Ok.query
    (rw c.in-Ok-Ok.field-0-is at c.in-Ok-Ok.ensures.file)

pub returns-in-Ok-Err-clause-stopped : goal.returns-in-Ok-Err-clause-stopped
returns-in-Ok-Err-clause-stopped g c words asked =
    let a = c.args.asked.now in
    query_stopped words a.stream a.from a.query c.in-Ok.network (is_tap words a asked)
    (folder_state g.F.Folder c.args.folder.now) (folder_state g.F.Folder c.tapped_network.new.folder) (folder_state g.F.Folder c.network_file.new.folder)
    (c.in-Ok.ensures.files, c.in-Ok.ensures.later.0, c.in-Ok.ensures.later.1) (c.in-Ok.ensures.leads words asked) [] c.in-Ok-Err.e _
    (rw c.in-Ok-Err.field-0-is at c.in-Ok-Err.ensures.file) c.query_refused.ensures

pub returns-in-Err-network_file-clause-stopped : goal.returns-in-Err-network_file-clause-stopped
returns-in-Err-network_file-clause-stopped g c words asked =
    let a = c.args.asked.now in
    query_unread words a.stream a.from a.query c.in-Ok.network (is_tap words a asked)
    (folder_state g.F.Folder c.args.folder.now) (folder_state g.F.Folder c.tapped_network.new.folder) (folder_state g.F.Folder c.network_file.new.folder)
    (c.in-Ok.ensures.files, c.in-Ok.ensures.later.0, c.in-Ok.ensures.later.1) (c.in-Ok.ensures.leads words asked) [] c.in-Err-network_file.status
    c.in-Err-network_file.ensures.refuses c.in-Err-network_file.ensures.unread
