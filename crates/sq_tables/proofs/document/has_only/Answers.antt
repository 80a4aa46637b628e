use Rattle.std.proofs.Common.{◌∙◌}
use Rattle.sq_tables.proofs.DocumentLemmas.{has_only-keys}
use Rattle.sq_tables.proofs.document.has_only.Goals as goal

pub returns : goal.returns
returns c = c.all_known.ensures ∙ has_only-keys c.args.known.now c.args.table.now.entries
