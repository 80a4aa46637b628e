use Rattle.toml.specs.View.{table_view}
use Rattle.sq_tables.proofs.EvenLemmas.{answer_even}
use Rattle.sq_tables.proofs.network_table_of.Goals as goal

pub returns-clause-even : goal.returns-clause-even
returns-clause-even c = answer_even (table_view c.in_ok-table.table) c.network_table_from.result c.network_table_from.ensures
