use Rattle.sq_reader.proofs.PairLemmas.{pair_schema, pair_zip}
use Rattle.sq_reader.proofs.pairs.pair_schema.Goals as goal

pub schema_of-requires : goal.schema_of-requires
schema_of-requires c =
    rw (c.in_ok-names.ensures, c.in_ok-kinds.ensures, c.names.ensures.value, c.names-2.ensures.value, c.kinds.ensures, c.kinds-2.ensures)
    (pair_schema c.args.left.now c.args.right.now c.names.ensures.columns c.names-2.ensures.columns c.requires)

pub returns : goal.returns
returns c =
    rw (c.schema_of.ensures, c.in_ok-names.ensures, c.in_ok-kinds.ensures, c.names.ensures.value, c.names-2.ensures.value, c.kinds.ensures, c.kinds-2.ensures)
    (pair_zip c.args.left.now c.args.right.now)
