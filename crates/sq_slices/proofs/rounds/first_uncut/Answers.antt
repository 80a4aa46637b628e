use Rattle.std.proofs.Common.{◌∙◌, ◌^◌, length, subst, sym}
use Rattle.sq_words.specs.Lists.{numbers_to}
use Rattle.sq_graph.specs.Wires.{producers_of}
use Rattle.sq_slices.specs.Bounds.{AreLow}
use Rattle.sq_slices.proofs.BoundLemmas.{all-low}
use Rattle.sq_slices.proofs.rounds.first_uncut.Goals as goal

pub uncut_among-requires-clause-low : goal.uncut_among-requires-clause-low
uncut_among-requires-clause-low c =
    let n = c.args.n.now in
    subst (AreLow (2 ^ 59)) (sym (c.deref.ensures.value ∙ c.in_ok-all.ensures)) (all-low n c.requires.sound c.args.delay c.requires.delay (numbers_to (length (producers_of n.wires))))
