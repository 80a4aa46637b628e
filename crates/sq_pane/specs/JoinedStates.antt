-- A state, wherever it lies.
use Rattle.sq_pane.specs.declared.joined.Lying.{Lying}
use Rattle.sq_pane.specs.declared.joined.Lying.TheVariants as lying

abbrev pub state_lying : {M : Type 0} → Lying M → M
state_lying (lying.Lent b) = b.now
state_lying (lying.Own m) = m
