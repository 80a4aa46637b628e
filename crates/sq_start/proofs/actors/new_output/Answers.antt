use Rattle.std.proofs.Common.{ap, sym, subst, ◌∙◌}
use Rattle.sq_windrop.specs.Gates.{IsLength}
use Rattle.sq_start.specs.Starts.{length_above}
use Rattle.sq_start.proofs.ToldLemmas.{length-fine}
use Rattle.sq_start.proofs.StartedLemmas.{output-started}
use Rattle.sq_start.proofs.actors.new_output.Goals as goal
use Rattle.sq_words.specs.Lists.{contains_number}
use Rattle.sq_points.specs.Above.{first_drop}

pub gate_actor-requires : goal.gate_actor-requires
gate_actor-requires c =
    let told = c.length_above.ensures ∙ ap (λ l. length_above (first_drop (λ p. contains_number p.outputs c.args.o) 0 l)) c.requires.points in
    subst IsLength (sym told) (length-fine c.early_drop_is_sound.ensures.points c.args.n.now c.requires.sound c.requires.limits c.args.o)

pub returns : goal.returns
returns c =
    let told = c.length_above.ensures ∙ ap (λ l. length_above (first_drop (λ p. contains_number p.outputs c.args.o) 0 l)) c.requires.points in
    let new = c.gate_actor.ensures in
    output-started c.args.n.now c.args.o c.length_above.result c.gate_actor.result (sym told) new.starts new.decides new.none_lost new.fits new.takes new.reads
    (record { none = new.none; at_start = new.start; is_valid = new.valid })
