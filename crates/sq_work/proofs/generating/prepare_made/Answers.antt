use Rattle.std.proofs.Common.{◌≡◌, arith, inl, map, ap, length, ◌∙◌, List, ℕ}
use Rattle.sq_gen.specs.declared.Made.{Made}
use Rattle.sq_gen.specs.Files.{capacities_text, stream_text}
use Rattle.sq_gen.proofs.Lengths.{capacities_short, stream_short}
use Rattle.sq_work.proofs.MadeLemmas.{bad_capacities, bad_network, bad_streams, made_accepted}
use Rattle.sq_work.proofs.generating.prepare_made.Goals as goal

pub returns-in-Err-clause-bad : goal.returns-in-Err-clause-bad
returns-in-Err-clause-bad c = inl c.stopped_by.ensures.0

pub made_capacities-requires : goal.made_capacities-requires
made_capacities-requires c =
    let few : length c.in-Ok.made.capacities ≡ length capacities_text = ap (λ (m : Made). length m.capacities) c.in-Ok.ensures in
    omega (arith, few, capacities_short)

pub made_tuples-requires-clause-few : goal.made_tuples-requires-clause-few
made_tuples-requires-clause-few c =
    let few : length c.into_vec.result.items ≡ length (stream_text c.args.number c.args.rows) = ap (λ (xs : List ℕ). length xs) (c.into_vec.ensures ∙ ap (λ (m : Made). m.stream) c.in-Ok.ensures) in
    omega (arith, few, stream_short c.args.number c.args.rows c.requires.bound)

pub returns-in-Err-made_network-clause-bad : goal.returns-in-Err-made_network-clause-bad
returns-in-Err-made_network-clause-bad c =
    let bad = c.in-Err-made_network.ensures.refused in
    rw (c.stopped_by-in-Err-made_network.ensures.0, c.stopped_by-in-Err-made_network.ensures.1)
    (bad_network c.args.number c.args.rows c.in-Ok.made c.in-Ok.ensures bad.0 c.in-Err-made_network.status bad.1 bad.2)

pub returns-in-Err-made_capacities-clause-bad : goal.returns-in-Err-made_capacities-clause-bad
returns-in-Err-made_capacities-clause-bad c =
    rw (c.stopped_by-in-Err-made_capacities.ensures.0, c.stopped_by-in-Err-made_capacities.ensures.1)
    (bad_capacities c.args.number c.args.rows c.in-Ok.made c.in-Ok.ensures c.in-Ok-made_network.network c.in-Ok-made_network.ensures.network
    c.in-Err-made_capacities.status c.in-Err-made_capacities.ensures.bad)

pub returns-in-Ok-made_tuples-clause-made : goal.returns-in-Ok-made_tuples-clause-made
returns-in-Ok-made_tuples-clause-made c =
    made_accepted c.args.number c.args.rows c.in-Ok.made c.in-Ok.ensures c.in-Ok-made_network.network c.in-Ok-made_network.ensures.network
    _ c.in-Ok-made_capacities.ensures.capacities
    (map (λ xs. xs.items) c.in-Ok-made_tuples.sources.items) c.new.result.items c.new-in-Ok-made_tuples.result.items c.new.ensures.items c.new-in-Ok-made_tuples.ensures.items (rw c.into_vec.ensures at c.in-Ok-made_tuples.ensures.made)

pub returns-in-Err-made_tuples-clause-bad : goal.returns-in-Err-made_tuples-clause-bad
returns-in-Err-made_tuples-clause-bad c =
    bad_streams c.args.number c.args.rows c.in-Ok.made c.in-Ok.ensures c.in-Ok-made_network.network c.in-Ok-made_network.ensures.network
    c.in-Ok-made_capacities.capacities c.in-Ok-made_capacities.ensures.capacities
    c.in-Err-made_tuples.stopped.status _ (rw c.into_vec.ensures at c.in-Err-made_tuples.ensures.bad)

pub returns-in-Ok-made_tuples-clause-runs : goal.returns-in-Ok-made_tuples-clause-runs
returns-in-Ok-made_tuples-clause-runs c = record {
  sound = c.in-Ok-made_network.ensures.sound;
  limits = c.in-Ok-made_network.ensures.limits;
  recorded = c.in-Ok-made_tuples.ensures.recorded;
  train = omega arith;
  frames = omega arith;
  first = omega arith;
}
