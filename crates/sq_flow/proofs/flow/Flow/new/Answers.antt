use Rattle.std.proofs.Common.{◌≡◌, false, length, replicate, refl, ap, sym, ◌∙◌, arith}
use Rattle.std.proofs.lemmas.List.{length-replicate}
use Rattle.sq_queue.specs.Faces.{size}
use Rattle.sq_flow.specs.declared.flow.Flow.{Flow}
use Rattle.sq_flow.specs.Tails.{joined-length, closed-length, with_tails}
use Rattle.sq_flow.proofs.StartFlow.{start-flow, start-planned, start-plans, few-first}
use Rattle.sq_flow.proofs.flow.Flow.new.Goals as goal

pub returns : goal.returns
returns g c =
    let given = c.requires.parts in
    let e : Flow g.row.O.Denot = record { wires = c.args.wires; seats = c.args.seats; over = false; queues = c.in_ok-queues.queues; sources = c.args.sources; ahead = c.args.ahead; clock = 0; planner = c.args.planner; levels = c.args.levels; counts = c.in_ok-counts.counts; taken = 0 } in
    let arcs : size c.in_ok-queues.queues ≡ length c.args.wires.arcs.items = omega (arith, c.in_ok-queues.ensures.size, c.len-arcs.ensures, c.args.wires.arcs.ok.0) in
    let counted : length c.in_ok-counts.counts.items ≡ length c.args.sources.items = ap (λ l. length l) c.in_ok-counts.ensures ∙ length-replicate (length c.args.sources.items) 0 in
    record {
      flow = start-flow _ e given.shaped arcs (λ arc. ap (λ f. f.ended) (c.in_ok-queues.ensures.faces arc)) refl given.seats given.sources.coming given.sources.few refl refl given.levels.0
          given.sources.told counted
          (λ source. few-first (length c.args.sources.items) c.in_ok-counts.counts.items source _ c.in_ok-counts.ensures (given.sources.few_tuples source));
      parts = record {
        wires_are = refl;
        seats_are = refl;
        sources_are = refl;
        ahead_are = refl;
        planner_is = refl;
        levels_are = refl;
        runs = refl;
        framed = c.in_ok-queues.ensures.frames;
        none_taken = refl;
        bare = c.in_ok-queues.ensures.faces;
        empty = c.in_ok-queues.ensures.items;
        together = c.in_ok-queues.ensures.together;
      };
      plans = record {
        planned = start-planned e given.levels.0 given.levels.1 c.in_ok-counts.ensures;
        plans = start-plans e given.levels.0 given.levels.1 c.in_ok-counts.ensures;
      };
      fits = λ tails comes. record {
        may = comes.may;
        keeps =
            start-flow _ (with_tails tails e) given.shaped arcs (λ arc. ap (λ f. f.ended) (c.in_ok-queues.ensures.faces arc)) refl given.seats comes.rises
            (let few = given.sources.few in let same = joined-length tails c.args.sources.items in omega (arith, few, same)) refl refl given.levels.0
            (sym (closed-length c.args.ahead.items) ∙ given.sources.told ∙ joined-length tails c.args.sources.items)
            (counted ∙ joined-length tails c.args.sources.items)
            (λ source. few-first (length c.args.sources.items) c.in_ok-counts.counts.items source _ c.in_ok-counts.ensures (comes.few source));
      };
      plans_on = λ tails. record {
        planned = start-planned (with_tails tails e) given.levels.0 given.levels.1 (c.in_ok-counts.ensures ∙ ap (λ n. replicate n 0) (joined-length tails c.args.sources.items));
        plans = start-plans (with_tails tails e) given.levels.0 given.levels.1 (c.in_ok-counts.ensures ∙ ap (λ n. replicate n 0) (joined-length tails c.args.sources.items));
      };
    }
