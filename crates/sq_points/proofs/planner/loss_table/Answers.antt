use Rattle.std.proofs.Common.{◌≡◌, ℕ, ◌+◌, ◌≤◌, ◌<◌, ◌++◌, ◌∷◌, [], List, map, length, take, get_or, ◌∙◌, sym, subst, ap, arith}
use Rattle.std.proofs.lemmas.List.Elements.{All-push}
use Rattle.std.proofs.lemmas.List.{map_more}
use Rattle.sq_net.specs.declared.Output.{Output}
use Rattle.sq_qos.specs.Graphs.{loss_steps_of}
use Rattle.sq_points.specs.Losses.{IsFall, AreFalls}
use Rattle.sq_points.proofs.planner.loss_table.Goals as goal

one-more : {X Y : Type 0} (f : X → Y) (xs : List X) (i : ℕ) (x : X) (old new : List Y) (y : Y)
    → i < length xs → x ≡ get_or xs i x → old ≡ map f (take i xs) → new ≡ old ++ y ∷ [] → y ≡ f x → new ≡ map f (take (i + 1) xs)
one-more f xs i x old new y lt is so_far more here =
    more ∙ ap (λ z. old ++ z ∷ []) (here ∙ ap f is) ∙ ap (λ zs. zs ++ f (get_or xs i x) ∷ []) so_far ∙ sym (map_more f xs i x lt)

pub loop-output-preserved : goal.loop-output-preserved
loop-output-preserved c =
    let same : c.as_slice-output-items.result.now ≡ c.args.n.now.outputs = c.as_slice-output-items.ensures in
    let lt : c.loop-output.output-index < length c.args.n.now.outputs = rw same at c.loop-output-test.true in
    let is : c.output-item.result ≡ get_or c.args.n.now.outputs c.loop-output.output-index c.output-item.result = rw same at c.output-item.is in
    let low = c.requires c.loop-output.output-index c.output-item.result lt in
    let light : c.output-item.result.weight ≤ 1000 = rw (← is) at low in
    let most = c.loss_steps.ensures.together in
    record {
      table =
          one-more (λ (o : Output). loss_steps_of o.graph o.weight) c.args.n.now.outputs c.loop-output.output-index c.output-item.result c.loop-output.table.items c.push.new.self.items c.loss_steps.result
          lt is c.loop-output.invariant.table c.in_ok-push.ensures.items c.loss_steps.ensures.losses;
      falls =
          subst AreFalls (sym c.in_ok-push.ensures.items)
          (All-push IsFall c.loop-output.table.items c.loss_steps.result c.loop-output.invariant.falls (record { in_order = c.loss_steps.ensures.in_order; together = omega arith }));
    }
