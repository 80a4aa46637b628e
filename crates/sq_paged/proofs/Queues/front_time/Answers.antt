use Rattle.std.proofs.Common.{◌≡◌, ◌∙◌, sym, ap, ℕ, Option, Some, length, vec_len, arith}
use Rattle.std.proofs.lemmas.Grind.{common_steps}
use Rattle.std.proofs.lemmas.List.{get_or_read}
use Rattle.std.specs.Prelude.{option_map}
use Rattle.sq_paged.specs.Faces.{kept_at, no_page}
use Rattle.sq_bring.specs.declared.bring.Kept.{Kept}
use Rattle.sq_paged.proofs.TouchLemmas.{alone-by}
use Rattle.sq_paged.proofs.CallLemmas.{first-in}
use Rattle.sq_paged.proofs.Queues.front_time.Goals as goal

pub index-requires : goal.index-requires
index-requires c =
    let many : vec_len c.args.self.now.kept ≡ length c.args.self.now.kept.items = grind (arith, common_steps) in
    let below = (alone-by c.args.self.now c.requires.nodes c.one_place_each.ensures).below c.args.arc c.in_ok-node.node (first-in c.args.self.now c.args.arc c.in_ok-node.node (sym c.in_ok-node.ensures)) in
    omega (arith, many, below)

pub returns : goal.returns
returns c =
    let below = (alone-by c.args.self.now c.requires.nodes c.one_place_each.ensures).below c.args.arc c.in_ok-node.node (first-in c.args.self.now c.args.arc c.in_ok-node.node (sym c.in_ok-node.ensures)) in
    ap (λ (k : Kept). Some k.time) (get_or_read c.args.self.now.kept.items c.in_ok-node.node c.index.result.now below c.index.ensures no_page)
    ∙ ap (λ (o : Option ℕ). option_map (λ node. (kept_at c.args.self.now.kept.items node).time) o) c.in_ok-node.ensures
