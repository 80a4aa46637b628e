use Rattle.std.proofs.Common.{◌∙◌, ap, List}
use Rattle.std.specs.Prelude.{slice_get}
use Rattle.sq_link.specs.ChainLists.{Chained}
use Rattle.sq_pool.specs.Pools.{Pooled, is_held}
use Rattle.sq_paged.specs.Faces.{paged_face_at}
use Rattle.sq_paged.specs.declared.Lane.{Lane}
use Rattle.sq_paged.proofs.TogetherLemmas.{none-face, new-together}
use Rattle.sq_paged.proofs.Queues.new.Goals as goal

pub returns-clause-faces : goal.returns-clause-faces
returns-clause-faces c arc = ap (λ (ls : List Lane). paged_face_at (slice_get ls arc)) c.in_ok-lanes.ensures ∙ none-face c.args.arcs arc

pub returns-clause-together : goal.returns-clause-together
returns-clause-together c told =
    new-together _ c.args.arcs told (c.in_ok-new.ensures.agree told) (λ page. ap (λ (x : Pooled). is_held x page) c.in_ok-new.ensures.pool)
    (ap (λ (x : Chained). x.lists) c.in_ok-new-2.ensures) (ap (λ (x : Chained). x.nodes) c.in_ok-new-2.ensures) c.new-3.ensures.items c.in_ok-lanes.ensures
