use Rattle.std.proofs.Common.{◌++◌, map, sym, ap, ap₂, ◌∙◌, append_assoc, append-nil, ◌∷◌, []}
use Rattle.std.proofs.lemmas.List.{map_push}
use Rattle.std.specs.Map.Iter.{deref_pair}
use Rattle.sq_groups.proofs.map.entries_of.Goals as goal

pub loop-key-init : goal.loop-key-init
loop-key-init g c =
    ap₂ (λ es fs. map deref_pair es ++ fs) c.in_ok-entries.ensures.items (c.into_iter-key-iterator.ensures.into_iter_gives ∙ c.iter-key-items.ensures.rest)

pub loop-key-preserved : goal.loop-key-preserved
loop-key-preserved g c =
    let es = c.loop-key.entries.items in
    let rest = c.next.new.self in
    ap (λ l. map deref_pair l ++ rest) c.in_ok-push.ensures.items
    ∙ ap (λ l. l ++ rest) (map_push deref_pair es (c.in-Some.key, c.in-Some.value))
    ∙ append_assoc (map deref_pair es) ((c.in-Some.key.now, c.in-Some.value.now) ∷ []) rest
    ∙ ap (λ l. map deref_pair es ++ l) (sym c.in-Some.ensures.steps)
    ∙ c.loop-key.invariant

pub returns-clause-entries : goal.returns-clause-entries
returns-clause-entries g c =
    let es = c.loop-key.entries.items in
    sym (append-nil (map deref_pair es)) ∙ ap (λ l. map deref_pair es ++ l) (sym c.in-None.ensures.steps.0) ∙ c.loop-key.invariant
