use Rattle.std.proofs.Common.{◌≡◌, ◌∷◌, ◌++◌, [], ℕ, List, append_assoc, refl}
use Rattle.sq_lines.proofs.FieldLemmas.{doubled_none}
use Rattle.sq_lines.proofs.written.append_between.Goals as goal

-- a text that grows by a quote, a field and a quote
grown : (o o1 o2 o3 field : List ℕ) → o1 ≡ o ++ 34 ∷ [] → o2 ≡ o1 ++ field → o3 ≡ o2 ++ 34 ∷ [] → o3 ≡ o ++ (34 ∷ (field ++ 34 ∷ []))
grown o o1 o2 o3 field e1 e2 e3 = simp (e3, e2, e1, append_assoc) refl

pub returns-clause-ok : goal.returns-clause-ok
returns-clause-ok c =
    rw (doubled_none c.args.field.now c.requires)
    (grown c.args.out.now.items c.push.new.self.items c.extend_from_slice.new.self.items c.push-2.new.self.items c.args.field.now
    c.in_ok-push.ensures.items c.in_ok-extend_from_slice.ensures.items c.in_ok-push-2.ensures.items)
