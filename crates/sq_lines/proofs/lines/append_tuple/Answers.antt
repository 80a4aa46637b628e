use Rattle.std.proofs.Common.{◌≡◌, ◌∷◌, ◌++◌, [], ℕ, List, append_assoc, map, refl}
use Rattle.std.specs.Fmt.{decimal}
use Rattle.sq_lines.specs.LineTexts.{field_text, more_fields}
use Rattle.sq_value.specs.Texts.{text_of}
use Rattle.sq_lines.proofs.lines.append_tuple.Goals as goal
use Rattle.sq_lines.proofs.ReadBack.{row_is}

-- a text that grows by a name, a comma, a time, the values and a line feed
grown : (o o1 o2 o3 o4 o5 name time values : List ℕ) → o1 ≡ o ++ name → o2 ≡ o1 ++ 44 ∷ [] → o3 ≡ o2 ++ time → o4 ≡ o3 ++ values → o5 ≡ o4 ++ 10 ∷ []
    → o5 ≡ o ++ (name ++ 44 ∷ (time ++ values) ++ 10 ∷ [])
grown o o1 o2 o3 o4 o5 name time values e1 e2 e3 e4 e5 = simp (e5, e4, e3, e2, e1, append_assoc) refl

pub returns-clause-ok : goal.returns-clause-ok
returns-clause-ok c =
    let name = rw (c.as_bytes.ensures.value, c.as_str.ensures) at c.in_ok-append_field.ensures.ok in
    rw (row_is c.args.name.now (decimal c.args.time) (map text_of c.args.values.now))
    (grown c.args.out.now.items c.append_field.new.out.items c.push.new.self.items c.append_number.new.out.items c.append_values.new.out.items c.push-2.new.self.items
    (field_text c.args.name.now) (field_text (decimal c.args.time)) (more_fields (map text_of c.args.values.now))
    name c.in_ok-push.ensures.items c.in_ok-append_number.ensures.ok c.in_ok-append_values.ensures.ok c.in_ok-push-2.ensures.items)
