use Rattle.std.proofs.Common.{◌≡◌, ◌∙◌, sym, ap, refl, ℕ, false, List, [], ◌∷◌, ◌++◌, Bor, Option, None, Some}
use Rattle.std.specs.Prelude.{is_some}
use Rattle.indexmap.proofs.CallerLemmas.{insert_entry-new}
use Rattle.sq_rules.specs.Streaming.{number_named}
use Rattle.sq_rules.proofs.NumberLemmas.{number_new, number_old}
use Rattle.sq_rules.proofs.streams.add_number.Goals as goal

pub returns-then-contains_key : goal.returns-then-contains_key
returns-then-contains_key c = λ w. number_old (number_named c.args.numbers.now.entries) c.args.name.now c.args.number w (sym c.contains_key.ensures ∙ c.if-contains_key.true)

no_number : (o : Option ℕ) → is_some o ≡ false → o ≡ None
no_number None h = refl
no_number (Some n) h = cc

pub returns : goal.returns
returns c = λ w.
    let absent : number_named c.args.numbers.now.entries c.args.name.now ≡ None = no_number (number_named c.args.numbers.now.entries c.args.name.now) (sym c.contains_key.ensures ∙ c.if-contains_key.false) in
    let grown : c.insert.new.self.entries ≡ c.args.numbers.now.entries ++ (c.args.name, c.args.number) ∷ [] = c.in_ok-insert.ensures.entries ∙ insert_entry-new _ c.args.numbers.now c.args.name c.args.number absent in
    ap (λ (es : List (Bor (List ℕ) × ℕ)). number_named es w) grown ∙ number_new c.args.numbers.now.entries c.args.name c.args.number w
