-- What a graph keeps.
use Rattle.std.proofs.Common.{◌≡◌, ℕ, ◌+◌, ◌%◌, ◌≤◌, ◌∷◌, length, Bool, true, false, ◌&&◌, nat_le, nat_lt, ◌==◌, Option, None, refl, arith}
use Rattle.std.proofs.lemmas.Bool.Decides.{nat_tests}
use Rattle.sq_qos.specs.declared.GraphErr.{GraphErr}
use Rattle.sq_qos.specs.Graphs.{Points, graph_error, is_on_grid, first_x, last_x, rises, is_concave, unless_error}
use Rattle.sq_words.proofs.Bools.{and_true}
use Rattle.sq_words.proofs.Numbers.{eq_from}

pub unless_none : (b : Bool) (e : GraphErr) (more : Option GraphErr) → unless_error b e more ≡ None → (b ≡ true) × (more ≡ None)
unless_none true e more h = (refl, h)
unless_none false e more h = cc

pub le_from : (a b : ℕ) → nat_le a b ≡ true → a ≤ b
le_from a b h = grind (arith, nat_tests)

two_from : (n : ℕ) → nat_lt 1 n ≡ true → 2 ≤ n
two_from n h = grind (arith, nat_tests)

pub record GraphFacts (ps : Points) : Type 0 where
  pub grid : is_on_grid 0 ps ≡ true
  pub first : first_x ps ≡ 0
  pub last : last_x ps ≡ 1000
  pub two : 2 ≤ length ps
  pub rise : rises ps ≡ true
  pub concave : is_concave ps ≡ true

pub graph_facts : (ps : Points) → graph_error ps ≡ None → GraphFacts ps
graph_facts ps h =
    let a = unless_none _ _ _ h in
    let b = unless_none _ _ _ a.1 in
    let c = unless_none _ _ _ b.1 in
    let d = unless_none _ _ _ c.1 in
    let e = unless_none _ _ _ d.1 in
    let ends = and_true _ _ c.0 in
    let start = and_true _ _ ends.0 in
    record {
      grid = b.0;
      first = eq_from _ _ start.1;
      last = eq_from _ _ ends.1;
      two = two_from (length ps) start.0;
      rise = d.0;
      concave = e.0;
    }

pub record OnGrid (least : ℕ) (p : ℕ × ℕ) (ps : Points) : Type 0 where
  pub from : least ≤ p.0
  pub wide : p.0 ≤ 1000
  pub fifty : p.0 % 50 ≡ 0
  pub high : p.1 ≤ 1000000
  pub rest : is_on_grid (p.0 + 1) ps ≡ true

pub on_grid : (least : ℕ) (p : ℕ × ℕ) (ps : Points) → is_on_grid least (p ∷ ps) ≡ true → OnGrid least p ps
on_grid least p ps h =
    let a = and_true _ _ h in
    let b = and_true _ _ a.0 in
    let c = and_true _ _ b.0 in
    let d = and_true _ _ c.0 in
    record {
      from = le_from _ _ d.0;
      wide = le_from _ _ d.1;
      fifty = eq_from _ _ c.1;
      high = le_from _ _ b.1;
      rest = a.1;
    }
