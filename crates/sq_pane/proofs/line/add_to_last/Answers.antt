use Rattle.std.proofs.Common.{◌≡◌, ℕ, ◌-◌, ◌<◌, length, get_or, set, ap, ◌∙◌, arith}
use Rattle.std.proofs.lemmas.Result.{on_ok_weaker, on_err_weaker}
use Rattle.sq_pane.proofs.LineLemmas.{set_same, rises_set, made_set, total_at, total_set, set_is_put}
use Rattle.sq_rows.proofs.RowLemmas.{made_at}
use Rattle.sq_pane.proofs.line.add_to_last.Goals as goal

pub add-requires-clause-made : goal.add-requires-clause-made
add-requires-clause-made g c =
    let es = c.args.states.now.items in
    let i : ℕ = c.len-last.result - 1 in
    let some = c.requires.some in
    let len = c.len-last.ensures in
    made_at (g.F.Fold.made c.args.fold.now) es i c.index_mut.result.now (omega (arith, some, len)) c.index_mut.ensures.value c.requires.made

pub add-requires-clause-few : goal.add-requires-clause-few
add-requires-clause-few g c =
    let es = c.args.states.now.items in
    let i : ℕ = c.len-last.result - 1 in
    let some = c.requires.some in
    let len = c.len-last.ensures in
    let le = total_at (g.F.Fold.number c.args.fold.now) es i c.index_mut.result.now (omega (arith, some, len)) c.index_mut.ensures.value in
    let few = c.requires.few in
    omega (arith, le, few)

pub returns-clause-added : goal.returns-clause-added
returns-clause-added g c =
    let fold = c.args.fold.now in
    let es = c.args.states.now.items in
    let i : ℕ = c.len-last.result - 1 in
    let some = c.requires.some in
    let len = c.len-last.ensures in
    let x = c.index_mut.result.now in
    let same : c.len-last.result ≡ length es = omega (arith, len) in
    let inside : i < length es = omega (arith, some, len) in
    on_ok_weaker c.add.result
    (λ e pane last. ap (λ s. set es i (x.0, s)) e
    ∙ set_is_put (g.F.Fold.none fold) (g.F.Fold.joined fold) pane (g.F.Fold.unit fold c.args.t.now) es i x c.requires.rises inside c.index_mut.ensures.value
    (ap (λ (z : ℕ × g.row.F-State.Denot). z.0) c.index_mut.ensures.value ∙ ap (λ n. (get_or es (n - 1) x).0) same ∙ last x))
    c.add.ensures.value

pub returns-clause-rises : goal.returns-clause-rises
returns-clause-rises g c =
    let es = c.args.states.now.items in
    let i : ℕ = c.len-last.result - 1 in
    let some = c.requires.some in
    let len = c.len-last.ensures in
    rises_set es i c.index_mut.result.now c.add.new.s (omega (arith, some, len)) c.index_mut.ensures.value c.requires.rises

pub returns-clause-made : goal.returns-clause-made
returns-clause-made g c =
    let es = c.args.states.now.items in
    let i : ℕ = c.len-last.result - 1 in
    on_ok_weaker c.add.result (λ e. made_set (g.F.Fold.made c.args.fold.now) es i (c.index_mut.result.now.0, c.add.new.s) c.requires.made e.0) c.add.ensures.made

pub returns-clause-total : goal.returns-clause-total
returns-clause-total g c =
    let es = c.args.states.now.items in
    let i : ℕ = c.len-last.result - 1 in
    let some = c.requires.some in
    let len = c.len-last.ensures in
    let x = c.index_mut.result.now in
    on_ok_weaker c.add.result (λ e. total_set (g.F.Fold.number c.args.fold.now) es i x (x.0, c.add.new.s) 1 (omega (arith, some, len)) c.index_mut.ensures.value e.1) c.add.ensures.made

pub returns-clause-err : goal.returns-clause-err
returns-clause-err g c =
    let es = c.args.states.now.items in
    let i : ℕ = c.len-last.result - 1 in
    let some = c.requires.some in
    let len = c.len-last.ensures in
    let x = c.index_mut.result.now in
    on_err_weaker c.add.result (λ e. ap (λ s. set es i (x.0, s)) e ∙ set_same es i x (omega (arith, some, len)) c.index_mut.ensures.value) c.add.ensures.err
