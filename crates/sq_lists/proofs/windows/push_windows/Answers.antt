use Rattle.std.proofs.Common.{ℕ, ◌≡◌, ◌+◌, ◌<◌, ◌++◌, take, sym, ap, ◌∙◌, append-nil, append_assoc, arith}
use Rattle.sq_aggfn.specs.Windows.{start_of}
use Rattle.sq_lists.specs.Windows.{in_window, window_results}
use Rattle.sq_lists.specs.WindowParts.{told_results, numbered_results}
use Rattle.sq_lists.proofs.WindowLemmas.{none_from, first_window, leading_is, told_window}
use Rattle.sq_lists.proofs.windows.push_windows.Goals as goal

pub returns : goal.returns
returns g c =
    let none = none_from (g.F.Fold.table c.args.fold.now) c.args.by.now c.args.window c.args.rest.now c.loop-k.k c.args.to c.loop-k-test.false in
    sym (append-nil c.loop-k.out.items) ∙ ap (λ l. c.loop-k.out.items ++ l) (sym none) ∙ c.loop-k.invariant

pub loop-k-preserved : goal.loop-k-preserved
loop-k-preserved g c =
    let fold = c.args.fold.now in
    let table = g.F.Fold.table fold in
    let by = c.args.by.now in
    let w = c.args.window in
    let xs = c.args.rest.now in
    let k = c.loop-k.k in
    let to = c.args.to in
    let start : ℕ = c.start_of-start.result in
    let is : start ≡ start_of w k = c.start_of-start.ensures in
    let lt : k < to = c.loop-k-test.true in
    let inside : take c.leading.result xs ≡ in_window w start xs = ap (λ n. take n xs) c.leading.ensures.leading ∙ leading_is w start (start_of w k) xs (omega (arith, is)) (c.requires.rises k lt) in
    let results : told_results (g.F.Fold.told fold) start c.in_ok-held.held.entries ≡ window_results table by (start_of w k) (in_window w (start_of w k) xs) =
    ap (told_results (g.F.Fold.told fold) start) c.in_ok-held.ensures.groups
    ∙ told_window (g.F.Fold.none fold) (g.F.Fold.joined fold) (g.F.Fold.unit fold) (g.F.Fold.told fold) table (g.met.F.Fold.tells fold) by start (take c.leading.result xs)
    ∙ ap (window_results table by start) inside
    ∙ ap (λ s. window_results table by s (in_window w s xs)) is in
    ap (λ l. l ++ numbered_results table by w xs (k + 1) to) (c.in_ok-push_results.ensures ∙ ap (λ l. c.loop-k.out.items ++ l) results)
    ∙ append_assoc c.loop-k.out.items (window_results table by (start_of w k) (in_window w (start_of w k) xs)) (numbered_results table by w xs (k + 1) to)
    ∙ ap (λ l. c.loop-k.out.items ++ l) (sym (first_window table by w xs k to lt))
    ∙ c.loop-k.invariant
