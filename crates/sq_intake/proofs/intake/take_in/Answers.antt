use Rattle.std.proofs.Common.{◌≡◌, ◌<◌, ◌++◌, drop, take, subst, arith}
use Rattle.std.proofs.lemmas.List.{take_rest}
use Rattle.sq_csv.specs.Cuts.{Lacks}
use Rattle.sq_intake.proofs.IncomingLemmas.{whole_drop}
use Rattle.sq_intake.proofs.IntakeLemmas.{add_halts, add_lacks, fill_halts, fill_ok, filled_whole, none_lacks, on_ok, short_kept}
use Rattle.sq_intake.proofs.intake.take_in.Goals as goal

pub returns-then-count-eq0-clause-halts : goal.returns-then-count-eq0-clause-halts
returns-then-count-eq0-clause-halts c =
    let lines = c.args.lines.now.items in
    let kept = c.args.kept.now.items in
    let piece = c.args.piece.now in
    let now = c.keep_rest.new.text.items in
    let plain : Lacks 10 piece = subst (λ n. Lacks 10 (drop n piece)) c.if-count-eq0.true c.whole_length-count.ensures.rest in
    add_halts c.keep_rest.result (drop c.args.at.now lines) kept piece now (whole_drop c.args.at.now lines c.requires.whole)
    (add_lacks c.keep_rest.result kept piece now c.requires.lacks plain c.keep_rest.ensures.ok c.keep_rest.ensures.err) c.keep_rest.ensures.err

pub returns-then-count-eq0-clause-short : goal.returns-then-count-eq0-clause-short
returns-then-count-eq0-clause-short c =
    let lines = c.args.lines.now.items in
    let kept = c.args.kept.now.items in
    let piece = c.args.piece.now in
    let now = c.keep_rest.new.text.items in
    let plain : Lacks 10 piece = subst (λ n. Lacks 10 (drop n piece)) c.if-count-eq0.true c.whole_length-count.ensures.rest in
    short_kept c.keep_rest.result (drop c.args.at.now lines) kept piece now (whole_drop c.args.at.now lines c.requires.whole)
    (add_lacks c.keep_rest.result kept piece now c.requires.lacks plain c.keep_rest.ensures.ok c.keep_rest.ensures.err) c.keep_rest.ensures.ok

pub returns-clause-given : goal.returns-clause-given
returns-clause-given c =
    let w = c.whole_length-count.result in
    let kept = c.args.kept.now.items in
    let piece = c.args.piece.now in
    let filled : c.fill_lines.new.lines.items ≡ kept ++ take w piece = on_ok c.fill_lines.result (rw c.deref.ensures.value at c.fill_lines.ensures.ok) c.if-is_err.ensures.negation in
    fill_ok c.keep_rest-2.result c.args.lines.now.items c.args.at.now w kept piece c.fill_lines.new.lines.items c.clear.new.self.items c.keep_rest-2.new.text.items c.requires.whole c.requires.passed filled
    c.clear.ensures.items (rw (take_rest piece w) at c.keep_rest-2.ensures.ok)

pub returns-clause-halts : goal.returns-clause-halts
returns-clause-halts c =
    let w = c.whole_length-count.result in
    let kept = c.args.kept.now.items in
    let piece = c.args.piece.now in
    let none = c.clear.new.self.items in
    let now = c.keep_rest-2.new.text.items in
    let filled : c.fill_lines.new.lines.items ≡ kept ++ take w piece = on_ok c.fill_lines.result (rw c.deref.ensures.value at c.fill_lines.ensures.ok) c.if-is_err.ensures.negation in
    let some : 0 < w = omega (arith, c.if-count-eq0.false) in
    let ends = filled_whole w kept piece c.fill_lines.new.lines.items c.whole_length-count.ensures.whole some c.whole_length-count.ensures.within filled in
    let ok = rw (take_rest piece w) at c.keep_rest-2.ensures.ok in
    let err = rw (take_rest piece w) at c.keep_rest-2.ensures.err in
    fill_halts c.keep_rest-2.result c.args.lines.now.items c.args.at.now w kept piece c.fill_lines.new.lines.items none now c.requires.whole c.requires.passed filled c.clear.ensures.items ends
    (add_lacks c.keep_rest-2.result none (drop w piece) now (none_lacks none c.clear.ensures.items) c.whole_length-count.ensures.rest ok err) err

pub returns-clause-short : goal.returns-clause-short
returns-clause-short c =
    let w = c.whole_length-count.result in
    let kept = c.args.kept.now.items in
    let piece = c.args.piece.now in
    let none = c.clear.new.self.items in
    let now = c.keep_rest-2.new.text.items in
    let filled : c.fill_lines.new.lines.items ≡ kept ++ take w piece = on_ok c.fill_lines.result (rw c.deref.ensures.value at c.fill_lines.ensures.ok) c.if-is_err.ensures.negation in
    let some : 0 < w = omega (arith, c.if-count-eq0.false) in
    let ends = filled_whole w kept piece c.fill_lines.new.lines.items c.whole_length-count.ensures.whole some c.whole_length-count.ensures.within filled in
    let ok = rw (take_rest piece w) at c.keep_rest-2.ensures.ok in
    let err = rw (take_rest piece w) at c.keep_rest-2.ensures.err in
    short_kept c.keep_rest-2.result c.fill_lines.new.lines.items none (drop w piece) now ends
    (add_lacks c.keep_rest-2.result none (drop w piece) now (none_lacks none c.clear.ensures.items) c.whole_length-count.ensures.rest ok err) ok

pub returns-clause-whole : goal.returns-clause-whole
returns-clause-whole c =
    let w = c.whole_length-count.result in
    let kept = c.args.kept.now.items in
    let piece = c.args.piece.now in
    let filled : c.fill_lines.new.lines.items ≡ kept ++ take w piece = on_ok c.fill_lines.result (rw c.deref.ensures.value at c.fill_lines.ensures.ok) c.if-is_err.ensures.negation in
    let some : 0 < w = omega (arith, c.if-count-eq0.false) in
    filled_whole w kept piece c.fill_lines.new.lines.items c.whole_length-count.ensures.whole some c.whole_length-count.ensures.within filled
