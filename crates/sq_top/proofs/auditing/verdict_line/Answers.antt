use Rattle.std.proofs.Common.{◌++◌, ◌∙◌, ap, length, map, sym}
use Rattle.std.proofs.lemmas.List.{length-map}
use Rattle.std.proofs.lemmas.List.Elements.{All-from_recursion}
use Rattle.sq_value.specs.Values.{IsStream}
use Rattle.sq_audit.specs.VerdictLines.{verdict_line}
use Rattle.sq_top.proofs.SourceLemmas.{recorded_even, recorded_streams}
use Rattle.sq_top.proofs.auditing.verdict_line.Goals as goal

pub audit_text-requires-clause-lists : goal.audit_text-requires-clause-lists
audit_text-requires-clause-lists c =
    let a = c.args.accepted in
    let lists = c.in_ok-sources.sources.items in
    rw c.as_slice.ensures.value
    (sym (length-map lists (λ xs. xs.items)) ∙ ap length c.in_ok-sources.ensures ∙ recorded_even a.network.sources (map (λ xs. xs.items) a.sources.items) c.requires.recorded)

pub audit_text-requires-clause-streams : goal.audit_text-requires-clause-streams
audit_text-requires-clause-streams c =
    let a = c.args.accepted in
    rw (c.as_slice.ensures.value, c.in_ok-sources.ensures)
    (All-from_recursion IsStream (map (λ xs. xs.items) a.sources.items) (recorded_streams a.network.sources (map (λ xs. xs.items) a.sources.items) c.requires.recorded))

pub returns : goal.returns
returns c =
    let said = rw (c.as_slice.ensures.value, c.as_slice-2.ensures.value, c.in_ok-sources.ensures) at c.in_ok-verdict.ensures in
    c.in_ok-append_verdict_line.ensures.ok ∙ ap (λ xs. xs ++ verdict_line c.in_ok-verdict.verdict) c.new-line.ensures.items ∙ ap verdict_line said
