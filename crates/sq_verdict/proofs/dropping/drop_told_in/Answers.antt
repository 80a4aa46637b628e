use Rattle.std.proofs.Common.{◌∙◌, sym, ap}
use Rattle.std.specs.Prelude.{codes}
use Rattle.sq_words.specs.Lists.{same_bytes}
use Rattle.sq_verdict.proofs.DropLines.{no_drop}
use Rattle.sq_verdict.proofs.dropping.drop_told_in.Goals as goal

pub returns-then-not-same_bytes-clause-found : goal.returns-then-not-same_bytes-clause-found
returns-then-not-same_bytes-clause-found c =
    sym (no_drop c.args.drops c.args.line.now (ap (λ f. same_bytes f (codes "@drop")) (sym c.cut_field.ensures.field) ∙ sym c.same_bytes.ensures ∙ c.if-not-same_bytes.true))
