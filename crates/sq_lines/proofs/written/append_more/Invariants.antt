use Rattle.std.proofs.Common.{◌≡◌, ◌++◌, map, drop}
use Rattle.sq_words.specs.Lists.{IsPrefixOf}
use Rattle.sq_lines.specs.LineTexts.{more_fields}
use Rattle.sq_lines.proofs.written.append_more.Given as goal

abbrev pub invariant-loop-field : goal.invariant-loop-field
invariant-loop-field l =
    (l.out.items ++ more_fields (map (λ f. f.now) (drop l.field-index l.fields)) ≡ l.initial.out.items ++ more_fields (map (λ f. f.now) l.fields))
    × IsPrefixOf l.initial.out.items l.out.items
