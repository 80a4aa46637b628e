use Rattle.std.proofs.Common.{◌≡◌, ◌++◌, map, drop}
use Rattle.sq_words.specs.Lists.{IsPrefixOf}
use Rattle.sq_value.specs.Texts.{text_of}
use Rattle.sq_lines.specs.LineTexts.{more_fields}
use Rattle.sq_lines.proofs.lines.append_values.Given as goal

abbrev pub invariant-loop-value : goal.invariant-loop-value
invariant-loop-value l =
    (l.out.items ++ more_fields (map text_of (drop l.value-index l.values)) ≡ l.initial.out.items ++ more_fields (map text_of l.values))
    × IsPrefixOf l.initial.out.items l.out.items
