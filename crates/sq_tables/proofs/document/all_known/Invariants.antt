use Rattle.std.proofs.Common.{◌≡◌, string_bytes}
use Rattle.std.specs.List.{list_any, list_all}
use Rattle.std.specs.BTreeMap.{keys}
use Rattle.sq_words.specs.Lists.{same_bytes}
use Rattle.sq_tables.proofs.document.all_known.Given as goal

abbrev pub invariant-loop-key : goal.invariant-loop-key
invariant-loop-key l =
    list_all (λ key. list_any (λ word. same_bytes (string_bytes key) word.now) l.known) l.key-iterator
    ≡ list_all (λ key. list_any (λ word. same_bytes (string_bytes key) word.now) l.known) (keys l.fn.table)
