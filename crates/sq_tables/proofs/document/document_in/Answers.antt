use Rattle.std.proofs.Common.{◌≡◌, true, refl}
use Rattle.sq_tables.proofs.DocumentLemmas.{document-read, document-refused}
use Rattle.sq_tables.proofs.document.document_in.Goals as goal

pub returns-in-Ok-clause-ok : goal.returns-in-Ok-clause-ok
returns-in-Ok-clause-ok c = document-read c.args.bytes.now _ c.in-Ok.ensures.ok.0 c.in-Ok.ensures.ok.1

pub returns-else-is_memory-clause-toml : goal.returns-else-is_memory-clause-toml
returns-else-is_memory-clause-toml c = λ _. (refl, document-refused c.args.bytes.now (c.in-Err.ensures.refused (λ m. let t : c.is_memory.result ≡ true = c.is_memory.ensures.1 m in cc)))
