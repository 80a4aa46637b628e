use Rattle.sq_outside.proofs.FileLemmas.{file-files_of}
use Rattle.sq_feeds.proofs.mem_feeds.bytes_of.Goals as goal

pub returns : goal.returns
returns c = rw (file-files_of, ← c.in_ok-bytes.ensures)

pub returns-in_err-bytes : goal.returns-in_err-bytes
returns-in_err-bytes c = rw (file-files_of, ← c.in_err-bytes.ensures, c.from_residual.ensures)
