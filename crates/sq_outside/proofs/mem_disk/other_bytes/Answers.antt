use Rattle.std.proofs.Common.{Some, None, sym, ◌∙◌}
use Rattle.sq_outside.proofs.SwapLemmas.{another-found}
use Rattle.sq_outside.proofs.mem_disk.other_bytes.Goals as goal

pub returns-in-Some : goal.returns-in-Some
returns-in-Some c =
    c.deref.ensures.value ∙ sym (another-found c.args.pages.now.entries c.args.bytes.now (Some c.in-Some.other.now) c.in-Some.ensures.ordered c.in-Some.ensures.first)

pub returns-in-None : goal.returns-in-None
returns-in-None c = sym (another-found c.args.pages.now.entries c.args.bytes.now None c.in-None.ensures.ordered c.in-None.ensures.first)
