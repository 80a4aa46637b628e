use Rattle.std.proofs.Common.{◌≡◌, length, subst, sym, ap, ◌∙◌}
use Rattle.std.specs.Prelude.{IfSome}
use Rattle.sq_outside.specs.declared.TheConstants.{PAGE}
use Rattle.sq_outside.proofs.SwapLemmas.{swapped-whole}
use Rattle.sq_outside.proofs.mem_disk.MemDiskPageDisk.get.Goals as goal

pub copy_from_slice-requires : goal.copy_from_slice-requires
copy_from_slice-requires c =
    let found = subst (λ o. IfSome o (λ bytes. length bytes ≡ PAGE)) (sym c.in-Some.ensures) (c.self.invariant c.args.page) in
    c.requires ∙ sym (ap length c.swap_page-bytes.ensures ∙ swapped-whole c.deref.result.now c.self.inside.gets _ _ c.self.invariant (ap length c.deref-2.ensures.value ∙ found))
