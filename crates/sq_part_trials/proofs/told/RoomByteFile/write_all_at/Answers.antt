use Rattle.std.proofs.Common.{◌≡◌, ◌+◌, ◌≤◌, ◌∙◌, length, rules, ap, sym, subst}
use Rattle.std.proofs.lemmas.List.{take_at}
use Rattle.std.specs.List.{splice}
use Rattle.sq_system.specs.ByteFiles.{KeepsBeside}
use Rattle.sq_part_trials.proofs.ToldLemmas.{splice-keeps}
use Rattle.sq_part_trials.proofs.told.RoomByteFile.write_all_at.Goals as goal

pub returns-clause-keeps : goal.returns-clause-keeps
returns-clause-keeps c =
    let items = c.args.self.now.bytes.items in
    let bytes = c.args.bytes.now in
    let at = c.args.at in
    let room : at + length bytes ≤ length items = search rules in
    let size : length c.put_bytes.new.held ≡ c.args.self.now.bytes.len = search rules in
    let now = take_at c.put_bytes.new.held _ c.args.self.now.bytes.len size ∙ c.put_bytes.ensures
    ∙ ap (λ old. splice old at (at + length bytes) bytes) c.deref_mut.ensures.value in
    subst (λ held. KeepsBeside items held at (length bytes)) (sym now) (splice-keeps items bytes at room)
