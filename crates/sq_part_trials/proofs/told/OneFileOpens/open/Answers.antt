use Rattle.std.proofs.Common.{◌≡◌, rules}
use Rattle.sq_part_trials.proofs.ToldLemmas.{one-file}
use Rattle.sq_part_trials.proofs.told.OneFileOpens.open.Goals as goal

pub returns-then-eq : goal.returns-then-eq
returns-then-eq c =
    let same : c.args.name.now ≡ c.args.self.now.name.now = search rules in
    one-file c.args.self.now.name.now c.args.name.now c.args.self.now.bytes.now same
