use Rattle.sq_start.proofs.StartLaws.{starts-as}
use Rattle.sq_start.proofs.starts_as_replayed.Goals as goal

pub returns : goal.returns
returns c =
    λ r net w order read new wired has.
    let law = c.early_drop_is_sound.ensures in
    starts-as r read (law.follow r read.sound read.streams read.fit) (law.drops r read.sound read.streams read.fit) (law.outputs r read.sound read.streams read.fit) (law.fed r read.sound read.streams) (law.points r read.sound) net w order new wired has
