-- Worked rows, by evaluation.
use Rattle.std.proofs.Common.{List, refl, ℕ, [], ◌≡◌, ◌∷◌}
use Rattle.std.specs.Prelude.{None, Some, codes}
use Rattle.sq_command.specs.declared.RunArgs.{RunArgs}
use Rattle.sq_command.specs.Commands.{command_in}
use Rattle.sq_sched.specs.declared.policy.Rule.TheVariants as rule
use Rattle.sq_command.specs.declared.Command.TheVariants as command

abbrev pub defaults : List ℕ → RunArgs
defaults net = record { net = net; capacities = None; seed = 0; rule = rule.RoundRobin; picks = None; train = 16; frames = 256 }

words_run : command_in (codes "run" ∷ codes "a.toml" ∷ []) ≡ Some (command.Run (defaults (codes "a.toml")))
words_run = refl

words_none : command_in [] ≡ None
words_none = refl

words_alone : command_in (codes "run" ∷ []) ≡ None
words_alone = refl

words_two_networks : command_in (codes "run" ∷ codes "a" ∷ codes "b" ∷ []) ≡ None
words_two_networks = refl

words_no_value : command_in (codes "run" ∷ codes "a" ∷ codes "--seed" ∷ []) ≡ None
words_no_value = refl

words_empty_value : command_in (codes "run" ∷ codes "a" ∷ codes "--seed=" ∷ []) ≡ None
words_empty_value = refl

words_sign : command_in (codes "run" ∷ codes "a" ∷ codes "--seed" ∷ codes "-1" ∷ []) ≡ None
words_sign = refl

words_train : command_in (codes "run" ∷ codes "a" ∷ codes "--train" ∷ codes "0" ∷ []) ≡ None
words_train = refl

words_long_train : command_in (codes "run" ∷ codes "a" ∷ codes "--train=4097" ∷ []) ≡ None
words_long_train = refl

words_picks_and_policy : command_in (codes "run" ∷ codes "a" ∷ codes "--picks" ∷ codes "p" ∷ codes "--policy" ∷ codes "rr" ∷ []) ≡ None
words_picks_and_policy = refl

words_twice : command_in (codes "run" ∷ codes "a" ∷ codes "--seed" ∷ codes "1" ∷ codes "--seed" ∷ codes "1" ∷ []) ≡ None
words_twice = refl

words_dashes : command_in (codes "run" ∷ codes "--" ∷ codes "a" ∷ []) ≡ None
words_dashes = refl

words_unknown : command_in (codes "run" ∷ codes "a" ∷ codes "--frame" ∷ codes "2" ∷ []) ≡ None
words_unknown = refl

words_one_frame : command_in (codes "run" ∷ codes "a.toml" ∷ codes "--frames" ∷ codes "1" ∷ []) ≡ None
words_one_frame = refl

words_many_frames : command_in (codes "run" ∷ codes "a.toml" ∷ codes "--frames" ∷ codes "16385" ∷ []) ≡ None
words_many_frames = refl

words_frames : command_in (codes "run" ∷ codes "--frames=16384" ∷ codes "a" ∷ []) ≡ Some (command.Run (record (defaults (codes "a")) { frames = 16384 }))
words_frames = refl

words_seed : command_in (codes "run" ∷ codes "--seed=7" ∷ codes "a.toml" ∷ []) ≡ Some (command.Run (record (defaults (codes "a.toml")) { seed = 7 }))
words_seed = refl

words_great_seed : command_in (codes "run" ∷ codes "--seed" ∷ codes "18446744073709551615" ∷ codes "a" ∷ [])
    ≡ Some (command.Run (record (defaults (codes "a")) { seed = 18446744073709551615 }))
words_great_seed = refl

words_seed_too_great : command_in (codes "run" ∷ codes "--seed" ∷ codes "18446744073709551616" ∷ codes "a" ∷ []) ≡ None
words_seed_too_great = refl

words_all : command_in (codes "run" ∷ codes "--picks=-p" ∷ codes "--train" ∷ codes "00000000000000000001" ∷ codes "a" ∷ [])
    ≡ Some (command.Run (record (defaults (codes "a")) { rule = rule.Picks; picks = Some (codes "-p"); train = 1 }))
words_all = refl

words_tap : command_in (codes "tap" ∷ codes "c.toml" ∷ codes "a1" ∷ codes "8" ∷ codes "0004" ∷ codes "q.toml" ∷ [])
    ≡ Some (command.Tap (codes "c.toml") (codes "a1") 8 4 (codes "q.toml"))
words_tap = refl

words_tap_wide : command_in (codes "tap" ∷ codes "c.toml" ∷ codes "a1" ∷ codes "1099511627776" ∷ codes "0" ∷ codes "q.toml" ∷ []) ≡ None
words_tap_wide = refl

words_tap_short : command_in (codes "tap" ∷ codes "c.toml" ∷ codes "a1" ∷ codes "8" ∷ codes "0" ∷ []) ≡ None
words_tap_short = refl

words_audit : command_in (codes "audit" ∷ codes "a.toml" ∷ codes "t" ∷ []) ≡ Some (command.Audit (codes "a.toml") (codes "t"))
words_audit = refl

words_audit_dash : command_in (codes "audit" ∷ codes "a.toml" ∷ codes "-" ∷ []) ≡ None
words_audit_dash = refl

words_capacities : command_in (codes "run" ∷ codes "a" ∷ codes "--capacities" ∷ codes "c" ∷ []) ≡ Some (command.Run (record (defaults (codes "a")) { capacities = Some (codes "c") }))
words_capacities = refl

words_two_capacities : command_in (codes "run" ∷ codes "a" ∷ codes "--capacities=c" ∷ codes "--capacities=c" ∷ []) ≡ None
words_two_capacities = refl

words_policy : command_in (codes "run" ∷ codes "a" ∷ codes "--policy" ∷ codes "seeded" ∷ []) ≡ Some (command.Run (record (defaults (codes "a")) { rule = rule.Seeded }))
words_policy = refl
