-- Worked rows, by evaluation.
use Rattle.sq_work.specs.Scripts.{AcceptedReplay, accepted, after_network, followed_by, outcome_of, plain_args, text_script, unread, with_sources, with_text}
use Rattle.std.specs.Prelude.{Err, None, Ok, Some, codes, if◌then◌else◌}
use Rattle.std.proofs.Common.{List, refl, ℕ, [], ◌≡◌, ◌∷◌}
use Rattle.sq_net.specs.declared.Network.{Network}
use Rattle.sq_net.specs.declared.Node.{Node}
use Rattle.sq_net.specs.declared.Output.{Output}
use Rattle.sq_command.specs.declared.RunArgs.{RunArgs}
use Rattle.sq_net.specs.declared.Source.{Source}
use Rattle.sq_value.specs.declared.Tuple.{Tuple}
use Rattle.sq_net.specs.declared.Body.TheVariants.{Union}
use Rattle.sq_status.proofs.Rows.{at}
use Rattle.std.specs.Str.{chars, is_utf8}
use Rattle.sq_command.proofs.Rows.{defaults}
use Rattle.std.specs.Char.{encode_utf8}
use Rattle.sq_words.specs.Lists.{same_bytes}
use Rattle.sq_value.specs.declared.Kind.TheVariants as kind
use Rattle.sq_graph.specs.declared.BoxKind.TheVariants as boxes
use Rattle.sq_replay.specs.declared.why.Why.TheVariants as why
use Rattle.sq_sched.specs.declared.policy.Rule.TheVariants as rule
use Rattle.sq_status.specs.declared.Status.TheVariants as status

-- two sources and their Union
abbrev pub source : List ℕ → List ℕ → Source
source name file = record { name = name; file = file; schema = (codes "v", kind.Int) ∷ [] }

abbrev union_box : Node
union_box = record { name = codes "u"; body = Union; schemas = ((codes "v", kind.Int) ∷ []) ∷ []; cost = 1; selectivity = 1000 ∷ [] }

abbrev pub output : Output
output = record { name = codes "o"; weight = 1; graph = (0, 0) ∷ (1000, 1000000) ∷ [] }

abbrev pub network : Network
network = record {
  epoch = 1000;
  batch = 1;
  wires = record { sources = 2; boxes = record { kind = boxes.Union; inputs = 0 ∷ 1 ∷ []; ports = 1 } ∷ []; outputs = 2 ∷ [] };
  sources = source (codes "p") (codes "p.csv") ∷ source (codes "q") (codes "q.csv") ∷ [];
  boxes = union_box ∷ [];
  outputs = output ∷ [];
}

-- a network and the tuples of its sources, under what words say by default
abbrev pub of_tuples : Network → List (List Tuple) → AcceptedReplay
of_tuples n sources = with_sources (unread (defaults (codes "a.toml")) n [] []) sources

absent : accepted (λ name. None) (codes "run" ∷ codes "a.toml" ∷ []) ≡ Err (status.FolderFault (codes "a.toml"))
absent = refl

-- the second source isn't looked for where the first has a bad line
first_bad : outcome_of (λ name. Some (codes "2,x\n")) (after_network (defaults (codes "a.toml")) (Ok network)) ≡ Err (status.BadStream 0 1 why.NotInt)
unfolding is_utf8 chars encode_utf8
first_bad = refl

all_read : outcome_of (λ name. Some (codes "2,7\n")) (after_network (defaults (codes "a.toml")) (Ok network)) ≡ Ok (of_tuples network ((at 2 7 ∷ []) ∷ (at 2 7 ∷ []) ∷ []))
unfolding is_utf8 chars encode_utf8
all_read = refl

-- the capacities stand before the picks and the sources
abbrev limited : RunArgs
limited = record (defaults (codes "a.toml")) { capacities = Some (codes "c"); picks = Some (codes "picks") }

bad_capacities : outcome_of (λ name. if same_bytes name (codes "c") then Some (codes "1,0\n1,5\n") else None) (after_network limited (Ok network)) ≡ Err (status.BadCapacities 2)
bad_capacities = refl

capacities_read : outcome_of (λ name. if same_bytes name (codes "c") then Some (codes "1,0\n3,-\n") else Some []) (after_network limited (Ok network))
    ≡ Ok (with_sources (unread limited network ((1, Some 0) ∷ (3, None) ∷ []) []) ([] ∷ [] ∷ []))
capacities_read = refl

-- the picks stand before the sources
abbrev picked : RunArgs
picked = record (defaults (codes "a.toml")) { rule = rule.Picks; picks = Some (codes "picks") }

bad_picks : outcome_of (λ name. if same_bytes name (codes "picks") then Some (codes "3\n\n4294967296\n") else None) (after_network picked (Ok network)) ≡ Err (status.BadPicks 3)
bad_picks = refl

no_picks_file : outcome_of (λ name. None) (after_network picked (Ok network)) ≡ Err (status.FolderFault (codes "picks"))
no_picks_file = refl

picks_read : outcome_of (λ name. if same_bytes name (codes "picks") then Some (codes "0\n4294967295\n") else Some []) (after_network picked (Ok network))
    ≡ Ok (with_sources (unread picked network [] (0 ∷ 4294967295 ∷ [])) ([] ∷ [] ∷ []))
picks_read = refl

-- an audit reads the text last
no_text_file : outcome_of (λ name. if same_bytes name (codes "t") then None else Some []) (followed_by (after_network (plain_args (codes "a.toml")) (Ok network)) (text_script (codes "t")))
    ≡ Err (status.FolderFault (codes "t"))
no_text_file = refl

text_read : outcome_of (λ name. if same_bytes name (codes "t") then Some (codes "@end\n") else Some []) (followed_by (after_network (plain_args (codes "a.toml")) (Ok network)) (text_script (codes "t")))
    ≡ Ok (with_text (of_tuples network ([] ∷ [] ∷ [])) (codes "@end\n"))
text_read = refl
