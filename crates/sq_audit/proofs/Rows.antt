-- Texts and their verdicts, worked out.
use Rattle.std.proofs.Common.{◌≡◌, ℕ, List, [], ◌∷◌, ◌++◌, refl, pos}
use Rattle.std.specs.Prelude.{map, codes}
use Rattle.std.specs.Fmt.{digits}
use Rattle.sq_value.specs.declared.Value.TheVariants as value
use Rattle.sq_value.specs.declared.Kind.TheVariants as kind
use Rattle.sq_value.specs.declared.Tuple.{Tuple}
use Rattle.sq_words.specs.Lists.{numbers_to}
use Rattle.sq_aggfn.specs.declared.Func.{Func}
use Rattle.sq_aggfn.specs.declared.Func.TheVariants as func
use Rattle.sq_graph.specs.declared.BoxKind.TheVariants as boxes
use Rattle.sq_net.specs.declared.Network.{Network}
use Rattle.sq_net.specs.declared.Node.{Node}
use Rattle.sq_net.specs.declared.Body.TheVariants as body
use Rattle.sq_audit.specs.Audits.{audit_of}
use Rattle.sq_verdict.specs.declared.verdict.AuditWhy.TheVariants as why
use Rattle.sq_verdict.specs.declared.verdict.Verdict.TheVariants as verdict

abbrev at : ℕ → ℕ → Tuple
at t v = record { time = t; fields = value.Int (pos v) ∷ [] }

abbrev ticks : List (List Tuple)
ticks = map (λ t. at t t) (numbers_to 16) ∷ []

abbrev aggregate : List ℕ → Func → ℕ → ℕ → Node
aggregate name f size advance = record {
  name = name;
  body = body.Aggregate (f ∷ []) [] (record { size = size; advance = advance; phase = 0 });
  schemas = [];
  cost = 1;
  selectivity = 1000 ∷ [];
}

-- two Aggregates, one behind the other
abbrev network_c : Network
network_c = record {
  epoch = 4;
  batch = 1;
  wires = record {
    sources = 1;
    boxes = record { kind = boxes.Aggregate; inputs = 0 ∷ []; ports = 1 } ∷ record { kind = boxes.Aggregate; inputs = 1 ∷ []; ports = 1 } ∷ [];
    outputs = 2 ∷ [];
  };
  sources = record { name = codes "s"; file = []; schema = (codes "v", kind.Int) ∷ [] } ∷ [];
  boxes = aggregate (codes "a1") (func.Sum 0) 4 2 ∷ aggregate (codes "a2") (func.Max 0) 4 4 ∷ [];
  outputs = record { name = codes "o"; weight = 1; graph = (0, 0) ∷ (1000, 1000000) ∷ [] } ∷ [];
}

abbrev line : List ℕ → List ℕ
line l = l ++ 10 ∷ []

abbrev one : List ℕ
one = line (codes "@drop,0,1,1000")

abbrev two : List ℕ
two = line (codes "@drop,0,2,1000")

abbrev first : List ℕ
first = line (codes "o,0,14")

abbrev last : List ℕ
last = line (codes "o,12,54")

abbrev end : List ℕ
end = line (codes "@end")

whole : audit_of network_c ticks (first ++ one ++ two ++ last ++ end) ≡ verdict.Yes
unfolding digits
whole = refl

other_value : audit_of network_c ticks (first ++ one ++ two ++ line (codes "o,12,55") ++ end) ≡ verdict.No 4 why.Line
unfolding digits
other_value = refl

not_recorded : audit_of network_c ticks (first ++ one ++ last ++ end) ≡ verdict.No 3 why.Line
unfolding digits
not_recorded = refl

no_end : audit_of network_c ticks (first ++ one ++ two ++ last) ≡ verdict.No 5 why.Short
unfolding digits
no_end = refl

exchanged : audit_of network_c ticks (first ++ two ++ one ++ last ++ end) ≡ verdict.No 3 why.Drop
unfolding digits
exchanged = refl

nothing : audit_of network_c ticks [] ≡ verdict.No 1 why.Short
unfolding digits
nothing = refl

other_name : audit_of network_c ticks (line (codes "x,1") ++ end) ≡ verdict.No 1 why.Form
unfolding digits
other_name = refl

leading_zero : audit_of network_c ticks (first ++ line (codes "@drop,0,01,1000") ++ two ++ last ++ end) ≡ verdict.No 2 why.Drop
unfolding digits
leading_zero = refl

behind_end : audit_of network_c ticks (first ++ one ++ two ++ last ++ end ++ end) ≡ verdict.No 6 why.End
unfolding digits
behind_end = refl

missing_line : audit_of network_c ticks (first ++ one ++ two ++ end) ≡ verdict.No 5 why.Short
unfolding digits
missing_line = refl

unended : audit_of network_c ticks (first ++ one ++ two ++ last ++ codes "@end") ≡ verdict.No 5 why.Short
unfolding digits
unended = refl
