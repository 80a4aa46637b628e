-- Worked rows, by evaluation.
use Rattle.std.proofs.Common.{◌≡◌, refl, ℕ, false, true, List, [], ◌∷◌, Some, None, Ok, Err}
use Rattle.std.specs.Prelude.{codes}
use Rattle.sq_value.specs.declared.Kind.TheVariants as kind
use Rattle.sq_value.specs.Values.{Columns}
use Rattle.sq_aggfn.specs.declared.Func.TheVariants as func
use Rattle.sq_graph.specs.declared.BoxKind.{BoxKind}
use Rattle.sq_graph.specs.declared.BoxKind.TheVariants as boxes
use Rattle.sq_graph.specs.declared.BoxWires.{BoxWires}
use Rattle.sq_net.specs.declared.Body.{Body}
use Rattle.sq_net.specs.declared.Body.TheVariants.{Aggregate, BSort}
use Rattle.sq_net.specs.declared.NetErr.TheVariants as net
use Rattle.sq_net.specs.declared.Network.{Network}
use Rattle.sq_net.specs.declared.Node.{Node}
use Rattle.sq_net.specs.declared.Output.{Output}
use Rattle.sq_net.specs.declared.Source.{Source}
use Rattle.sq_teller.specs.declared.KeyWhy.TheVariants as why
use Rattle.sq_keys.specs.declared.Pair.{Pair}
use Rattle.sq_teller.specs.declared.Ending.TheVariants as status
use Rattle.sq_keys.specs.Words.{asked_in}
use Rattle.sq_keys.specs.Keys.{cuts_asked}
use Rattle.sq_keys.specs.Lines.{is_lost, keys_text}
use Rattle.sq_teller.specs.Replies.{Says, Refuses}
use Rattle.sq_keys.specs.Answers.{by_network}

abbrev pair : List ℕ → List ℕ → Pair
pair source field = record { source = source; field = field }

-- ---- words

words_plain : asked_in (codes "a.toml" ∷ codes "s=v" ∷ []) ≡ Some (record { on_time = false; net = codes "a.toml"; pairs = pair (codes "s") (codes "v") ∷ [] })
words_plain = refl

-- the first `=` ends the source
words_on_time : asked_in (codes "--on-time" ∷ codes "a" ∷ codes "s=v=w" ∷ codes "t=x" ∷ [])
    ≡ Some (record { on_time = true; net = codes "a"; pairs = pair (codes "s") (codes "v=w") ∷ pair (codes "t") (codes "x") ∷ [] })
words_on_time = refl

words_none : asked_in [] ≡ None
words_none = refl

words_no_pair : asked_in (codes "a" ∷ []) ≡ None
words_no_pair = refl

words_no_network : asked_in (codes "--on-time" ∷ codes "s=v" ∷ []) ≡ None
words_no_network = refl

words_dash : asked_in (codes "-a" ∷ codes "s=v" ∷ []) ≡ None
words_dash = refl

words_empty_name : asked_in ([] ∷ codes "s=v" ∷ []) ≡ None
words_empty_name = refl

words_no_equals : asked_in (codes "a" ∷ codes "sv" ∷ []) ≡ None
words_no_equals = refl

words_empty_source : asked_in (codes "a" ∷ codes "=v" ∷ []) ≡ None
words_empty_source = refl

words_empty_field : asked_in (codes "a" ∷ codes "s=" ∷ []) ≡ None
words_empty_field = refl

words_on_time_behind : asked_in (codes "a" ∷ codes "s=v" ∷ codes "--on-time" ∷ []) ≡ None
words_on_time_behind = refl

words_nine : asked_in (codes "a" ∷ codes "s=v" ∷ codes "s=v" ∷ codes "s=v" ∷ codes "s=v" ∷ codes "s=v" ∷ codes "s=v" ∷ codes "s=v" ∷ codes "s=v" ∷ codes "s=v" ∷ []) ≡ None
words_nine = refl

-- ---- pairs

abbrev columns : Columns
columns = (codes "symbol", kind.Text) ∷ (codes "price", kind.Int) ∷ []

abbrev source : List ℕ → Source
source name = record { name = name; file = []; schema = columns }

abbrev sources : List Source
sources = source (codes "trades") ∷ source (codes "rates") ∷ []

keys_second : cuts_asked sources (pair (codes "rates") (codes "price") ∷ []) ≡ Ok (None ∷ Some 1 ∷ [])
keys_second = refl

keys_both : cuts_asked sources (pair (codes "rates") (codes "symbol") ∷ pair (codes "trades") (codes "price") ∷ []) ≡ Ok (Some 1 ∷ Some 0 ∷ [])
keys_both = refl

keys_no_source : cuts_asked sources (pair (codes "quotes") (codes "none") ∷ []) ≡ Err (1, why.NoSource)
keys_no_source = refl

-- a source that was named before is told before its field
keys_twice : cuts_asked sources (pair (codes "trades") (codes "price") ∷ pair (codes "trades") (codes "none") ∷ []) ≡ Err (2, why.Twice)
keys_twice = refl

keys_no_field : cuts_asked sources (pair (codes "trades") (codes "price") ∷ pair (codes "rates") (codes "none") ∷ pair (codes "quotes") (codes "x") ∷ []) ≡ Err (2, why.NoField)
keys_no_field = refl

-- ---- texts

abbrev wired : BoxKind → List ℕ → BoxWires
wired kind inputs = record { kind = kind; inputs = inputs; ports = 1 }

abbrev node : List ℕ → Body → List Columns → Node
node name b schemas = record { name = name; body = b; schemas = schemas; cost = 1; selectivity = [] }

abbrev counted_by : ℕ → Body
counted_by column = Aggregate (func.Count ∷ []) (column ∷ []) (record { size = 60; advance = 60; phase = 0 })

abbrev output : List ℕ → Output
output name = record { name = name; weight = 1; graph = [] }

-- trades and rates; the trades sorted, and counted by symbol and by price
abbrev network : Network
network = record {
  epoch = 1000;
  batch = 1;
  wires = record {
    sources = 2;
    boxes = wired boxes.BSort (0 ∷ []) ∷ wired boxes.Aggregate (2 ∷ []) ∷ wired boxes.Aggregate (2 ∷ []) ∷ [];
    outputs = 3 ∷ 1 ∷ 2 ∷ [];
  };
  sources = sources;
  boxes = node (codes "sorted") (BSort 1 3) (columns ∷ []) ∷ node (codes "by_symbol") (counted_by 0) (columns ∷ []) ∷ node (codes "by_price") (counted_by 1) (columns ∷ []) ∷ [];
  outputs = output (codes "counts") ∷ output (codes "rates") ∷ output (codes "all") ∷ [];
}

text_on_time : keys_text network (Some 0 ∷ None ∷ []) true ≡ codes "counts,cut,symbol\nrates,whole\nall,cut,symbol\n"
text_on_time = refl

kept_on_time : is_lost network (Some 0 ∷ None ∷ []) true ≡ false
kept_on_time = refl

text_lost : keys_text network (Some 0 ∷ None ∷ []) false ≡ codes "counts,lost\nrates,whole\nall,lost\n@loses,sorted,bsort\n"
text_lost = refl

text_other_key : keys_text network (Some 1 ∷ Some 0 ∷ []) true ≡ codes "counts,lost\nrates,cut,symbol\nall,cut,price\n@loses,by_symbol,aggregate\n"
text_other_key = refl

-- ---- answers

answer_lost : by_network (record { on_time = false; net = codes "a"; pairs = pair (codes "trades") (codes "symbol") ∷ [] }) (Ok network)
    ≡ Says (codes "counts,lost\nrates,whole\nall,lost\n@loses,sorted,bsort\n") true
answer_lost = refl

answer_bad_key : by_network (record { on_time = true; net = codes "a"; pairs = pair (codes "trades") (codes "bid") ∷ [] }) (Ok network) ≡ Refuses (status.BadKey 1 why.NoField)
answer_bad_key = refl

answer_bad_network : by_network (record { on_time = true; net = codes "a"; pairs = [] }) (Err net.Toml) ≡ Refuses (status.BadNetwork net.Toml)
answer_bad_network = refl
