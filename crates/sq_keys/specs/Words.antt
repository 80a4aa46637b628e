-- What words ask for.
use Rattle.std.specs.Prelude.{Bool, true, false, ◌&&◌, nat_le, if◌then◌else◌, List, [], ◌∷◌, length, Option, Some, None, codes}
use Rattle.std.specs.List.{list_any, before_first, after_first}
use Rattle.std.specs.Option.{option_map}
use Rattle.sq_words.specs.Lists.{same_bytes}
use Rattle.sq_keys.specs.declared.Pair.{Pair}
use Rattle.sq_keys.specs.declared.KeysAsked.{KeysAsked}
use Rattle.sq_value.specs.CommandWords.{Word, is_equals, may_name}

-- both sides have something
abbrev pub whole_pair : Word → Word → Option Pair
whole_pair [] field = None
whole_pair (b ∷ bs) [] = None
whole_pair (b ∷ bs) (c ∷ cs) = Some (record { source = b ∷ bs; field = c ∷ cs })

-- `SOURCE=FIELD`: up to the first `=` is the source
abbrev pub pair_in : Word → Option Pair
pair_in w = if list_any is_equals w then whole_pair (before_first is_equals w) (after_first is_equals w) else None

abbrev pub with_pair : Option Pair → Option (List Pair) → Option (List Pair)
with_pair None more = None
with_pair (Some p) more = option_map (λ ps. p ∷ ps) more

abbrev pub pairs_in : List Word → Option (List Pair)
pairs_in [] = Some []
pairs_in (w ∷ ws) = with_pair (pair_in w) (pairs_in ws)

abbrev pub asked_by : Bool → Word → Option (List Pair) → Option KeysAsked
asked_by on_time net pairs = option_map (λ ps. record { on_time = on_time; net = net; pairs = ps }) pairs

-- `NET SOURCE=FIELD..`, with one pair to eight
abbrev pub asked_behind : Bool → List Word → Option KeysAsked
asked_behind on_time [] = None
asked_behind on_time (net ∷ ws) =
    if may_name net && nat_le 1 (length ws) && nat_le (length ws) 8 then asked_by on_time net (pairs_in ws) else None

-- `[--on-time] NET SOURCE=FIELD..`
abbrev pub asked_in : List Word → Option KeysAsked
asked_in [] = None
asked_in (w ∷ ws) = if same_bytes w (codes "--on-time") then asked_behind true ws else asked_behind false (w ∷ ws)
