-- What words ask for.
use Rattle.std.specs.Prelude.{ℕ, ◌^◌, if◌then◌else◌, List, [], ◌∷◌, Option, Some, None, codes}
use Rattle.sq_words.specs.Lists.{same_bytes}
use Rattle.sq_value.specs.CommandWords.{Word, may_name}
use Rattle.sq_value.specs.Texts.{read_number}
use Rattle.sq_slicer.specs.declared.SlicesAsked.{SlicesAsked}

abbrev pub asked_of : Option ℕ → Word → Option SlicesAsked
asked_of delay net = if may_name net then Some (record { delay = delay; net = net }) else None

abbrev pub asked_delayed : Option ℕ → Word → Option SlicesAsked
asked_delayed None net = None
asked_delayed (Some delay) net = asked_of (Some delay) net

-- `--delay TICKS NET`, with 1 to 13 digits of a number below 2^40
abbrev pub asked_with : Word → Word → Word → Option SlicesAsked
asked_with option ticks net = if same_bytes option (codes "--delay") then asked_delayed (read_number 13 (2 ^ 40) ticks) net else None

-- `[--delay TICKS] NET`
abbrev pub slices_asked : List Word → Option SlicesAsked
slices_asked (net ∷ []) = asked_of None net
slices_asked (option ∷ ticks ∷ net ∷ []) = asked_with option ticks net
slices_asked ws = None
