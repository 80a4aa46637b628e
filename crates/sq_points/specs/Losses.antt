-- Losses by a table of what each output loses by each step.
use Rattle.std.specs.Prelude.{ℕ, ◌≤◌, List, [], map, slice_index, slice_index_or}
use Rattle.std.specs.List.{All, sum, sum_by}
use Rattle.std.specs.List.Sorted.{IsNonDecreasing}
use Rattle.sq_words.specs.Lists.{numbers_to}
use Rattle.sq_qos.specs.Graphs.{loss_steps_of}
use Rattle.sq_net.specs.declared.Network.{Network}

abbrev pub loss_table : Network → List (List ℕ)
loss_table n = map (λ o. loss_steps_of o.graph o.weight) n.outputs

-- what an output loses by a step, both numbered from 0
abbrev pub loss_in : List (List ℕ) → ℕ → ℕ → ℕ
loss_in table k o = slice_index (slice_index_or table o []) k

unfoldable pub losses_in : List (List ℕ) → List ℕ → List ℕ
losses_in table os = map (λ k. sum_by (loss_in table k) os) (numbers_to 20)

-- the most that an output loses
abbrev pub most_lost : ℕ
most_lost = 232792560000000000

-- the losses of a graph don't fall from step to step, and together they are what it can lose
pub record IsFall (losses : List ℕ) : Type 0 where
  pub in_order : IsNonDecreasing losses
  pub together : sum losses ≤ most_lost

abbrev pub AreFalls : List (List ℕ) → Type 0
AreFalls table = All IsFall table
