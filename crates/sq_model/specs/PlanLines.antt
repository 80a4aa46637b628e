-- The plans that a run shows, and the lines of drops.
use Rattle.std.specs.Prelude.{ℕ, ◌*◌, List, map}
use Rattle.std.specs.List.{flat_map}
use Rattle.sq_words.specs.Lists.{numbers_to, max_by}
use Rattle.sq_lines.specs.LineTexts.{drop_line}
use Rattle.sq_place.specs.declared.DropPoint.{DropPoint}
use Rattle.sq_plan.specs.declared.closing.Shown.{Shown}
use Rattle.sq_plan.specs.PlanRows.{shown_after}
use Rattle.sq_points.specs.Points.{setting_of}
use Rattle.sq_model.specs.Shedding.{Replay, epoch_of, counts_in, batch_level, record_of}

module _ (r : Replay) where
  -- the last epoch with a tuple
  abbrev pub last_epoch : ℕ
  last_epoch = max_by (λ xs. max_by (λ x. epoch_of r x.time) xs) r.sources

  -- the plans of the epochs after one with a tuple, up to the last with one
  abbrev pub plans_shown : List Shown
  plans_shown = flat_map (shown_after (setting_of r.network r.entries) (counts_in r)) (numbers_to last_epoch)

  -- a line for each batch that is dropped, with its level
  abbrev pub drop_lines : ℕ → DropPoint → List (List ℕ)
  drop_lines w p = map (λ b. drop_line w b (batch_level r (epoch_of r (b * p.length)) w)) (record_of r w p)
