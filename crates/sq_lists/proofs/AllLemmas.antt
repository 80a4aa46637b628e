-- What holds of each element, by recursion on the list: std's lemmas on `All`, and the sorted list.
use Rattle.std.proofs.Common.{[], ◌∷◌, ◌++◌}
use Rattle.std.proofs.lemmas.List.Elements as each
