-- The ready list.
use Rattle.std.specs.Prelude.{◌≡◌, ℕ, ◌==◌, ◌<◌, true, false, List, [], ◌∷◌, length, if◌then◌else◌}
use Rattle.sq_link.specs.ChainLists.{Chained}
use Rattle.sq_words.specs.Lists.{contains_number, nth}

-- actors below a number, of which some are ready, in order
pub record ReadyTable : Type 0 where
  pub actors : ℕ
  pub list : List ℕ

-- all but one
abbrev pub without_actor : ℕ → List ℕ → List ℕ
without_actor actor [] = []
without_actor actor (x ∷ xs) = if x == actor then xs else x ∷ without_actor actor xs

-- each actor in it is below the number
abbrev pub AreActors : ℕ → List ℕ → Type 0
AreActors actors xs = (x : ℕ) → contains_number xs x ≡ true → x < actors

-- none stands twice
abbrev pub OnlyOnce : List ℕ → Type 0
OnlyOnce [] = Unit {0}
OnlyOnce (x ∷ xs) = (contains_number xs x ≡ false) × OnlyOnce xs

-- the actors that the first list of some chains holds
abbrev pub ready_in : Chained → List ℕ
ready_in chains = nth chains.lists 0

-- chains of one list, with a node for each actor below a number and none free; so many stand in the list
pub record IsReadyList (actors : ℕ) (chains : Chained) (count : ℕ) : Type 0 where
  pub one : length chains.lists ≡ 1
  pub none_free : chains.free ≡ []
  pub each : chains.nodes ≡ actors
  pub counted : count ≡ length (ready_in chains)
