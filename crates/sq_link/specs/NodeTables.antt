-- What a table of nodes stands for.
use Rattle.std.specs.Prelude.{◌≡◌, ℕ, zero, suc, ◌<◌, List, [], ◌∷◌, map, length, drop, Option, Some, None, slice_index_or, slice_set, refl}
use Rattle.std.specs.Coded.{Coded, code_by, coded×, coded_ℕ, coded_list}
use Rattle.sq_words.specs.Lists.{nth}
use Rattle.sq_link.specs.declared.table.ListNode.{ListNode}
use Rattle.sq_link.specs.declared.table.Ends.{Ends}
use Rattle.sq_link.specs.ChainLists.{Chained, StandsIn, Apart, head_or}

-- the lists of a table, and how many nodes it has
pub record Linked : Type 0 where
  pub lists : List (List ℕ)
  pub nodes : ℕ

-- lists of which the first is the free list
abbrev pub chained : Linked → Chained
chained v = record { lists = drop 1 v.lists; free = nth v.lists 0; nodes = v.nodes }

abbrev pub linked_code : Coded Linked
linked_code = code_by (List (List ℕ) × ℕ) (coded× (coded_list (coded_list coded_ℕ)) coded_ℕ)
    (λ c. (c.lists, c.nodes)) (λ p. record { lists = p.0; nodes = p.1 }) (λ _. refl)

abbrev pub loose_node : ListNode
loose_node = record { list = None; before = None; after = None }

abbrev pub no_ends : Ends
no_ends = record { first = None; last = None }

abbrev pub node_at : List ListNode → ℕ → ListNode
node_at nodes n = slice_index_or nodes n loose_node

abbrev pub ends_at : List Ends → ℕ → Ends
ends_at ends l = slice_index_or ends l no_ends

-- the last of a list, or what stands before it
abbrev pub last_or : Option ℕ → List ℕ → Option ℕ
last_or before [] = before
last_or before (x ∷ xs) = last_or (Some x) xs

-- the nodes behind each other, at most so many
abbrev pub walk : List ListNode → ℕ → Option ℕ → List ℕ
walk nodes zero at = []
walk nodes (suc k) None = []
walk nodes (suc k) (Some n) = n ∷ walk nodes k (node_at nodes n).after

-- the lists that begin at these ends
unfoldable pub walked : List ListNode → List Ends → List (List ℕ)
walked nodes ends = map (λ e. walk nodes (length nodes) e.first) ends

-- the nodes of a list, of which each knows the one before it and the one after it
abbrev pub Run : List ListNode → ℕ → Option ℕ → List ℕ → Option ℕ → Type 0
Run nodes l before [] after = Unit {0}
Run nodes l before (x ∷ xs) after =
    (x < length nodes) × (node_at nodes x ≡ record { list = Some l; before = before; after = head_or xs after }) × Run nodes l (Some x) xs after

-- a list of the table, with its ends
pub record IsLinked (nodes : List ListNode) (l : ℕ) (ends : Ends) (xs : List ℕ) : Type 0 where
  pub run : Run nodes l None xs None
  pub first : ends.first ≡ head_or xs None
  pub last : ends.last ≡ last_or None xs
  pub apart : Apart xs

-- a node stands in the list that it names
abbrev pub IsHome : ℕ → List (List ℕ) → Option ℕ → Type 0
IsHome n lists None = Unit {0}
IsHome n lists (Some l) = (l < length lists) × StandsIn n (nth lists l)

-- the table stands for these lists
pub record AreLinked (nodes : List ListNode) (ends : List Ends) (lists : List (List ℕ)) : Type 0 where
  pub many : length lists ≡ length ends
  pub each : (l : ℕ) → l < length ends → IsLinked nodes l (ends_at ends l) (nth lists l)
  pub homes : (n : ℕ) → n < length nodes → IsHome n lists (node_at nodes n).list

-- the nodes, where the one at a place has another before or after it
abbrev pub with_before : List ListNode → Option ℕ → Option ℕ → List ListNode
with_before nodes None to = nodes
with_before nodes (Some n) to = slice_set nodes n (record (node_at nodes n) { before = to })

abbrev pub with_after : List ListNode → Option ℕ → Option ℕ → List ListNode
with_after nodes None to = nodes
with_after nodes (Some n) to = slice_set nodes n (record (node_at nodes n) { after = to })

abbrev pub some_or : Option ℕ → ℕ → ℕ
some_or None n = n
some_or (Some m) n = m

abbrev pub ends_pushed : Ends → ℕ → Ends
ends_pushed ends n = record { first = Some (some_or ends.first n); last = Some n }

-- what stays, unless there is none before it
abbrev pub kept_end : Option ℕ → Option ℕ → Option ℕ → Option ℕ
kept_end None other here = other
kept_end (Some n) other here = here

abbrev pub ends_taken : Ends → Option ℕ → Option ℕ → Ends
ends_taken ends before after = record { first = kept_end before after ends.first; last = kept_end after before ends.last }
