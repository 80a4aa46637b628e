-- What a table of nodes stands for: words of the proofs alone.
use Rattle.std.specs.Prelude.{List, None, Option, Some, slice_set, ℕ}
use Rattle.sq_link.specs.declared.table.ListNode.{ListNode}
use Rattle.sq_link.specs.NodeTables.{loose_node, with_after, with_before}

-- the nodes after n was put behind the last of a list
abbrev pub node_pushed : List ListNode → Option ℕ → ℕ → ℕ → List ListNode
node_pushed nodes last l n = slice_set (with_after nodes last (Some n)) n (record { list = Some l; before = last; after = None })

-- the nodes after n was taken out from between two
abbrev pub taken : List ListNode → ℕ → Option ℕ → Option ℕ → List ListNode
taken nodes n before after = slice_set (with_before (with_after nodes before after) after before) n loose_node
