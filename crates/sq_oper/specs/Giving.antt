-- What an outlet was given by a call.
--     KeepsGiven  what any call keeps of it
--     Gave        a call that gives these marks and tuples, and drops nothing: at an `Err` none of them went out
--     GaveSome    the same, but for some of them that may have gone out before an `Err`
use Rattle.std.specs.Prelude.{◌≡◌, ℕ, List, ◌++◌, Result, OnOk, OnErr}
use Rattle.sq_words.specs.Lists.{IsPrefixOf}
use Rattle.sq_item.specs.Things.{Thing}
use Rattle.sq_oper.specs.declared.outlet.Outlet.{Ghosts}
use Rattle.sq_oper.specs.Outflow.{given, ItemsSound}

-- what was given and dropped before stays, what was sound stays so, and the outlet came there by calls of its own
pub record KeepsGiven {T : Type 0} (t : Ghosts T) (out out' : T) : Type 0 where
  pub extends : IsPrefixOf (t.items out) (t.items out')
  pub keeps_decisions : IsPrefixOf (t.drops out) (t.drops out')
  pub sound : ItemsSound (t.items out) → ItemsSound (t.items out')
  pub came : (start : T) → t.came start out → t.came start out'

pub record Gave {T A E : Type 0} (t : Ghosts T) (more : ℕ → List Thing) (out out' : T) (result : Result A E) : Type 0 where
  pub given : OnOk result ((q : ℕ) → given q (t.items out') ≡ given q (t.items out) ++ more q)
  pub err : OnErr result (t.items out' ≡ t.items out)
  pub sound : ItemsSound (t.items out) → ItemsSound (t.items out')
  pub extends : IsPrefixOf (t.items out) (t.items out')
  pub drops : t.drops out' ≡ t.drops out
  pub stays_ready : OnOk result (t.ready out')
  pub came : (start : T) → t.came start out → t.came start out'

pub record GaveSome {T A E : Type 0} (t : Ghosts T) (more : ℕ → List Thing) (out out' : T) (result : Result A E) : Type 0 where
  pub prefix : OnErr result ((q : ℕ) → IsPrefixOf (given q (t.items out')) (given q (t.items out) ++ more q))
  pub given : OnOk result ((q : ℕ) → given q (t.items out') ≡ given q (t.items out) ++ more q)
  pub sound : ItemsSound (t.items out) → ItemsSound (t.items out')
  pub extends : IsPrefixOf (t.items out) (t.items out')
  pub drops : t.drops out' ≡ t.drops out
  pub stays_ready : OnOk result (t.ready out')
  pub came : (start : T) → t.came start out → t.came start out'
