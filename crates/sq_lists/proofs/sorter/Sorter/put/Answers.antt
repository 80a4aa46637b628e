use Rattle.std.proofs.Common.{◌≡◌, ℕ, ◌<◌, ◌≤◌, Bool, List, length, Option, None, Some, is_some, refl, sym, subst, arith}
use mir.Val.{bool_byte}
use Rattle.std.specs.Option.{option_to_list}
use Rattle.sq_value.specs.declared.Value.{Value}
use Rattle.sq_value.specs.declared.Tuple.{Tuple}
use Rattle.sq_lists.specs.Sorting.{Numbered}
use Rattle.sq_lists.specs.Sorters.{SorterState, IsSorter}
use Rattle.sq_lists.proofs.SorterFacts.{next-keeps, put-few, put-full}
use Rattle.sq_lists.proofs.sorter.Sorter.put.Goals as goal

abbrev record_of : ℕ → List Numbered → ℕ → ℕ → ℕ → SorterState
record_of slack held number latest given = record { slack = slack; held = held; number = number; latest = latest; given = given }

abbrev tuple_of : ℕ → List Value → Tuple
tuple_of time fields = record { time = time; fields = fields }

one-or-none : (o : Option Tuple) (b : Bool) (n : ℕ) → b ≡ is_some o → n ≡ bool_byte b → n ≡ length (option_to_list o)
one-or-none None b n e f = rw (f, e) refl
one-or-none (Some x) b n e f = rw (f, e) refl

pub invariant_of-self-then-len-self : goal.invariant_of-self-then-len-self
invariant_of-self-then-len-self c =
    let s = record_of c.self.inside.slack c.self.inside.held c.self.inside.number c.self.inside.latest c.self.inside.given in
    let x = tuple_of c.args.time c.args.fields in
    let is = c.in_ok-put.ensures.ok in
    let few : length c.put.new.self ≤ c.self.inside.slack = omega (arith, c.len.ensures, c.if-len-self.true) in
    let both = put-few s x c.put.new.self is few in
    subst (λ (z : SorterState). IsSorter z) (sym both.0) (next-keeps s x c.self.invariant)

pub returns-then-len-self-clause-next : goal.returns-then-len-self-clause-next
returns-then-len-self-clause-next c =
    let s = record_of c.self.inside.slack c.self.inside.held c.self.inside.number c.self.inside.latest c.self.inside.given in
    let x = tuple_of c.args.time c.args.fields in
    let is = c.in_ok-put.ensures.ok in
    let few : length c.put.new.self ≤ c.self.inside.slack = omega (arith, c.len.ensures, c.if-len-self.true) in
    let both = put-few s x c.put.new.self is few in
    rw (← c.self.view_is) both.0

pub returns-then-len-self-clause-gives : goal.returns-then-len-self-clause-gives
returns-then-len-self-clause-gives c =
    let s = record_of c.self.inside.slack c.self.inside.held c.self.inside.number c.self.inside.latest c.self.inside.given in
    let x = tuple_of c.args.time c.args.fields in
    let is = c.in_ok-put.ensures.ok in
    let few : length c.put.new.self ≤ c.self.inside.slack = omega (arith, c.len.ensures, c.if-len-self.true) in
    let both = put-few s x c.put.new.self is few in
    rw (← c.self.view_is) both.1

pub invariant_of-self-2 : goal.invariant_of-self-2
invariant_of-self-2 c =
    let s = record_of c.self.inside.slack c.self.inside.held c.self.inside.number c.self.inside.latest c.self.inside.given in
    let x = tuple_of c.args.time c.args.fields in
    let is = c.in_ok-put.ensures.ok in
    let over : c.self.inside.slack < length c.put.new.self = omega (arith, c.len.ensures, c.if-len-self.false) in
    let more = one-or-none c.take_on_time-first.result c.is_some.result c.from.result c.is_some.ensures c.from.ensures in
    let e = c.take_on_time-first.ensures in
    let both = put-full s x c.put.new.self c.take_on_time-first.new.held c.take_on_time-first.new.latest c.from.result c.take_on_time-first.result is over e.held e.latest e.gives more in
    subst (λ (z : SorterState). IsSorter z) (sym both.0) (next-keeps s x c.self.invariant)

pub returns-clause-next : goal.returns-clause-next
returns-clause-next c =
    let s = record_of c.self.inside.slack c.self.inside.held c.self.inside.number c.self.inside.latest c.self.inside.given in
    let x = tuple_of c.args.time c.args.fields in
    let is = c.in_ok-put.ensures.ok in
    let over : c.self.inside.slack < length c.put.new.self = omega (arith, c.len.ensures, c.if-len-self.false) in
    let more = one-or-none c.take_on_time-first.result c.is_some.result c.from.result c.is_some.ensures c.from.ensures in
    let e = c.take_on_time-first.ensures in
    let both = put-full s x c.put.new.self c.take_on_time-first.new.held c.take_on_time-first.new.latest c.from.result c.take_on_time-first.result is over e.held e.latest e.gives more in
    rw (← c.self.view_is) both.0

pub returns-clause-gives : goal.returns-clause-gives
returns-clause-gives c =
    let s = record_of c.self.inside.slack c.self.inside.held c.self.inside.number c.self.inside.latest c.self.inside.given in
    let x = tuple_of c.args.time c.args.fields in
    let is = c.in_ok-put.ensures.ok in
    let over : c.self.inside.slack < length c.put.new.self = omega (arith, c.len.ensures, c.if-len-self.false) in
    let more = one-or-none c.take_on_time-first.result c.is_some.result c.from.result c.is_some.ensures c.from.ensures in
    let e = c.take_on_time-first.ensures in
    let both = put-full s x c.put.new.self c.take_on_time-first.new.held c.take_on_time-first.new.latest c.from.result c.take_on_time-first.result is over e.held e.latest e.gives more in
    rw (← c.self.view_is) both.1
