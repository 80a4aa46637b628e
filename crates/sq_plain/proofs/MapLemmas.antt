-- A Map gives what its function of whole streams gives, without marks and with marks.
use Rattle.std.proofs.Common.{◌≡◌, ℕ, ◌+◌, ◌^◌, ◌<◌, ◌≤◌, length, Bool, true, true≢false, IsTrue, List, [], ◌∷◌, ◌++◌, map, refl, ap, sym, ◌∙◌, arith, tests}
use Rattle.std.specs.Prelude.{nat_le}
use Rattle.std.proofs.lemmas.Bool.{and_parts}
use Rattle.std.proofs.lemmas.List.{length-map}
use Rattle.sq_value.specs.declared.Value.{Value}
use Rattle.sq_value.specs.declared.Tuple.{Tuple}
use Rattle.sq_item.specs.Things.{Content, Sign, Body, Thing, is_body}
use Rattle.sq_expr.specs.Trees.{Checked}
use Rattle.sq_expr.specs.Expressions.{value_of}
use Rattle.sq_lists.specs.Boxes.{map_list_of, mapped}
use Rattle.sq_oper.specs.declared.tally.Position.TheVariants.{Start}
use Rattle.sq_oper.specs.Entries.{Entry}
use Rattle.sq_oper.specs.Outflow.{ThingsUpTo}
use Rattle.sq_oper.specs.Order.{IsFuture}
use Rattle.sq_oper.specs.Streams.{IsSoundTuple, tuple_in, tuples_of, things, at_zero, tuples_in, first_port}
use Rattle.sq_oper.proofs.StreamLemmas.{at_zero-append, at_zero-nil, UpTo-at_zero}
use Rattle.sq_tagged.specs.TaggedStreams.{HasNoMarks, mark_in, marks_of, tagged_of, spread_of, mark_thing}
use Rattle.sq_tagged.specs.Boxes.{map_tagged}
use Rattle.sq_tagged.specs.EntrywiseBoxes.{given_for}
use Rattle.sq_tagged.proofs.SpreadLemmas.{spread-is, future-ordered, thing_in}
use Rattle.sq_plain.specs.Maps.{map_gives, map_rest, makes_tuple}
use Rattle.sq_expr.specs.Checking.{trees}
use Rattle.sq_tagged.proofs.TaggedWords.{marks_in, StandsFrom, IsOrdered}

-- a Map's tuples may go out
pub mapped-sound : (exprs : List Checked) (x : Tuple) → IsTrue (makes_tuple exprs) → x.time < 2 ^ 40 → IsSoundTuple (mapped (trees exprs) x)
mapped-sound exprs x few tick =
    let n : length (map (λ e. value_of e x) (trees exprs)) ≡ length exprs = length-map (trees exprs) (λ e. value_of e x) ∙ length-map exprs (λ e. e.tree) in
    let both = and_parts (nat_le 1 (length exprs)) (nat_le (length exprs) 16) few in
    let least : 1 ≤ length exprs = grind (arith, tests, both.0) in
    let most : length exprs ≤ 16 = grind (arith, tests, both.1) in
    (tick, (rw n least, rw n most))

module _ (exprs : List Checked) where
  abbrev map_at : ℕ → Content → List Thing
  map_at time (Sign m) = mark_thing (time, m) ∷ []
  map_at time (Body fields) = things (map_list_of (trees exprs) (record { time = time; fields = fields } ∷ []))

  at-zero : (q time : ℕ) (content : Content) → map_gives exprs q time content ≡ at_zero q (map_at time content)
  at-zero q time (Sign m) = refl
  at-zero q time (Body fields) = refl

  map-at-zero : (q : ℕ) (es : List Entry) → map_rest exprs es q ≡ at_zero q (given_for map_at es)
  map-at-zero q [] = sym (at_zero-nil q)
  map-at-zero q (e ∷ es) =
      ap (λ l. l ++ map_rest exprs es q) (at-zero q e.thing.time e.thing.content)
      ∙ ap (λ l. at_zero q (map_at e.thing.time e.thing.content) ++ l) (map-at-zero q es)
      ∙ sym (at_zero-append q (map_at e.thing.time e.thing.content) (given_for map_at es))

  pub map_up_to : (q time : ℕ) (content : Content) → ThingsUpTo time (map_gives exprs q time content)
  map_up_to q time (Sign m) = UpTo-at_zero time q (mark_thing (time, m) ∷ []) (omega arith, tt)
  map_up_to q time (Body fields) = UpTo-at_zero time q (things (map_list_of (trees exprs) (record { time = time; fields = fields } ∷ []))) (omega arith, tt)

  map-unmarked : (es : List Entry) → HasNoMarks es → given_for map_at es ≡ things (map_list_of (trees exprs) (tuples_of es))
  map-unmarked [] h = refl
  map-unmarked (e ∷ es) h = by e.thing.time e.thing.content h.0 (map-unmarked es h.1)
    where
      by : (time : ℕ) (content : Content) → is_body content ≡ true → given_for map_at es ≡ things (map_list_of (trees exprs) (tuples_of es))
          → map_at time content ++ given_for map_at es ≡ things (map_list_of (trees exprs) (tuple_in time content ++ tuples_of es))
      by time (Sign m) k ih = absurd (true≢false (sym k))
      by time (Body fields) k ih = ap (λ l. things (map_list_of (trees exprs) (record { time = time; fields = fields } ∷ [])) ++ l) ih

  pub map_unmarked : (q : ℕ) (es : List Entry) → HasNoMarks es → map_rest exprs es q ≡ at_zero q (things (map_list_of (trees exprs) (tuples_of es)))
  map_unmarked q es h = map-at-zero q es ∙ ap (at_zero q) (map-unmarked es h)

  map-marks : (es : List Entry) → marks_in (given_for map_at es) ≡ marks_of es
  map-marks [] = refl
  map-marks (e ∷ es) = by e.thing.time e.thing.content (map-marks es)
    where
      by : (time : ℕ) (content : Content) → marks_in (given_for map_at es) ≡ marks_of es → marks_in (map_at time content ++ given_for map_at es) ≡ mark_in time content ++ marks_of es
      by time (Sign m) ih = ap (λ l. (time, m) ∷ l) ih
      by time (Body fields) ih = ih

  map-tuples : (es : List Entry) → tuples_in (given_for map_at es) ≡ map_list_of (trees exprs) (tuples_of es)
  map-tuples [] = refl
  map-tuples (e ∷ es) = by e.thing.time e.thing.content (map-tuples es)
    where
      by : (time : ℕ) (content : Content) → tuples_in (given_for map_at es) ≡ map_list_of (trees exprs) (tuples_of es)
          → tuples_in (map_at time content ++ given_for map_at es) ≡ map_list_of (trees exprs) (tuple_in time content ++ tuples_of es)
      by time (Sign m) ih = ih
      by time (Body fields) ih = ap (λ l. mapped (trees exprs) (record { time = time; fields = fields }) ∷ l) ih

  map-ordered : (a b : ℕ) (es : List Entry) → IsOrdered a b (map thing_in es) → IsOrdered a b (given_for map_at es)
  map-ordered a b [] o = tt
  map-ordered a b (e ∷ es) o = by e.thing.time e.thing.content o.0 (map-ordered (e.thing.time + 1) e.thing.time es o.1)
    where
      by : (time : ℕ) (content : Content) → StandsFrom a b time content → IsOrdered (time + 1) time (given_for map_at es) → IsOrdered a b (map_at time content ++ given_for map_at es)
      by time (Sign m) s o = (s, o)
      by time (Body fields) s o = (s, o)

  pub map_marked : (q : ℕ) (fits : ℕ → List Value → Bool) (es : List Entry) → IsFuture first_port fits Start es → map_rest exprs es q ≡ at_zero q (spread_of (map_tagged (trees exprs) (tagged_of es)))
  map_marked q fits es may =
      map-at-zero q es
      ∙ ap (at_zero q) (spread-is 0 0 (given_for map_at es) (marks_of es) (map_list_of (trees exprs) (tuples_of es)) (map-ordered 0 0 es (future-ordered fits Start es may.in_order may.fitting)) (map-marks es) (map-tuples es))
