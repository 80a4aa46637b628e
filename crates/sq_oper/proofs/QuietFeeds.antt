-- The feed of a box that holds nothing back, decides on nothing and throws nothing away.
use Rattle.std.proofs.Common.{◌≡◌, ℕ, ◌+◌, Bool, true, IsTrue, List, [], ◌++◌, refl, ap, sym}
use Rattle.std.specs.Prelude.{Result, Ok, IsErrAnd, is_some, if◌then◌else◌}
use Rattle.sq_value.specs.declared.Value.{Value}
use Rattle.sq_words.specs.Lists.{IsPrefixOf}
use Rattle.sq_item.specs.declared.Item.{Item}
use Rattle.sq_item.specs.Things.{Thing}
use Rattle.sq_road.specs.Levels.{LevelTable}
use Rattle.sq_oper.specs.declared.tally.Tally.{Tally}
use Rattle.sq_oper.specs.declared.outlet.Outlet.{Ghosts}
use Rattle.sq_oper.specs.Entries.{Entry, entries}
use Rattle.sq_oper.specs.Outflow.{given, ThingsUpTo}
use Rattle.sq_oper.specs.Order.{IsFuture, after_all}
use Rattle.sq_oper.specs.Giving.{KeepsGiven}
use Rattle.sq_oper.specs.Laws.{Meaning, Feeds}
use Rattle.sq_oper.proofs.GivingLemmas.{feeds-on}

-- what such a box means
abbrev pub quiet : (valid : Type 0) → Tally → (marks : ℕ → Bool) → (fits : ℕ → List Value → Bool) → (rest : List Entry → ℕ → List Thing) → Meaning
quiet valid tally marks fits rest =
    record {
      valid = valid;
      running = tally.running;
      taken = tally.taken;
      place = tally.place;
      takes_marks = marks;
      fits = fits;
      reads = λ epoch. true;
      rest = λ table future q. rest future q;
      decides = λ table future. [];
      may_hold = λ time things. things ≡ [];
      lost = λ future. 0;
    }

-- an item as the tally notes it
pub record Noted (port : ℕ) (item : Item) (was is : Tally) : Type 0 where
  pub place : is.place ≡ after_all was.place (entries port item)
  pub taken : is.taken ≡ was.taken + (if is_some item.body then 1 else 0)
  pub running : IsTrue is.running

module _ {T : Type 0} (t : Ghosts T) (levels : LevelTable) (port : ℕ) (item : Item) (valid valid' : Type 0) (was is : Tally)
    (marks marks' : ℕ → Bool) (fits fits' : ℕ → List Value → Bool) (rest rest' : List Entry → ℕ → List Thing) (a b : T) (n : ℕ) where
  pub quiet-fed : {A E : Type 0} (x : A) (m : ℕ) → valid' → Noted port item was is → marks' ≡ marks → fits' ≡ fits
      → m ≡ n + (if is_some item.body then 1 else 0)
      → ((future : List Entry) → IsFuture marks fits was.place (entries port item ++ future)
      → (q : ℕ) → given q (t.items a) ++ rest (entries port item ++ future) q ≡ given q (t.items b) ++ rest' future q)
      → ((q : ℕ) → ThingsUpTo item.time (rest (entries port item) q)) → ((q : ℕ) → rest' [] q ≡ [])
      → t.ready b → t.drops b ≡ t.drops a → KeepsGiven t a b
      → Feeds {E = E} t levels port item (quiet valid was marks fits rest) (quiet valid' is marks' fits' rest') a b n m (Ok x)
  quiet-fed x m holds noted same_marks same_fits cost law times held ready drops keeps =
      record {
        ok =
            record {
              law = λ table future agrees may q. law future may q;
              decided = λ table future agrees may. ap (λ l. l ++ []) (sym drops);
              loses = λ future. refl;
              times = λ table agrees q. times q;
              held = λ table q. held q;
              same_hold = λ time things none. none;
              settled = λ table. refl;
              stays_ready = ready;
              stays_valid = (holds, noted.running);
              moves = noted.place;
              same = (same_marks, same_fits);
              same_epoch = refl;
              counted = noted.taken;
              cost = cost;
            };
        err = tt;
        keeps = keeps;
      }

  -- memory ran out
  pub quiet-err : {A E : Type 0} (Q : E → Type 0) (r : Result A E) → IsErrAnd r Q
      → ((future : List Entry) → IsFuture marks fits was.place (entries port item ++ future)
      → (q : ℕ) → IsPrefixOf (given q (t.items b)) (given q (t.items a) ++ rest (entries port item ++ future) q))
      → t.drops b ≡ t.drops a → KeepsGiven t a b
      → Feeds t levels port item (quiet valid was marks fits rest) (quiet valid' is marks' fits' rest') a b n n r
  quiet-err Q r failed prefix drops keeps =
      feeds-on t Q r failed
      (record {
        prefix = λ table future agrees may q. prefix future may q;
        decided_prefix = λ table future agrees may. ([], ap (λ l. l ++ []) (sym drops));
        no_cost = refl;
      }) keeps
