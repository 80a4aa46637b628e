-- New operators of a network: by the contracts of new actors, each stands for its actor in every replay that was read of it.
use Rattle.std.proofs.Common.{◌≡◌, ℕ, zero, suc, ◌-◌, ◌<◌, ◌⊎◌, Bool, true, List, [], ◌∷◌, ◌++◌, length, get_or, Option, Some, None, refl, ap, sym, ◌∙◌, subst, inl, inr}
use Rattle.std.specs.Prelude.{slice_get, is_some, ◌==◌}
use Rattle.std.specs.List.{AllByRecursion}
use Rattle.std.proofs.lemmas.Option.{slice_get-get_or}
use Rattle.std.proofs.lemmas.List.FromFn.{length-range_with_len}
use Rattle.sq_value.specs.declared.Value.{Value}
use Rattle.sq_words.specs.Lists.{numbers_to, max_by}
use Rattle.sq_oper.specs.declared.tally.Position.TheVariants.{Start}
use Rattle.sq_oper.specs.declared.outs.Decision.{Decision}
use Rattle.sq_oper.specs.Entries.{Entry}
use Rattle.sq_oper.specs.Order.{IsFuture}
use Rattle.sq_graph.specs.Wires.{inputs_of, input_arcs_of, arc_at}
use Rattle.sq_place.specs.declared.DropPoint.{DropPoint}
use Rattle.sq_net.specs.declared.Network.{Network}
use Rattle.sq_net.specs.declared.Node.{Node}
use Rattle.sq_points.specs.Points.{points_of}
use Rattle.sq_model.specs.Shedding.{Replay, batch_level}
use Rattle.sq_actor.specs.declared.actor.Actor as operator
use Rattle.sq_actor.specs.contracts.actor.ActorOperator.TheImpl.{ghosts}
use Rattle.sq_below.specs.ArcContents.{Drop}
use Rattle.sq_below.specs.Actors.{Box, WindowDrop, OutputGate}
use Rattle.sq_below.specs.Ports.{body_fits, body_marks}
use Rattle.sq_start.specs.Nets.{fed_to, drop_fed_at, drop_decisions}
use Rattle.sq_start.specs.Starts.{IsReadReplay, IsDropAbove, AreLags, IsBox, IsDrop, length_above, BoxStarts, DropStarts, OutputStarts}
use Rattle.sq_start.specs.NewOperators.{node_marks, node_fits, actor_marks, IsStarted}
use Rattle.sq_words.proofs.Bools.{and_second, and_first}
use Rattle.sq_words.proofs.Alls.{all_weaker}
use Rattle.sq_words.proofs.Lists.{length_map}
use Rattle.sq_points.specs.Above.{drop_above_output, distance_of, drop_above_box}

pub lags-many : (n : Network) (b : ℕ) (lags : List ℕ) (o : Option Drop) → AreLags n b lags o → length lags ≡ length (inputs_of n.wires b)
lags-many n b lags None e = e
lags-many n b lags (Some d) e =
    ap (λ (l : List ℕ). length l) e ∙ length_map (λ a. max_by (distance_of d.1) (input_arcs_of n.wires b) - distance_of d.1 a) (input_arcs_of n.wires b)
    ∙ length_map (arc_at n.wires b) (numbers_to (length (inputs_of n.wires b))) ∙ length-range_with_len 0 (length (inputs_of n.wires b))

-- what holds of each new operator
pub record IsFresh (a : operator.Actor) : Type 0 where
  pub none : (table : ℕ → ℕ → ℕ) (port : ℕ) → ghosts.rest a table [] port ≡ []
  pub at_start : (ghosts.place a ≡ Start) × (ghosts.taken a ≡ 0)
  pub is_valid : ghosts.valid a × (ghosts.running a ≡ true)

pub box-started : (n : Network) (b : ℕ) (x : Node) (lags : List ℕ) (marked : Bool) (a : operator.Actor) → slice_get n.boxes b ≡ Some x
    → IsDropAbove marked (drop_above_box n b) → AreLags n b lags (drop_above_box n b)
    → BoxStarts x.body lags marked (ghosts.takes_marks a) (ghosts.fits a) (ghosts.rest a) (ghosts.lost a)
    → ((table : ℕ → ℕ → ℕ) (future : List Entry) → ghosts.decides a table future ≡ [])
    → ((port : ℕ) (fields : List Value) → ghosts.fits a port fields ≡ body_fits x.body (length lags) port fields)
    → ((port : ℕ) → marked ≡ true → body_marks x.body (length lags) port ≡ true → ghosts.takes_marks a port ≡ true)
    → ((epoch : ℕ) → ghosts.reads a epoch ≡ true) → IsFresh a → (number : ℕ) → IsStarted n number (Box b) a
box-started n b x lags marked a there above are starts none fits takes reads fresh number =
    record {
      gives = λ r read is same q. starts.gives r b (box r read is) q;
      decides = λ r read is same. none (batch_level r) (fed_to r (Box b));
      loses = λ r read is same. starts.loses r b (box r read is);
      owns = λ table future may. subst (AllByRecursion (λ d. Box b ≡ WindowDrop d.drop)) (sym (none table future)) tt;
      marks = marks;
      fits = λ port fields h. fits port fields ∙ ap (λ k. body_fits x.body k port fields) (lags-many n b lags (drop_above_box n b) are) ∙ sym (ap (λ o. node_fits o (length (inputs_of n.wires b)) port fields) there) ∙ h;
      reads = reads n.epoch;
      none = fresh.none;
      at_start = fresh.at_start.0;
      none_fed = fresh.at_start.1;
      is_valid = fresh.is_valid.0;
      running = fresh.is_valid.1;
    }
  where
    box : (r : Replay) → IsReadReplay r → r.network ≡ n → IsBox r b x.body lags marked
    box r read is = record {
      read = read;
      node = x;
      there = ap (λ (m : Network). slice_get m.boxes b) is ∙ there;
      is = refl;
      above = subst (λ (m : Network). IsDropAbove marked (drop_above_box m b)) (sym is) above;
      lagging = subst (λ (m : Network). AreLags m b lags (drop_above_box m b)) (sym is) are;
    }

    below : (o : Option Drop) → IsDropAbove marked o → is_some o ≡ true → marked ≡ true
    below None above h = absurd (cc h)
    below (Some d) above h = above

    marks : (port : ℕ) → actor_marks n (Box b) port ≡ true → ghosts.takes_marks a port ≡ true
    marks port h =
        let first = and_first (is_some (drop_above_box n b)) (node_marks (slice_get n.boxes b) (length (inputs_of n.wires b)) port) h in
        let second = and_second (is_some (drop_above_box n b)) (node_marks (slice_get n.boxes b) (length (inputs_of n.wires b)) port) h in
        takes port (below (drop_above_box n b) above first)
        (ap (λ k. body_marks x.body k port) (lags-many n b lags (drop_above_box n b) are) ∙ sym (ap (λ o. node_marks o (length (inputs_of n.wires b)) port) there) ∙ second)

pub drop-started : (n : Network) (w : ℕ) (p : DropPoint) (number : ℕ) (a : operator.Actor) → slice_get (points_of n) w ≡ Some p
    → DropStarts w p n.epoch number (ghosts.takes_marks a) (ghosts.fits a) (ghosts.rest a) (ghosts.decides a)
    → ((table : ℕ → ℕ → ℕ) (future : List Entry) → IsFuture (ghosts.takes_marks a) (ghosts.fits a) Start future → AllByRecursion (λ d. d.drop ≡ w) (ghosts.decides a table future))
    → ((future : List Entry) → ghosts.lost a future ≡ 0) → ((port : ℕ) (fields : List Value) → ghosts.fits a port fields ≡ (port == 0))
    → ghosts.reads a n.epoch ≡ true → IsFresh a → IsStarted n number (WindowDrop w) a
drop-started n w p number a there starts own none fits reads fresh =
    record {
      gives = λ r read is same q. (let k = known r is in ap (λ es. ghosts.rest a (batch_level r) es q) (ap (drop_fed_at r) k) ∙ starts.gives r (of r read is same) q);
      decides = λ r read is same. (let k = known r is in ap (ghosts.decides a (batch_level r)) (ap (drop_fed_at r) k) ∙ starts.decided r (of r read is same) ∙ sym (ap (drop_decisions r w) k));
      loses = λ r read is same. none (fed_to r (WindowDrop w));
      owns = λ table future may. all_weaker (λ (d : Decision). d.drop ≡ w) (λ (d : Decision). WindowDrop w ≡ WindowDrop d.drop) (λ d e. ap WindowDrop (sym e)) (ghosts.decides a table future) (own table future may);
      marks = λ port h. absurd (cc h);
      fits = λ port fields h. fits port fields ∙ h;
      reads = reads;
      none = fresh.none;
      at_start = fresh.at_start.0;
      none_fed = fresh.at_start.1;
      is_valid = fresh.is_valid.0;
      running = fresh.is_valid.1;
    }
  where
    known : (r : Replay) → r.network ≡ n → slice_get (points_of r.network) w ≡ Some p
    known r is = ap (λ (m : Network). slice_get (points_of m) w) is ∙ there

    of : (r : Replay) → IsReadReplay r → r.network ≡ n → r.seed ≡ number → IsDrop r w p n.epoch number
    of r read is same = record { read = read; there = known r is; epochs = ap (λ (m : Network). m.epoch) is; seed = same }

pub output-started : (n : Network) (o : ℕ) (len : Option ℕ) (a : operator.Actor) → length_above (drop_above_output n o) ≡ len
    → OutputStarts len (ghosts.takes_marks a) (ghosts.fits a) (ghosts.rest a)
    → ((table : ℕ → ℕ → ℕ) (future : List Entry) → ghosts.decides a table future ≡ []) → ((future : List Entry) → ghosts.lost a future ≡ 0)
    → ((port : ℕ) (fields : List Value) → ghosts.fits a port fields ≡ true) → ((port : ℕ) → ghosts.takes_marks a port ≡ (port == 0))
    → ((epoch : ℕ) → ghosts.reads a epoch ≡ true) → IsFresh a → (number : ℕ) → IsStarted n number (OutputGate o) a
output-started n o len a told starts none lost fits takes reads fresh number =
    record {
      gives = λ r read is same q. starts.gives r o (record { read = read; told = ap (λ (m : Network). length_above (drop_above_output m o)) is ∙ told }) q;
      decides = λ r read is same. none (batch_level r) (fed_to r (OutputGate o));
      loses = λ r read is same. lost (fed_to r (OutputGate o));
      owns = λ table future may. subst (AllByRecursion (λ d. OutputGate o ≡ WindowDrop d.drop)) (sym (none table future)) tt;
      marks = λ port h. takes port ∙ h;
      fits = λ port fields h. fits port fields;
      reads = reads n.epoch;
      none = fresh.none;
      at_start = fresh.at_start.0;
      none_fed = fresh.at_start.1;
      is_valid = fresh.is_valid.0;
      running = fresh.is_valid.1;
    }

-- ---- one more operator

at-append : {X : Type 0} (xs : List X) (x y : X) (k : ℕ) → slice_get (xs ++ x ∷ []) k ≡ Some y → (slice_get xs k ≡ Some y) ⊎ ((k ≡ length xs) × (x ≡ y))
at-append [] x y zero e = inr (refl, cc e)
at-append [] x y (suc k) e = absurd (cc e)
at-append (z ∷ xs) x y zero e = inl e
at-append (z ∷ xs) x y (suc k) e =
    elim (at-append xs x y k e) [
      | inl h ↦ inl h
      | inr h ↦ inr (ap suc h.0, h.1)
    ]

-- what holds of each operator so far, and of one more behind them, holds of each
pub more-at : {X : Type 0} (P : ℕ → X → Type 0) (xs ys : List X) (x : X) → ys ≡ xs ++ x ∷ [] → ((k : ℕ) (y : X) → slice_get xs k ≡ Some y → P k y) → P (length xs) x
    → (k : ℕ) (y : X) → slice_get ys k ≡ Some y → P k y
more-at P xs ys x is before last k y there =
    elim (at-append xs x y k (ap (λ l. slice_get l k) (sym is) ∙ there)) [
      | inl h ↦ before k y h
      | inr h ↦ subst (λ j. P j y) (sym h.0) (subst (P (length xs)) h.1 last)
    ]

pub node-there : (xs ys : List Node) (b : ℕ) (none : Node) → ys ≡ xs → b < length xs → slice_get xs b ≡ Some (get_or ys b none)
node-there xs ys b none same low = slice_get-get_or xs b none low ∙ ap (λ l. Some (get_or l b none)) (sym same)
