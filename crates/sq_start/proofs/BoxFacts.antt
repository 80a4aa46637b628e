-- What the law of early drop says of the box that a new actor stands for.
use Rattle.std.proofs.Common.{◌≡◌, ℕ, ◌-◌, Bool, true, false, List, [], ◌∷◌, length, Option, Some, None, refl, ap, sym, ◌∙◌, subst}
use Rattle.std.specs.List.{All}
use Rattle.std.proofs.lemmas.List.FromFn.{length-range_with_len}
use Rattle.sq_value.specs.declared.Value.{Value}
use Rattle.sq_value.specs.Values.{IsStream}
use Rattle.sq_item.specs.Things.{Content, Sign, Thing}
use Rattle.sq_item.specs.Things as item
use Rattle.sq_oper.specs.declared.tally.Position.TheVariants.{Start}
use Rattle.sq_oper.specs.Entries.{Entry}
use Rattle.sq_oper.specs.Order.{content_fits, AllFit, IsFuture}
use Rattle.sq_tagged.specs.TaggedStreams.{HasNoMarks}
use Rattle.sq_graph.specs.Wires.{inputs_of, input_arcs_of, arc_at}
use Rattle.sq_words.specs.Lists.{numbers_to, max_by}
use Rattle.sq_net.specs.declared.Body.{Body}
use Rattle.sq_net.specs.SoundNetworks.{IsSound}
use Rattle.sq_model.specs.FittingStreams.{SourcesFit}
use Rattle.sq_model.specs.Shedding.{Replay}
use Rattle.sq_below.specs.ArcContents.{Drop, plain_gives, marked_gives, box_gives, box_fed}
use Rattle.sq_below.specs.Actors.{Box, box_stream, stream_of}
use Rattle.sq_below.specs.Ports.{body_fits, body_marks, marks_where, may_be_below, AllReady, FuturesWiden}
use Rattle.sq_start.specs.Starts.{IsDropAbove, AreLags, IsBox}
use Rattle.sq_words.proofs.Lists.{length_map}
use Rattle.sq_points.specs.Above.{distance_of, drop_above_box}

-- what is fed is ready, wherever a replay was read
abbrev pub Ready : Type 0
Ready = (r : Replay) → IsSound r.network → All IsStream r.sources → SourcesFit r.network r.sources → AllReady r

load-plain : (marks : ℕ → Bool) (fits : ℕ → List Value → Bool) (port : ℕ) (load : Content) → (marks port ≡ true → ⊥) → content_fits marks fits port load ≡ true → item.is_body load ≡ true
load-plain marks fits port (Sign m) none h = absurd (none h)
load-plain marks fits port (item.Body fields) none h = refl

none-marked : (marks : ℕ → Bool) (fits : ℕ → List Value → Bool) (es : List Entry) → ((port : ℕ) → marks port ≡ true → ⊥) → AllFit marks fits es → HasNoMarks es
none-marked marks fits [] none h = tt
none-marked marks fits (e ∷ es) none h = (load-plain marks fits e.port e.thing.content (none e.port) h.0, none-marked marks fits es none h.1)

module _ (readies : Ready) (widen : FuturesWiden) (r : Replay) (b : ℕ) (kind : Body) (lags : List ℕ) (marked : Bool) (h : IsBox r b kind lags marked) where
  pub all-ready : AllReady r
  all-ready = readies r h.read.sound h.read.streams h.read.fit

  ready : IsFuture (marks_where (drop_above_box r.network b) (body_marks kind (length (inputs_of r.network.wires b)))) (body_fits kind (length (inputs_of r.network.wires b))) Start (box_fed r b)
  ready =
      subst (λ k. IsFuture (marks_where (drop_above_box r.network b) (body_marks k (length (inputs_of r.network.wires b)))) (body_fits k (length (inputs_of r.network.wires b))) Start (box_fed r b)) h.is
      (all-ready.boxes b h.node h.there)

  pub lags-many : length lags ≡ length (inputs_of r.network.wires b)
  lags-many = by (drop_above_box r.network b) h.lagging
    where
      by : (o : Option Drop) → AreLags r.network b lags o → length lags ≡ length (inputs_of r.network.wires b)
      by None e = e
      by (Some d) e =
          ap (λ (l : List ℕ). length l) e ∙ length_map (λ a. max_by (distance_of d.1) (input_arcs_of r.network.wires b) - distance_of d.1 a) (input_arcs_of r.network.wires b)
          ∙ length_map (arc_at r.network.wires b) (numbers_to (length (inputs_of r.network.wires b))) ∙ length-range_with_len 0 (length (inputs_of r.network.wires b))

  -- all that it is fed may come to what takes as much as the box
  pub box-future : (marks : ℕ → Bool) (fits : ℕ → List Value → Bool)
      → ((port : ℕ) → marked ≡ true → body_marks kind (length lags) port ≡ true → marks port ≡ true)
      → ((port : ℕ) (fields : List Value) → body_fits kind (length lags) port fields ≡ true → fits port fields ≡ true)
      → IsFuture marks fits Start (box_fed r b)
  box-future marks fits m f =
      widen (marks_where (drop_above_box r.network b) (body_marks kind (length (inputs_of r.network.wires b)))) marks (body_fits kind (length (inputs_of r.network.wires b))) fits Start (box_fed r b)
      (λ port e. by (drop_above_box r.network b) h.above port e)
      (λ port fields e. f port fields (ap (λ k. body_fits kind k port fields) lags-many ∙ e))
      ready
    where
      by : (o : Option Drop) → IsDropAbove marked o → (port : ℕ) → marks_where o (body_marks kind (length (inputs_of r.network.wires b))) port ≡ true → marks port ≡ true
      by None above port e = absurd (cc e)
      by (Some d) above port e = m port above (ap (λ k. body_marks kind k port) lags-many ∙ e)

  no-marks-fed : drop_above_box r.network b ≡ None → HasNoMarks (box_fed r b)
  no-marks-fed none =
      none-marked (marks_where (drop_above_box r.network b) (body_marks kind (length (inputs_of r.network.wires b)))) (body_fits kind (length (inputs_of r.network.wires b))) (box_fed r b)
      (λ port m. let bad : false ≡ true = sym (ap (λ o. marks_where o (body_marks kind (length (inputs_of r.network.wires b))) port) none) ∙ m in cc bad) ready.fitting

  -- what gives as its kind does gives the box's stream
  pub box-stream : (q : ℕ) (given : List Thing)
      → (marked ≡ false → HasNoMarks (box_fed r b) → given ≡ plain_gives kind (box_fed r b) q)
      → (marked ≡ true → given ≡ marked_gives kind lags (box_fed r b) q)
      → given ≡ stream_of r (Box b, q)
  box-stream q given plain below =
      by (drop_above_box r.network b) refl h.above h.lagging ∙ ap (λ k. box_gives r (drop_above_box r.network b) b k (box_fed r b) q) (sym h.is) ∙ ap (λ o. box_stream r b o q) (sym h.there)
    where
      by : (o : Option Drop) → drop_above_box r.network b ≡ o → IsDropAbove marked o → AreLags r.network b lags o → given ≡ box_gives r (drop_above_box r.network b) b kind (box_fed r b) q
      by None e above are = plain above (no-marks-fed e) ∙ ap (λ o. box_gives r o b kind (box_fed r b) q) (sym e)
      by (Some d) e above are = below above ∙ ap (λ l. marked_gives kind l (box_fed r b) q) are ∙ ap (λ o. box_gives r o b kind (box_fed r b) q) (sym e)

  -- where it may not lie below a drop, it doesn't
  pub none-above : may_be_below kind ≡ false → drop_above_box r.network b ≡ None
  none-above bad = by (drop_above_box r.network b) refl
    where
      by : (o : Option Drop) → drop_above_box r.network b ≡ o → drop_above_box r.network b ≡ None
      by None e = e
      by (Some d) e =
          let good : true ≡ false = sym (sym (ap may_be_below h.is) ∙ all-ready.kinds b h.node d h.there e) ∙ bad in
          absurd (cc good)

  pub not-marked : may_be_below kind ≡ false → marked ≡ false
  not-marked bad = subst (IsDropAbove marked) (none-above bad) h.above
