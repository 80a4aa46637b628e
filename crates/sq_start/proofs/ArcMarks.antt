-- Marks and tuples on the arcs of a network, and the actors that they come to.
use Rattle.std.proofs.Common.{◌≡◌, ℕ, zero, suc, ◌<◌, Bool, true, false, ◌&&◌, List, [], ◌∷◌, length, get_or, Option, Some, None, refl, ap, sym, ◌∙◌, subst, arith}
use Rattle.std.specs.Prelude.{slice_get, is_some, nat_lt, ◌==◌}
use Rattle.std.specs.List.{All}
use Rattle.std.proofs.lemmas.Bool.Decides.{nat_tests}
use Rattle.std.proofs.lemmas.List.Elements.{All-nil}
use Rattle.std.proofs.lemmas.List.FromFn.{length-range_with_len}
use Rattle.std.proofs.lemmas.Option.{slice_get-get_or, slice_get_within}
use Rattle.sq_value.specs.declared.Value.{Value}
use Rattle.sq_words.specs.Lists.{numbers_to}
use Rattle.sq_value.specs.Values.{Columns, IsStream, fields_fit}
use Rattle.sq_oper.specs.declared.tally.Position.TheVariants.{Start}
use Rattle.sq_oper.specs.Order.{unmarked, IsFuture}
use Rattle.sq_graph.specs.declared.BoxWires.{BoxWires}
use Rattle.sq_graph.specs.Wires.{inputs_at, inputs_of, arc_at, input_arcs_of, output_arc_at}
use Rattle.sq_place.specs.declared.DropPoint.{DropPoint}
use Rattle.sq_place.specs.Places.{stream_on}
use Rattle.sq_net.specs.declared.Network.{Network}
use Rattle.sq_net.specs.declared.Node.{Node}
use Rattle.sq_net.specs.declared.Body.{Body}
use Rattle.sq_net.specs.declared.Body.TheVariants.{Filter, Map, Union, BSort, Aggregate, Join, Resample}
use Rattle.sq_net.specs.SoundNetworks.{IsSound}
use Rattle.sq_net.specs.Streams.{columns_of_stream}
use Rattle.sq_points.specs.Points.{points_of}
use Rattle.sq_model.specs.FittingStreams.{SourcesFit}
use Rattle.sq_model.specs.Shedding.{Replay}
use Rattle.sq_below.specs.Laws.{PointsMeasured}
use Rattle.sq_below.specs.ArcContents.{Drop, takes, fits_columns, fits_stream, fits_inputs, BoxesFit, DropsFit, OutputsFit, drop_fed}
use Rattle.sq_below.specs.Actors.{Sources, Box, WindowDrop, OutputGate}
use Rattle.sq_below.specs.Ports.{body_marks, may_be_below, AllReady, FuturesWiden}
use Rattle.sq_below.proofs.FromSound.{fits-at, ranks-of}
use Rattle.sq_below.proofs.Feeding.{inputs-alike, output-alike}
use Rattle.sq_start.specs.Numbers.{place_stream}
use Rattle.sq_start.specs.Nets.{fed_to, drop_fed_at}
use Rattle.sq_start.specs.Starts.{IsReadReplay}
use Rattle.sq_start.specs.NewOperators.{node_marks, actor_marks}
use Rattle.sq_start.specs.Arrivals.{point_streams, streams_to, FedMayCome, MarksAreTaken}
use Rattle.sq_start.proofs.BoxFacts.{Ready}
use Rattle.sq_start.proofs.PointLemmas.{own-arc, own-drop}
use Rattle.sq_start.proofs.OwnArcs.{own-fed}
use Rattle.sq_below.proofs.RankWords.{BodyFits, FitsAt}
use Rattle.sq_words.proofs.Alls.{all_at}
use Rattle.sq_words.proofs.Lists.{length_map}
use Rattle.sq_points.specs.Above.{drop_above_output, drop_above_arc, drop_above_box}

-- a replay of which nothing was recorded
abbrev bare : Network → Replay
bare n = record { network = n; sources = []; entries = []; seed = 0 }

arcs-many : (n : Network) (b : ℕ) → length (input_arcs_of n.wires b) ≡ length (inputs_of n.wires b)
arcs-many n b = length_map (arc_at n.wires b) (numbers_to (length (inputs_of n.wires b))) ∙ length-range_with_len 0 (length (inputs_of n.wires b))

first-only : (x port a : ℕ) → slice_get (x ∷ []) port ≡ Some a → (port ≡ 0) × (x ≡ a)
first-only x zero a e = (refl, cc e)
first-only x (suc port) a e = absurd (cc e)

-- ---- the ports at which marks are taken

zero-only : (port : ℕ) → port < 1 → (port == 0) ≡ true
zero-only port h = grind (arith, nat_tests)

-- a kind that may lie below a drop takes marks at each of its ports
port-marked : (k : Body) (w : BoxWires) (port : ℕ) → may_be_below k ≡ true → BodyFits k w → port < length w.inputs → body_marks k (length w.inputs) port ≡ true
port-marked (Filter ps) w port may fit low = (let one = fit.1 in zero-only port (omega (arith, one, low)))
port-marked (Map es) w port may fit low = (let one = fit.1 in zero-only port (omega (arith, one, low)))
port-marked Union w port may fit low = lower port (length w.inputs) low
  where
    lower : (a b : ℕ) → a < b → nat_lt a b ≡ true
    lower a b h = grind (arith, nat_tests)
port-marked (BSort by slack) w port may fit low = absurd (cc may)
port-marked (Aggregate fs group window) w port may fit low = (let one = fit.1 in zero-only port (omega (arith, one, low)))
port-marked (Join size on) w port may fit low = absurd (cc may)
port-marked (Resample size fs) w port may fit low = absurd (cc may)

module _ (readies : Ready) where
  -- the node of a box that reads an arc takes marks there, where it lies below a drop
  node-takes : (n : Network) → IsSound n → (b port : ℕ) (d : Drop) → drop_above_box n b ≡ Some d → port < length (inputs_of n.wires b) → node_marks (slice_get n.boxes b) (length (inputs_of n.wires b)) port ≡ true
  node-takes n sound b port d below low = by (slice_get n.boxes b) (slice_get n.wires.boxes b) refl refl (fits-at n sound b)
    where
      ready : AllReady (bare n)
      ready = readies (bare n) sound (All-nil IsStream) (λ s x e. tt)

      by : (o : Option Node) (w : Option BoxWires) → slice_get n.boxes b ≡ o → slice_get n.wires.boxes b ≡ w → FitsAt (slice_get n.boxes b) (slice_get n.wires.boxes b) → node_marks (slice_get n.boxes b) (length (inputs_of n.wires b)) port ≡ true
      by None w e f fit = (let none : slice_get n.wires.boxes b ≡ None = gone w f (subst (λ z. FitsAt z w) e (subst (FitsAt (slice_get n.boxes b)) f fit)) in
          let bad : port < 0 = subst (λ z. port < length (inputs_at z)) none low in absurd (omega (arith, bad)))
        where
          gone : (w : Option BoxWires) → slice_get n.wires.boxes b ≡ w → FitsAt None w → slice_get n.wires.boxes b ≡ None
          gone None f fit = f
          gone (Some y) f fit = absurd fit
      by (Some x) None e f fit = (let bad : port < 0 = subst (λ z. port < length (inputs_at z)) f low in absurd (omega (arith, bad)))
      by (Some x) (Some w) e f fit =
          let may = ready.kinds b x d e below in
          let fits : BodyFits x.body w = subst (λ z. FitsAt z (Some w)) e (subst (FitsAt (slice_get n.boxes b)) f fit) in
          let inside : port < length w.inputs = subst (λ z. port < length (inputs_at z)) f low in
          ap (λ o. node_marks o (length (inputs_of n.wires b)) port) e
          ∙ ap (λ z. body_marks x.body (length (inputs_at z)) port) f
          ∙ port-marked x.body w port may fits inside

  pub marks-taken : MarksAreTaken
  marks-taken n Sources port a sound there below = absurd (cc there)
  marks-taken n (WindowDrop w) port a sound there below = absurd (cc there)
  marks-taken n (OutputGate o) port a sound there below = (let f = first-only (output_arc_at n.wires o) port a there in ap (λ k. k == 0) f.0)
  marks-taken n (Box b) port a sound there below = by (drop_above_box n b) refl
    where
      alike : (o : Option Drop) → drop_above_box n b ≡ o → drop_above_arc n a ≡ o
      alike o e = all_at (λ c. drop_above_arc n c ≡ o) (input_arcs_of n.wires b) port a (inputs-alike (bare n) (ranks-of n sound) (All-nil IsStream) b o e) there

      by : (o : Option Drop) → drop_above_box n b ≡ o → actor_marks n (Box b) port ≡ true
      by None e = (let bad : false ≡ true = sym (ap is_some (alike None e)) ∙ below in absurd (cc bad))
      by (Some d) e =
          let low = slice_get_within (input_arcs_of n.wires b) port a there in
          let many = arcs-many n b in
          ap (λ o. is_some o && node_marks (slice_get n.boxes b) (length (inputs_of n.wires b)) port) e ∙ node-takes n sound b port d e (omega (arith, low, many))

-- ---- what is fed

-- what fits the columns of the streams fits
stream-fits : (n : Network) (ss : List ℕ) (fits : ℕ → List Value → Bool)
    → ((port s : ℕ) (cs : Columns) (fields : List Value) → slice_get ss port ≡ Some s → columns_of_stream n s ≡ Some cs → fields_fit cs fields ≡ true → fits port fields ≡ true)
    → (port : ℕ) (fields : List Value) → fits_inputs n ss port fields ≡ true → fits port fields ≡ true
stream-fits n ss fits wide port fields h = by (slice_get ss port) refl h
  where
    of : (s : ℕ) → slice_get ss port ≡ Some s → (o : Option Columns) → columns_of_stream n s ≡ o → fits_columns o fields ≡ true → fits port fields ≡ true
    of s there None e h = absurd (cc h)
    of s there (Some cs) e h = wide port s cs fields there e h

    by : (o : Option ℕ) → slice_get ss port ≡ o → fits_stream n o fields ≡ true → fits port fields ≡ true
    by None e h = absurd (cc h)
    by (Some s) e h = of s e (columns_of_stream n s) refl h

module _ (widen : FuturesWiden)
    (boxes : (r : Replay) → IsSound r.network → All IsStream r.sources → SourcesFit r.network r.sources → BoxesFit r)
    (drops : (r : Replay) → IsSound r.network → All IsStream r.sources → SourcesFit r.network r.sources → DropsFit r)
    (outputs : (r : Replay) → IsSound r.network → All IsStream r.sources → SourcesFit r.network r.sources → OutputsFit r)
    (measured : (r : Replay) → IsSound r.network → PointsMeasured r) where
  drop-comes : (r : Replay) (w : ℕ) (p : DropPoint) (marks : ℕ → Bool) (fits : ℕ → List Value → Bool) → IsReadReplay r → slice_get (points_of r.network) w ≡ Some p
      → ((port s : ℕ) (cs : Columns) (fields : List Value) → slice_get (place_stream r.network p.at ∷ []) port ≡ Some s → columns_of_stream r.network s ≡ Some cs → fields_fit cs fields ≡ true → fits port fields ≡ true)
      → IsFuture marks fits Start (drop_fed r p)
  drop-comes r w p marks fits read there wide =
      let law = drops r read.sound read.streams read.fit in
      let o = own-arc r.network w p there ((measured r read.sound).there p (w, there)) in
      let d = own-drop r.network w p there o in
      widen unmarked marks (fits_inputs r.network (place_stream r.network p.at ∷ [])) fits Start (drop_fed r p) (λ port e. absurd (cc e)) (stream-fits r.network (place_stream r.network p.at ∷ []) fits wide)
      (subst (λ s. IsFuture unmarked (fits_inputs r.network (s ∷ [])) Start (drop_fed r p)) o.stream
      (subst (IsFuture unmarked (fits_inputs r.network (stream_on r.network.wires o.arc ∷ [])) Start) (own-fed r law p o d.0 d.1) (law.future d.0.0 d.0.1 o.arc o.there d.1)))

  pub may-come : FedMayCome
  may-come r Sources marks fits read there arcs = record { in_order = tt; fitting = tt }
  may-come r (Box b) marks fits read there arcs =
      widen (takes (drop_above_box r.network b) (length (inputs_of r.network.wires b))) marks (fits_inputs r.network (inputs_of r.network.wires b)) fits Start (fed_to r (Box b))
      (λ port e. by (drop_above_box r.network b) refl port e)
      (stream-fits r.network (inputs_of r.network.wires b) fits arcs.wide)
      ((boxes r read.sound read.streams read.fit).future b)
    where
      by : (o : Option Drop) → drop_above_box r.network b ≡ o → (port : ℕ) → takes o (length (inputs_of r.network.wires b)) port ≡ true → marks port ≡ true
      by None e port h = absurd (cc h)
      by (Some d) e port h =
          let many = arcs-many r.network b in
          let low : port < length (inputs_of r.network.wires b) = lower port (length (inputs_of r.network.wires b)) h in
          let a = get_or (input_arcs_of r.network.wires b) port 0 in
          let at = slice_get-get_or (input_arcs_of r.network.wires b) port 0 (omega (arith, low, many)) in
          let below = all_at (λ c. drop_above_arc r.network c ≡ Some d) (input_arcs_of r.network.wires b) port a (inputs-alike r (ranks-of r.network read.sound) read.streams b (Some d) e) at in
          arcs.marked port a at (ap is_some below)
        where
          lower : (a b : ℕ) → nat_lt a b ≡ true → a < b
          lower a b h = grind (arith, nat_tests)
  may-come r (WindowDrop w) marks fits read there arcs = by (slice_get (points_of r.network) w) refl
    where
      by : (o : Option DropPoint) → slice_get (points_of r.network) w ≡ o → IsFuture marks fits Start (drop_fed_at r (slice_get (points_of r.network) w))
      by None e = subst (λ z. IsFuture marks fits Start (drop_fed_at r z)) (sym e) (record { in_order = tt; fitting = tt })
      by (Some p) e =
          subst (λ z. IsFuture marks fits Start (drop_fed_at r z)) (sym e)
          (drop-comes r w p marks fits read e (λ port s cs fields at columns fit. arcs.wide port s cs fields (ap (λ z. slice_get (point_streams r.network z) port) e ∙ at) columns fit))
  may-come r (OutputGate o) marks fits read there arcs =
      widen (takes (drop_above_output r.network o) 1) marks (fits_inputs r.network (streams_to r.network (OutputGate o))) fits Start (fed_to r (OutputGate o))
      (λ port e. by (drop_above_output r.network o) refl port e)
      (stream-fits r.network (streams_to r.network (OutputGate o)) fits arcs.wide)
      ((outputs r read.sound read.streams read.fit).future o)
    where
      by : (z : Option Drop) → drop_above_output r.network o ≡ z → (port : ℕ) → takes z 1 port ≡ true → marks port ≡ true
      by None e port h = absurd (cc h)
      by (Some d) e port h =
          let zero-only : port ≡ 0 = first port h in
          arcs.marked port (output_arc_at r.network.wires o) (ap (slice_get (output_arc_at r.network.wires o ∷ [])) zero-only) (ap is_some (output-alike r (ranks-of r.network read.sound) read.streams o (Some d) e))
        where
          first : (a : ℕ) → nat_lt a 1 ≡ true → a ≡ 0
          first a h = grind (arith, nat_tests)
