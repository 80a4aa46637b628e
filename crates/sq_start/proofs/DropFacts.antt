-- New window drops and gates: by their clauses, what they do for all that they are fed.
use Rattle.std.proofs.Common.{◌≡◌, ℕ, Bool, true, List, [], ◌∷◌, map, Option, Some, None, refl, ap, sym, ◌∙◌, subst}
use Rattle.std.specs.Prelude.{◌==◌}
use Rattle.std.specs.List.{All, AllByRecursion, filter}
use Rattle.sq_value.specs.declared.Value.{Value}
use Rattle.sq_value.specs.Values.{IsStream}
use Rattle.sq_item.specs.Things.{Thing}
use Rattle.sq_oper.specs.declared.tally.Position.TheVariants.{Start}
use Rattle.sq_oper.specs.declared.outs.Decision.{Decision}
use Rattle.sq_oper.specs.Entries.{Entry}
use Rattle.sq_oper.specs.Order.{IsFuture, unmarked}
use Rattle.sq_oper.specs.Streams.{tuples_of, things, at_zero, first_port, port_fits}
use Rattle.sq_tagged.specs.TaggedStreams.{spread_of}
use Rattle.sq_tagged.specs.Boxes.{drop_tagged, until_at, batches_touched}
use Rattle.sq_windrop.specs.declared.drop.Dropping.{Dropping}
use Rattle.sq_windrop.specs.Drops.{dropping, is_batch_dropped, decision, decided}
use Rattle.sq_windrop.specs.Gates as gates
use Rattle.sq_place.specs.declared.DropPoint.{DropPoint}
use Rattle.sq_net.specs.SoundNetworks.{IsSound}
use Rattle.sq_model.specs.FittingStreams.{SourcesFit}
use Rattle.sq_model.specs.Shedding.{Replay, batch_level}
use Rattle.sq_below.specs.Laws.{PointsMeasured}
use Rattle.sq_below.specs.ArcContents.{Drop, drop_gives_all, drop_decides_all, gate_gives_all, drop_fed, output_fed, DropsFit}
use Rattle.sq_below.specs.Actors.{drop_stream}
use Rattle.sq_below.specs.Ports.{marks_where, FuturesWiden}
use Rattle.sq_start.specs.Nets.{decision_on}
use Rattle.sq_start.specs.Starts.{IsDrop, length_above, IsOutput, DropStarts, OutputStarts}
use Rattle.sq_start.proofs.BoxFacts.{Ready}
use Rattle.sq_start.proofs.PointLemmas.{own-arc, own-drop}
use Rattle.sq_start.proofs.OwnArcs.{own-fed}
use Rattle.sq_points.specs.Above.{drop_above_output}

-- all that a drop decides is its own
pub own-decided : (d : Dropping) (table : ℕ → ℕ → ℕ) (bs : List ℕ) → AllByRecursion (λ (x : Decision). x.drop ≡ d.number) (decided d table bs)
own-decided d table bs = by (filter (is_batch_dropped d table) bs)
  where
    by : (xs : List ℕ) → AllByRecursion (λ (x : Decision). x.drop ≡ d.number) (map (decision d table) xs)
    by [] = tt
    by (x ∷ xs) = (refl, by xs)

-- a drop of the replay in the words of its box
gives-as : (r : Replay) (w : ℕ) (p : DropPoint) (epoch seed : ℕ) → r.network.epoch ≡ epoch → r.seed ≡ seed
    → spread_of (drop_tagged (is_batch_dropped (dropping w p.length p.keep epoch seed) (batch_level r)) (until_at p.length p.keep) p.length (batches_touched p.length p.keep (tuples_of (drop_fed r p))) (tuples_of (drop_fed r p)))
    ≡ drop_gives_all r (w, p) (drop_fed r p)
gives-as r w p epoch seed e s =
    ap (λ z. spread_of (drop_tagged (is_batch_dropped (dropping w p.length p.keep z seed) (batch_level r)) (until_at p.length p.keep) p.length (batches_touched p.length p.keep (tuples_of (drop_fed r p))) (tuples_of (drop_fed r p)))) (sym e)
    ∙ ap (λ z. spread_of (drop_tagged (is_batch_dropped (dropping w p.length p.keep r.network.epoch z) (batch_level r)) (until_at p.length p.keep) p.length (batches_touched p.length p.keep (tuples_of (drop_fed r p))) (tuples_of (drop_fed r p)))) (sym s)

decides-as : (r : Replay) (w : ℕ) (p : DropPoint) (epoch seed : ℕ) → r.network.epoch ≡ epoch → r.seed ≡ seed
    → decided (dropping w p.length p.keep epoch seed) (batch_level r) (batches_touched p.length p.keep (tuples_of (drop_fed r p)))
    ≡ map (decision_on r w p) (drop_decides_all r (w, p) (drop_fed r p))
decides-as r w p epoch seed e s =
    ap (λ z. decided (dropping w p.length p.keep z seed) (batch_level r) (batches_touched p.length p.keep (tuples_of (drop_fed r p)))) (sym e)
    ∙ ap (λ z. decided (dropping w p.length p.keep r.network.epoch z) (batch_level r) (batches_touched p.length p.keep (tuples_of (drop_fed r p)))) (sym s)

module _ (readies : Ready) (widen : FuturesWiden) (marks : ℕ → Bool) (fits : ℕ → List Value → Bool) (rest : (ℕ → ℕ → ℕ) → List Entry → ℕ → List Thing) where
  pub drop-starts : ((r : Replay) → IsSound r.network → PointsMeasured r) → ((r : Replay) → IsSound r.network → All IsStream r.sources → SourcesFit r.network r.sources → DropsFit r)
      → (decides : (ℕ → ℕ → ℕ) → List Entry → List Decision) (w : ℕ) (p : DropPoint) (epoch seed : ℕ)
      → ((table : ℕ → ℕ → ℕ) (future : List Entry) (q : ℕ) → IsFuture marks fits Start future
      → rest table future q ≡ at_zero q (spread_of (drop_tagged (is_batch_dropped (dropping w p.length p.keep epoch seed) table) (until_at p.length p.keep) p.length (batches_touched p.length p.keep (tuples_of future)) (tuples_of future))))
      → ((table : ℕ → ℕ → ℕ) (future : List Entry) → IsFuture marks fits Start future
      → decides table future ≡ decided (dropping w p.length p.keep epoch seed) table (batches_touched p.length p.keep (tuples_of future)))
      → ((port : ℕ) (fields : List Value) → fits port fields ≡ (port == 0))
      → DropStarts w p epoch seed marks fits rest decides
  drop-starts measured drops decides w p epoch seed gives decision f =
      record {
        future = may;
        gives = λ r h q.
            gives (batch_level r) (drop_fed r p) q (may r h) ∙ ap (at_zero q) (gives-as r w p epoch seed h.epochs h.seed) ∙ ap (λ o. drop_stream r w o q) (sym h.there);
        decided = λ r h.
            decision (batch_level r) (drop_fed r p) (may r h) ∙ decides-as r w p epoch seed h.epochs h.seed
            ∙ ap (map (decision_on r w p)) ((drops r h.read.sound h.read.streams h.read.fit).decides w p);
      }
    where
      may : (r : Replay) → IsDrop r w p epoch seed → IsFuture marks fits Start (drop_fed r p)
      may r h =
          let all = readies r h.read.sound h.read.streams h.read.fit in
          let o = own-arc r.network w p h.there ((measured r h.read.sound).there p (w, h.there)) in
          let d = own-drop r.network w p h.there o in
          widen unmarked marks port_fits fits Start (drop_fed r p) (λ port e. absurd (cc e)) (λ port fields e. f port fields ∙ e)
          (subst (IsFuture unmarked port_fits Start) (own-fed r (drops r h.read.sound h.read.streams h.read.fit) p o d.0 d.1) (all.drops d.0.0 d.0.1 o.arc o.there d.1))

  pub output-starts : (len : Option ℕ)
      → ((table : ℕ → ℕ → ℕ) (future : List Entry) (q : ℕ) → IsFuture marks fits Start future → rest table future q ≡ at_zero q (things (gates.gate_shown len future)))
      → ((port : ℕ) → marks port ≡ (port == 0)) → ((port : ℕ) (fields : List Value) → fits port fields ≡ true)
      → OutputStarts len marks fits rest
  output-starts len gives m f =
      record {
        future = may;
        gives = λ r o h q.
            gives (batch_level r) (output_fed r o) q (may r o h)
            ∙ ap (λ z. at_zero q (things z)) (ap (λ l. gates.gate_shown l (output_fed r o)) (sym h.told) ∙ shown-is (drop_above_output r.network o) (output_fed r o));
      }
    where
      shown-is : (o : Option Drop) (es : List Entry) → gates.gate_shown (length_above o) es ≡ gate_gives_all o es
      shown-is None es = refl
      shown-is (Some d) es = refl

      may : (r : Replay) (o : ℕ) → IsOutput r o len → IsFuture marks fits Start (output_fed r o)
      may r o h =
          widen (marks_where (drop_above_output r.network o) first_port) marks port_fits fits Start (output_fed r o)
          (λ port e. m port ∙ first (drop_above_output r.network o) port e)
          (λ port fields e. f port fields)
          ((readies r h.read.sound h.read.streams h.read.fit).outputs o)
        where
          first : (d : Option Drop) (port : ℕ) → marks_where d first_port port ≡ true → (port == 0) ≡ true
          first None port e = absurd (cc e)
          first (Some d) port e = e
