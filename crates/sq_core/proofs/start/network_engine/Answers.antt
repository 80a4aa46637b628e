use Rattle.std.proofs.Common.{◌≡◌, ℕ, None, slice_get, ◌+◌, ◌∙◌, refl, ap, sym, subst, map, length, arith}
use Rattle.std.proofs.lemmas.List.{length-map}
use Rattle.sq_points.proofs.Bounds.{at_most, counts}
use Rattle.sq_model.specs.Shedding.{Replay}
use Rattle.sq_flow.specs.Flows.{more_from}
use Rattle.sq_flow.specs.Wiring.{IsShaped}
use Rattle.sq_core.specs.Meanings.{actors}
use Rattle.sq_core.specs.NewSeats.{AreNewSeats}
use Rattle.sq_core.specs.Runs.{IsSoundEngine}
use Rattle.sq_core.specs.Table.{AreWires}
use Rattle.sq_core.proofs.KnownLemmas.{many-none, none-come}
use Rattle.sq_core.proofs.NewEngine.{all-places, few-queued, new-answers, new-seats, none-fed, places-of, plans-start, read-parts, rising, starts-ready}
use Rattle.sq_core.proofs.start.network_engine.Goals as goal

pub network_wires-requires-clause-places : goal.network_wires-requires-clause-places
network_wires-requires-clause-places c = all-places c.early_drop_is_sound.ensures.points c.args.n.now c.requires.parts.sound _ (c.deref.ensures.value ∙ c.in_ok-points.ensures)

pub new-requires : goal.new-requires
new-requires c =
    let n = c.args.n.now in
    let sound = c.requires.parts.sound in
    let sources = c.args.sources.items in
    let many = length-map sources (λ v. v.items) in
    let lists = c.requires.parts.lists in
    let most = at_most 1 8 (length n.sources) (counts n sound.within).0 in
    record {
      shaped = subst (IsShaped c.in_ok-wires.wires) (sym c.in_ok-seats.ensures.count) c.in_ok-wires.ensures.shaped;
      seats = new-seats n sound (places-of c.early_drop_is_sound.ensures.points n sound) c.in_ok-wires.wires c.in_ok-wires.ensures c.args.seed c.in_ok-seats.seats.items c.in_ok-seats.ensures
          c.arcs_may_come.ensures.marks c.arcs_may_come.ensures.tuples c.new-levels.result.epoch (sym (ap (λ l. l.epoch) c.new-levels.ensures));
      sources = record {
        coming = rising sources c.requires.parts.streams c.requires.parts.tuples;
        told = many-none c.args.ahead.items (length sources) c.requires.known;
        few = omega (arith, many, lists, most);
        few_tuples = few-queued sources c.requires.parts.few;
      };
      levels = (ap (λ l. l.closed) c.new-levels.ensures, ap (λ l. l.rows) c.new-levels.ensures);
      frames = c.requires.parts.frames;
    }

pub returns : goal.returns
returns c =
    let n = c.args.n.now in
    let sound = c.requires.parts.sound in
    let e = c.in_ok-engine.engine in
    let flow = e.flow in
    let made = c.in_ok-engine.ensures in
    let begins = made.begins in
    let r : Replay = record { network = n; sources = map (λ v. v.items) c.args.sources.items; entries = c.args.capacities.now; seed = c.args.seed } in
    let read = read-parts r c.args.frames c.requires.parts in
    let places = places-of c.early_drop_is_sound.ensures.points n sound in
    let wired : AreWires n flow.wires = subst (AreWires n) (sym begins.parts.wires_are) c.in_ok-wires.ensures in
    let seated : AreNewSeats n c.args.seed flow.seats.items = subst (λ v. AreNewSeats n c.args.seed v.items) (sym begins.parts.seats_are) c.in_ok-seats.ensures in
    let whole : IsSoundEngine (record { network = n; engine = e }) = record { network = sound; laid = record { boxes = wired.sheds; drops = wired.shown; operators = seated.count }; engine = made.engine } in
    let known : (source : ℕ) → more_from (slice_get flow.ahead.items source) ≡ None = none-come flow.ahead.items (length c.args.sources.items) (begins.parts.ahead_are ∙ c.requires.known) in
    record {
      sound = whole;
      run = λ pages steps. record {
        network = refl;
        sound = whole;
        together = begins.parts.together pages;
        at = record {
          read = read;
          counted = (let none = none-fed r read places flow wired seated in omega (arith, none));
          plans = plans-start r flow c.in_ok-planner.planner c.new-levels.result.epoch begins.parts.planner_is c.in_ok-planner.ensures (ap (λ l. l.epoch) c.new-levels.ensures) begins.plans.planned begins.plans.plans;
          answers = λ told. new-answers r read places flow wired seated c.arcs_may_come.ensures.fed c.in_ok-seats.seats c.args.sources refl _ _ _ _ _ begins.parts pages c.starts_as_replayed.ensures;
        };
      };
      known = known;
      ready = starts-ready actors n sound e made.engine wired seated.count begins.parts.runs begins.parts.bare known;
      frames = begins.parts.framed;
    }
