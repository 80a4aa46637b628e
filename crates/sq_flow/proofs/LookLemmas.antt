-- Looks at actors, one after another.
use Rattle.std.proofs.Common.{◌≡◌, ℕ, ◌+◌, ◌<◌, eqb, cond, Bool, true, false, not, ◌||◌, ◌&&◌, List, [], ◌∷◌, ◌++◌, length, get_or, take, refl, ap, sym, ◌∙◌, subst, append_assoc, add-one, arith}
use Rattle.std.specs.Prelude.{Vec}
use Rattle.std.specs.declared.alloc.Global.{Global}
use Rattle.std.proofs.lemmas.Option.{slice_get_read}
use Rattle.std.specs.List.{filter, range_with_len}
use Rattle.std.proofs.lemmas.List.{take_more, length-map}
use Rattle.std.proofs.lemmas.Bool.Decides.{nat_tests}
use Rattle.std.proofs.lemmas.List.Elements.{filter-append}
use Rattle.sq_flow.specs.declared.flow.Flow.{Flow}
use Rattle.sq_flow.specs.declared.engine.Engine.{Engine}
use Rattle.sq_flow.specs.Wiring.{Climbs, numbers_in, followers_of}
use Rattle.sq_flow.specs.Readiness.{is_ready, waiting}
use Rattle.sq_flow.specs.Engines.{seat_number, is_new, readers_of, Looked}
use Rattle.sq_flow.proofs.ListLemmas.{contains-range, contains-at, climbs-front, at-next}
use Rattle.sq_flow.proofs.ReadyLemmas.{looked-at}
use Rattle.sq_words.specs.Lists.{contains_number}
use Rattle.sq_words.proofs.Lists.{contains_append}
use Rattle.sq_words.proofs.Ranges.{range_more}

pub looked-more : {O : Type 0} (seen : List ℕ) (x : ℕ) (a b c : Engine O) → contains_number seen x ≡ false → Looked seen a b → Looked (x ∷ []) b c
    → Looked (seen ++ x ∷ []) a c
looked-more seen x a b c apart first second =
    record {
      flow = second.flow ∙ first.flow;
      failed = second.failed ∙ first.failed;
      actors = second.actors ∙ first.actors;
      list =
          second.list ∙ ap (λ new. b.ready.list ++ cond new (x ∷ []) []) new-same ∙ ap (λ list. list ++ filter (is_new a.flow a.ready.list) (x ∷ [])) first.list
          ∙ append_assoc a.ready.list (filter (is_new a.flow a.ready.list) seen) (filter (is_new a.flow a.ready.list) (x ∷ []))
          ∙ ap (λ new. a.ready.list ++ new) (sym (filter-append (is_new a.flow a.ready.list) seen (x ∷ [])));
      waits = λ actor.
          second.waits actor
          ∙ ap (λ f. cond (eqb x actor || false) (waiting f (seat_number (length f.seats.items) actor)) (get_or b.waits.items actor 0)) first.flow
          ∙ ap (λ count. cond (eqb x actor || false) (waiting a.flow (seat_number (length a.flow.seats.items) actor)) count) (first.waits actor)
          ∙ one (contains_number seen actor) (eqb x actor) (waiting a.flow (seat_number (length a.flow.seats.items) actor)) (get_or a.waits.items actor 0)
          ∙ ap (λ t. cond t (waiting a.flow (seat_number (length a.flow.seats.items) actor)) (get_or a.waits.items actor 0)) (sym (contains_append seen (x ∷ []) actor));
      waits_len = second.waits_len ∙ first.waits_len;
    }
  where
    or-none : (p q t : Bool) → t ≡ false → (p || (t && q)) ≡ p
    or-none true q t h = refl
    or-none false q true h = absurd (cc h)
    or-none false q false h = refl

    new-same : is_new b.flow b.ready.list x ≡ is_new a.flow a.ready.list x
    new-same =
        ap (λ f. is_new f b.ready.list x) first.flow
        ∙ ap (λ t. is_ready a.flow (seat_number (length a.flow.seats.items) x) && not t)
        (ap (λ list. contains_number list x) first.list ∙ looked-at a.flow a.ready.list seen x ∙ or-none (contains_number a.ready.list x) (is_new a.flow a.ready.list x) (contains_number seen x) apart)

    one : (p q : Bool) (w v : ℕ) → cond (q || false) w (cond p w v) ≡ cond (p || (q || false)) w v
    one true true w v = refl
    one true false w v = refl
    one false true w v = refl
    one false false w v = refl

-- the next of climbing actors
pub looked-next : {O : Type 0} (actors : List ℕ) (i x : ℕ) (a b c : Engine O) → Climbs actors → i < length actors → x ≡ get_or actors i 0
    → Looked (take i actors) a b → Looked (x ∷ []) b c → Looked (take (i + 1) actors) a c
looked-next actors i x a b c climbs low is first second =
    let more : take (i + 1) actors ≡ take i actors ++ x ∷ [] = take_more actors i 0 low ∙ ap (λ y. take i actors ++ y ∷ []) (sym is) in
    subst (λ seen. Looked seen a c) (sym more) (looked-more (take i actors) x a b c (climbs-front actors i x climbs low is) first second)

-- the next of all actors
pub looked-all : {O : Type 0} (actor : ℕ) (a b c : Engine O) → Looked (range_with_len 0 actor) a b → Looked (actor ∷ []) b c → Looked (range_with_len 0 (actor + 1)) a c
looked-all actor a b c first second =
    let same : 0 + actor ≡ actor = omega arith in
    let more : range_with_len 0 (actor + 1) ≡ range_with_len 0 actor ++ actor ∷ [] = ap (range_with_len 0) (add-one actor) ∙ range_more 0 actor ∙ ap (λ x. range_with_len 0 actor ++ x ∷ []) same in
    let apart : contains_number (range_with_len 0 actor) actor ≡ false = contains-range 0 actor actor ∙ grind (arith, nat_tests) in
    subst (λ seen. Looked seen a c) (sym more) (looked-more (range_with_len 0 actor) actor a b c apart first second)

-- one of those that follow an actor, read in its row
pub reader-read : {O : Type 0} (e : Flow O) (place index reader : ℕ) (row : Vec ℕ Global) → place < length e.wires.followers.items
    → row ≡ get_or e.wires.followers.items place row → index < length (readers_of e place) → reader ≡ get_or row.items index reader
    → (contains_number (followers_of e.wires place) reader ≡ true) × (reader + 1 ≡ get_or (readers_of e place) index 0)
reader-read e place index reader row low row_is within reader_is =
    let row_of : followers_of e.wires place ≡ row.items = ap numbers_in (slice_get_read e.wires.followers.items (length e.wires.followers.items) place row refl low row_is) in
    let is = subst (λ xs. reader ≡ get_or xs index reader) (sym row_of) reader_is in
    let many : index < length (followers_of e.wires place) = omega (arith, within, length-map (followers_of e.wires place) (λ x. x + 1)) in
    (contains-at (followers_of e.wires place) index reader reader many is, at-next (followers_of e.wires place) index reader many is)
