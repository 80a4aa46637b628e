-- The feed of a box that gives for each mark and each tuple by itself, from what it gave for an item's mark and then for its tuple.
use Rattle.std.proofs.Common.{◌≡◌, ℕ, ◌+◌, Bool, List, refl, ◌∙◌}
use Rattle.std.specs.Prelude.{Result, Ok, Err, IsErrAnd, is_some, if◌then◌else◌}
use Rattle.sq_value.specs.declared.Value.{Value}
use Rattle.sq_item.specs.declared.Item.{Item}
use Rattle.sq_item.specs.Things.{Content, Thing}
use Rattle.sq_road.specs.Levels.{LevelTable}
use Rattle.sq_oper.specs.declared.tally.Tally.{Tally}
use Rattle.sq_oper.specs.declared.outlet.Outlet.{Ghosts}
use Rattle.sq_oper.specs.Outflow.{given, ThingsUpTo}
use Rattle.sq_oper.specs.Giving.{GaveSome}
use Rattle.sq_oper.specs.Laws.{Meaning, Feeds}
use Rattle.sq_oper.proofs.GivingLemmas.{keeps-some, keeps-both}
use Rattle.sq_oper.proofs.QuietFeeds.{quiet, Noted, quiet-fed, quiet-err}
use Rattle.sq_tagged.specs.EntrywiseBoxes.{given_for, for_mark, for_body}
use Rattle.sq_tagged.proofs.EntrywiseLemmas.{entrywise_law, entrywise_prefix_mark, entrywise_prefix_body, entrywise_times}

module _ {T : Type 0} (t : Ghosts T) (gives : ℕ → ℕ → Content → List Thing) (valid : Type 0) (marks : ℕ → Bool) (fits : ℕ → List Value → Bool) where
  -- what such a box means, with this tally
  abbrev pub entrywise : Tally → Meaning
  entrywise tally = quiet valid tally marks fits (λ future q. given_for (gives q) future)

  module _ (levels : LevelTable) (port : ℕ) (item : Item) (was is : Tally) (a b : T) (n : ℕ) where
    pub entrywise-fed : {A B C E F G : Type 0} (c : T) (x : A) (y : B) (z : C) (m : ℕ) → valid → Noted port item was is → m ≡ n + (if is_some item.body then 1 else 0)
        → ((q time : ℕ) (content : Content) → ThingsUpTo time (gives q time content))
        → GaveSome {E = E} t (λ q. for_mark (gives q) item.time item.mark) a b (Ok x) → GaveSome {E = F} t (λ q. for_body (gives q) item.time item.body) b c (Ok y)
        → Feeds {E = G} t levels port item (entrywise was) (entrywise is) a c n m (Ok z)
    entrywise-fed c x y z m holds noted cost up g h =
        quiet-fed t levels port item valid valid was is marks marks fits fits (λ future q. given_for (gives q) future) (λ future q. given_for (gives q) future) a c n z m holds noted refl refl cost
        (λ future may q. entrywise_law (gives q) port item future (given q (t.items a)) (given q (t.items b)) (given q (t.items c)) (g.given q) (h.given q))
        (λ q. entrywise_times (gives q) (up q) port item) (λ q. refl) h.stays_ready (h.drops ∙ g.drops) (keeps-both t a b c (keeps-some t a b g) (keeps-some t b c h))

    -- memory ran out at the mark, or at the tuple
    pub entrywise-mark : {A B E F : Type 0} (Q : F → Type 0) (e : E) (r : Result B F) → IsErrAnd r Q
        → GaveSome {A = A} t (λ q. for_mark (gives q) item.time item.mark) a b (Err e) → Feeds t levels port item (entrywise was) (entrywise is) a b n n r
    entrywise-mark Q e r failed g =
        quiet-err t levels port item valid valid was is marks marks fits fits (λ future q. given_for (gives q) future) (λ future q. given_for (gives q) future) a b n Q r failed
        (λ future may q. entrywise_prefix_mark (gives q) port item future (given q (t.items a)) (given q (t.items b)) (g.prefix q)) g.drops (keeps-some t a b g)

    pub entrywise-body : {A B C E F G : Type 0} (Q : F → Type 0) (c : T) (x : A) (e : E) (r : Result B F) → IsErrAnd r Q
        → GaveSome {E = G} t (λ q. for_mark (gives q) item.time item.mark) a b (Ok x) → GaveSome {A = C} t (λ q. for_body (gives q) item.time item.body) b c (Err e)
        → Feeds t levels port item (entrywise was) (entrywise is) a c n n r
    entrywise-body Q c x e r failed g h =
        quiet-err t levels port item valid valid was is marks marks fits fits (λ future q. given_for (gives q) future) (λ future q. given_for (gives q) future) a c n Q r failed
        (λ future may q. entrywise_prefix_body (gives q) port item future (given q (t.items a)) (given q (t.items b)) (given q (t.items c)) (g.given q) (h.prefix q))
        (h.drops ∙ g.drops) (keeps-both t a b c (keeps-some t a b g) (keeps-some t b c h))
