-- What calls kept of an outlet and gave to it, one after another.
use Rattle.std.proofs.Common.{◌≡◌, ℕ, List, [], ◌++◌, refl, ap, sym, subst, ◌∙◌, append_assoc, append-nil}
use Rattle.std.specs.Prelude.{Result, Ok, Err, OnOk, IsErrAnd}
use Rattle.sq_words.specs.Lists.{IsPrefixOf}
use Rattle.sq_words.proofs.Prefixes.{prefix_itself, prefix_along}
use Rattle.sq_item.specs.declared.Item.{Item}
use Rattle.sq_item.specs.Things.{Thing}
use Rattle.sq_road.specs.Levels.{LevelTable}
use Rattle.sq_oper.specs.declared.outlet.Outlet.{Ghosts}
use Rattle.sq_oper.specs.Outflow.{given, ItemsSound}
use Rattle.sq_oper.specs.Giving.{KeepsGiven, Gave, GaveSome}
use Rattle.sq_oper.specs.Laws.{Meaning, FeedErr, Feeds, FinishErr, Finishes}

-- what is promised at a success alone
pub no_ok : {A E : Type 0} (Q : E → Type 0) (P : Type 0) (r : Result A E) → IsErrAnd r Q → OnOk r P
no_ok Q P (Ok x) h = absurd h
no_ok Q P (Err e) h = tt

module _ {T : Type 0} (t : Ghosts T) where
  pub keeps-none : (out : T) → KeepsGiven t out out
  keeps-none out = record { extends = prefix_itself (t.items out); keeps_decisions = prefix_itself (t.drops out); sound = λ h. h; came = λ start h. h }

  pub keeps-both : (a b c : T) → KeepsGiven t a b → KeepsGiven t b c → KeepsGiven t a c
  keeps-both a b c p q =
      record {
        extends = prefix_along (t.items a) (t.items b) (t.items c) p.extends q.extends;
        keeps_decisions = prefix_along (t.drops a) (t.drops b) (t.drops c) p.keeps_decisions q.keeps_decisions;
        sound = λ h. q.sound (p.sound h);
        came = λ start h. q.came start (p.came start h);
      }

  -- what only gives keeps all
  pub keeps-some : {A E : Type 0} {more : ℕ → List Thing} (a b : T) {r : Result A E} → GaveSome t more a b r → KeepsGiven t a b
  keeps-some a b g = record { extends = g.extends; keeps_decisions = ([], g.drops ∙ sym (append-nil (t.drops a))); sound = g.sound; came = g.came }

  -- all or nothing is some
  pub some : {A E : Type 0} (more : ℕ → List Thing) (a b : T) (r : Result A E) → Gave t more a b r → GaveSome t more a b r
  some more a b (Ok x) g = record { prefix = tt; given = g.given; sound = g.sound; extends = g.extends; drops = g.drops; stays_ready = g.stays_ready; came = g.came }
  some more a b (Err e) g =
      record {
        prefix = λ q. (more q, ap (λ l. given q l ++ more q) (sym g.err));
        given = tt;
        sound = g.sound;
        extends = g.extends;
        drops = g.drops;
        stays_ready = tt;
        came = g.came;
      }

  pub gives-none : {A E : Type 0} (x : A) (out : T) → t.ready out → Gave {E = E} t (λ q. []) out out (Ok x)
  gives-none x out ready =
      record {
        given = λ q. sym (append-nil (given q (t.items out)));
        err = tt;
        sound = λ h. h;
        extends = prefix_itself (t.items out);
        drops = refl;
        stays_ready = ready;
        came = λ start h. h;
      }

  -- one after another
  pub some-after : {A B E F : Type 0} (one two : ℕ → List Thing) (a b c : T) (x : A) (r : Result B F)
      → GaveSome {E = E} t one a b (Ok x) → GaveSome t two b c r → GaveSome t (λ q. one q ++ two q) a c r
  some-after one two a b c x (Ok y) g h =
      record {
        prefix = tt;
        given = λ q. h.given q ∙ ap (λ l. l ++ two q) (g.given q) ∙ append_assoc (given q (t.items a)) (one q) (two q);
        sound = λ s. h.sound (g.sound s);
        extends = prefix_along (t.items a) (t.items b) (t.items c) g.extends h.extends;
        drops = h.drops ∙ g.drops;
        stays_ready = h.stays_ready;
        came = λ start s. h.came start (g.came start s);
      }
  some-after one two a b c x (Err e) g h =
      record {
        prefix = λ q. rw (sym (append_assoc (given q (t.items a)) (one q) (two q)) ∙ ap (λ l. l ++ two q) (sym (g.given q))) (h.prefix q);
        given = tt;
        sound = λ s. h.sound (g.sound s);
        extends = prefix_along (t.items a) (t.items b) (t.items c) g.extends h.extends;
        drops = h.drops ∙ g.drops;
        stays_ready = tt;
        came = λ start s. h.came start (g.came start s);
      }

  -- in a loop: what was left to give is given, and a call that failed may have been to give anything
  pub some-rest : {A E : Type 0} (more left : ℕ → List Thing) (a b c : T) (r : Result A E) → ((q : ℕ) → given q (t.items b) ++ left q ≡ given q (t.items a) ++ more q)
      → (sound : ItemsSound (t.items a) → ItemsSound (t.items b)) → IsPrefixOf (t.items a) (t.items b) → t.drops b ≡ t.drops a → ((start : T) → t.came start a → t.came start b)
      → GaveSome t left b c r → GaveSome t more a c r
  some-rest more left a b c (Ok x) whole sound extends drops came g =
      record {
        prefix = tt;
        given = λ q. g.given q ∙ whole q;
        sound = λ s. g.sound (sound s);
        extends = prefix_along (t.items a) (t.items b) (t.items c) extends g.extends;
        drops = g.drops ∙ drops;
        stays_ready = g.stays_ready;
        came = λ start s. g.came start (came start s);
      }
  some-rest more left a b c (Err e) whole sound extends drops came g =
      record {
        prefix = λ q. subst (IsPrefixOf (given q (t.items c))) (whole q) (g.prefix q);
        given = tt;
        sound = λ s. g.sound (sound s);
        extends = prefix_along (t.items a) (t.items b) (t.items c) extends g.extends;
        drops = g.drops ∙ drops;
        stays_ready = tt;
        came = λ start s. g.came start (came start s);
      }

  pub none-went : {A B E F : Type 0} (Q : F → Type 0) (one left : ℕ → List Thing) (a b : T) (e : E) (r : Result B F) → IsErrAnd r Q
      → Gave {A = A} t one a b (Err e) → GaveSome t left a b r
  none-went Q one left a b e (Ok x) is g = absurd is
  none-went Q one left a b e (Err f) is g =
      record {
        prefix = λ q. (left q, ap (λ l. given q l ++ left q) (sym g.err));
        given = tt;
        sound = g.sound;
        extends = g.extends;
        drops = g.drops;
        stays_ready = tt;
        came = g.came;
      }

  -- an error that goes on
  pub gives-on : {A B E F : Type 0} (Q : F → Type 0) (more : ℕ → List Thing) (a b : T) (e : E) (r : Result B F) → IsErrAnd r Q
      → Gave {A = A} t more a b (Err e) → Gave t more a b r
  gives-on Q more a b e (Ok x) is g = absurd is
  gives-on Q more a b e (Err f) is g = record { given = tt; err = g.err; sound = g.sound; extends = g.extends; drops = g.drops; stays_ready = tt; came = g.came }

  pub some-on : {A B E F : Type 0} (Q : F → Type 0) (more : ℕ → List Thing) (a b : T) (e : E) (r : Result B F) → IsErrAnd r Q
      → GaveSome {A = A} t more a b (Err e) → GaveSome t more a b r
  some-on Q more a b e (Ok x) is g = absurd is
  some-on Q more a b e (Err f) is g = record { prefix = g.prefix; given = tt; sound = g.sound; extends = g.extends; drops = g.drops; stays_ready = tt; came = g.came }

  -- a feed that failed, and an end
  pub feeds-on : {A E : Type 0} {levels : LevelTable} {port : ℕ} {item : Item} {before after : Meaning} {a b : T} {n m : ℕ} (Q : E → Type 0) (r : Result A E) → IsErrAnd r Q
      → FeedErr t levels port item before a b n m → KeepsGiven t a b → Feeds t levels port item before after a b n m r
  feeds-on Q (Ok x) is failed keeps = absurd is
  feeds-on Q (Err e) is failed keeps = record { ok = tt; err = failed; keeps = keeps }

  pub ends-on : {A E : Type 0} {before after : Meaning} {a b : T} (Q : E → Type 0) (r : Result A E) → IsErrAnd r Q
      → FinishErr t before a b → KeepsGiven t a b → Finishes t before after a b r
  ends-on Q (Ok x) is failed keeps = absurd is
  ends-on Q (Err e) is failed keeps = record { ok = tt; err = failed; keeps = keeps }
