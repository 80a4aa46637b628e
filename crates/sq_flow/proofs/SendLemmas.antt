-- Pushes, one after another.
use Rattle.std.proofs.Common.{◌≡◌, ◌≢◌, ℕ, zero, suc, ◌+◌, ◌<◌, ◌≤◌, eqb, cond, Bool, true, false, List, [], ◌∷◌, ◌++◌, length, get_or, Option, Some, refl, ap, sym, ◌∙◌, subst, append_assoc, append-nil, arith}
use Rattle.std.specs.Prelude.{is_some, slice_get}
use Rattle.std.proofs.lemmas.Option.{slice_get_within, get_or_from_slice_get}
use Rattle.std.proofs.lemmas.List.Folds.{list_any_at}
use Rattle.sq_item.specs.declared.Item.{Item}
use Rattle.sq_item.specs.SoundItems.{IsSoundItem}
use Rattle.sq_item.specs.Things.{Thing, spread, spread_all}
use Rattle.sq_outside.specs.Disks.{Pages}
use Rattle.sq_left.specs.Heads.{AllFine}
use Rattle.sq_left.proofs.MergeLemmas.{eqb-no, eqb-not}
use Rattle.sq_queue.specs.declared.Queues.{Queues}
use Rattle.sq_pool.specs.Trust.{Tells}
use Rattle.sq_paged.specs.Fronts.{pushed}
use Rattle.sq_queue.specs.Faces.{face, size, frames, items_on, Together}
use Rattle.sq_flow.specs.declared.wires.Wires.{Wires}
use Rattle.sq_flow.specs.Wiring.{arcs_from, times_in}
use Rattle.sq_flow.specs.Sends.{many, sent_to, is_sent_by, Pushes, KeepsItems}
use Rattle.sq_words.specs.Lists.{contains_number}
use Rattle.std.proofs.lemmas.Map.Views.{exact_unsigned_eq}
use Rattle.sq_paged.proofs.LaneLemmas.{some-first}
use Rattle.sq_words.proofs.Numbers.{eqb_true}

pub spread_all-push : (xs : List Item) (i : Item) → spread_all (xs ++ i ∷ []) ≡ spread_all xs ++ spread i
spread_all-push [] i = append-nil (spread i)
spread_all-push (x ∷ xs) i = ap (λ z. spread x ++ z) (spread_all-push xs i) ∙ sym (append_assoc (spread x) (spread_all xs) (spread i))

pub fine-push : (t : ℕ) (xs : List Item) (i : Item) → i.time ≤ t → IsSoundItem i → AllFine t xs → AllFine t (xs ++ i ∷ [])
fine-push t [] i le s h = (le, s, tt)
fine-push t (x ∷ xs) i le s h = (h.0, h.1, fine-push t xs i le s h.2)

pub at_or_other : (P : ℕ → Type 0) (i : ℕ) → P i → ((j : ℕ) → j ≢ i → P j) → (j : ℕ) → P j
at_or_other P i here others j = by (eqb j i) refl
  where
    by : (b : Bool) → eqb j i ≡ b → P j
    by true e = subst P (sym (exact_unsigned_eq j i e)) here
    by false e = others j (eqb-no j i e)

pub keeps-both : (q q1 q2 : Queues) → KeepsItems q q1 → KeepsItems q1 q2 → KeepsItems q q2
keeps-both q q1 q2 a b =
    record {
      lanes = b.lanes ∙ a.lanes;
      framed = b.framed ∙ a.framed;
      first = λ arc. b.first arc ∙ a.first arc;
      items = λ pages arc. b.items pages arc ∙ a.items pages arc;
      together = λ pages h. b.together pages (a.together pages h);
    }

-- nothing went to queues whose arcs all have the faces and the items that they had
pub pushes-same : (q q' : Queues) (was : Option Pages) (more : ℕ → List Thing) (upto : ℕ → Type 0) (near : ℕ → Bool) → size q' ≡ size q → frames q' ≡ frames q → ((arc : ℕ) → face q' arc ≡ face q arc)
    → ((arc : ℕ) → items_on q' was arc ≡ items_on q was arc) → Together q' was → ((arc : ℕ) → more arc ≡ []) → Pushes q q' was was more upto near
pushes-same q q' was more upto near lanes framed faces items together none =
    record {
      lanes = lanes;
      framed = framed;
      tells = λ told. told;
      together = together;
      ended = λ arc. ap (λ f. f.ended) (faces arc);
      grows = λ arc h. ap (λ f. is_some f.first) (faces arc) ∙ h;
      apart = λ arc h. faces arc;
      items = λ told arc. ap spread_all (items arc) ∙ sym (append-nil (spread_all (items_on q was arc))) ∙ ap (λ z. spread_all (items_on q was arc) ++ z) (sym (none arc));
      fine = λ told time u f arc. subst (AllFine time) (sym (items arc)) (f arc);
    }

pub pushes-none : (q : Queues) (was : Option Pages) (more : ℕ → List Thing) (upto : ℕ → Type 0) (near : ℕ → Bool) → Together q was → ((arc : ℕ) → more arc ≡ []) → Pushes q q was was more upto near
pushes-none q was more upto near together none = pushes-same q q was more upto near refl refl (λ arc. refl) (λ arc. refl) together none

pub pushes-both : (q q1 q2 : Queues) (p p1 p2 : Option Pages) (m m1 m2 : ℕ → List Thing) (u u1 u2 : ℕ → Type 0) (n n1 n2 : ℕ → Bool) → Pushes q q1 p p1 m1 u1 n1 → Pushes q1 q2 p1 p2 m2 u2 n2
    → ((time : ℕ) → u time → u1 time × u2 time) → ((arc : ℕ) → m arc ≡ m1 arc ++ m2 arc)
    → ((arc : ℕ) → n arc ≡ false → (n1 arc ≡ false) × (n2 arc ≡ false)) → Pushes q q2 p p2 m u n
pushes-both q q1 q2 p p1 p2 m m1 m2 u u1 u2 n n1 n2 a b both joins far =
    record {
      lanes = b.lanes ∙ a.lanes;
      framed = b.framed ∙ a.framed;
      tells = λ told. a.tells (b.tells told);
      together = b.together;
      ended = λ arc. b.ended arc ∙ a.ended arc;
      grows = λ arc h. b.grows arc (a.grows arc h);
      apart = λ arc h. b.apart arc (far arc h).1 ∙ a.apart arc (far arc h).0;
      items = λ told arc.
          b.items told arc
          ∙ ap (λ z. z ++ m2 arc) (a.items (b.tells told) arc)
          ∙ append_assoc (spread_all (items_on q p arc)) (m1 arc) (m2 arc)
          ∙ ap (λ z. spread_all (items_on q p arc) ++ z) (sym (joins arc));
      fine = λ told time v f. let w = both time v in b.fine told time w.1 (a.fine (b.tells told) time w.0 f);
    }

-- one item to one arc
pub pushes-one : (q q' : Queues) (p p' : Option Pages) (at : ℕ) (item : Item) → IsSoundItem item
    → face q' at ≡ pushed (face q at) item.time → ((other : ℕ) → other ≢ at → face q' other ≡ face q other) → size q' ≡ size q → frames q' ≡ frames q
    → (Tells p' → items_on q' p' at ≡ items_on q p at ++ item ∷ []) → (Tells p' → (other : ℕ) → other ≢ at → items_on q' p' other ≡ items_on q p other)
    → Together q' p' → (Tells p' → Tells p)
    → Pushes q q' p p' (λ arc. cond (eqb at arc) (spread item) []) (λ time. item.time ≤ time) (λ arc. eqb at arc)
pushes-one q q' p p' at item sound here others lanes framed items apart together tells =
    record {
      lanes = lanes;
      framed = framed;
      tells = tells;
      together = together;
      ended = at_or_other (λ arc. (face q' arc).ended ≡ (face q arc).ended) at (ap (λ f. f.ended) here) (λ arc ne. ap (λ f. f.ended) (others arc ne));
      grows = at_or_other (λ arc. is_some (face q arc).first ≡ true → is_some (face q' arc).first ≡ true) at
          (λ h. ap (λ f. is_some f.first) here ∙ some-first (face q at).first item.time)
          (λ arc ne h. ap (λ f. is_some f.first) (others arc ne) ∙ h);
      apart = λ arc h. others arc (λ e. eqb-no at arc h (sym e));
      items = λ told. at_or_other (λ arc. spread_all (items_on q' p' arc) ≡ spread_all (items_on q p arc) ++ cond (eqb at arc) (spread item) []) at
          (ap spread_all (items told) ∙ spread_all-push (items_on q p at) item ∙ ap (λ b. spread_all (items_on q p at) ++ cond b (spread item) []) (sym (eqb_true at at refl)))
          (λ arc ne. ap spread_all (apart told arc ne) ∙ sym (append-nil (spread_all (items_on q p arc)))
          ∙ ap (λ b. spread_all (items_on q p arc) ++ cond b (spread item) []) (sym (eqb-not at arc (λ e. ne (sym e)))));
      fine = λ told time le f. at_or_other (λ arc. AllFine time (items_on q' p' arc)) at
          (subst (AllFine time) (sym (items told)) (fine-push time (items_on q p at) item le sound (f at)))
          (λ arc ne. subst (AllFine time) (sym (apart told arc ne)) (f arc));
    }

pub many-more : (n : ℕ) (b : Bool) (xs : List Thing) → many (n + cond b 1 0) xs ≡ many n xs ++ cond b xs []
many-more zero true xs = append-nil xs
many-more zero false xs = refl
many-more (suc n) true xs =
    let e : suc n + 1 ≡ suc (n + 1) = omega arith in
    rw e (ap (λ z. xs ++ z) (many-more n true xs) ∙ sym (append_assoc xs (many n xs) xs))
many-more (suc n) false xs =
    let e : suc n + 0 ≡ suc (n + 0) = omega arith in
    rw e (ap (λ z. xs ++ z) (many-more n false xs) ∙ sym (append_assoc xs (many n xs) []))

pub times-append : (n : ℕ) (xs : List ℕ) (x : ℕ) → times_in n (xs ++ x ∷ []) ≡ times_in n xs + cond (eqb x n) 1 0
times-append n [] x = omega arith
times-append n (y ∷ xs) x = let r = times-append n xs x in omega (arith, r)

-- one more arc of a list
pub many-next : (arcs : List ℕ) (at : ℕ) (xs : List Thing) (arc : ℕ) → many (times_in arc (arcs ++ at ∷ [])) xs ≡ many (times_in arc arcs) xs ++ cond (eqb at arc) xs []
many-next arcs at xs arc = ap (λ n. many n xs) (times-append arc arcs at) ∙ many-more (times_in arc arcs) (eqb at arc) xs

pub sent-append : (wires : Wires) (actor : ℕ) (outs : List (ℕ × Item)) (out : ℕ × Item) (arc : ℕ)
    → sent_to wires actor (outs ++ out ∷ []) arc ≡ sent_to wires actor outs arc ++ many (times_in arc (arcs_from wires actor out.0)) (spread out.1)
sent-append wires actor [] out arc = append-nil (many (times_in arc (arcs_from wires actor out.0)) (spread out.1))
sent-append wires actor (o ∷ outs) out arc =
    ap (λ z. many (times_in arc (arcs_from wires actor o.0)) (spread o.1) ++ z) (sent-append wires actor outs out arc)
    ∙ sym (append_assoc (many (times_in arc (arcs_from wires actor o.0)) (spread o.1)) (sent_to wires actor outs arc) (many (times_in arc (arcs_from wires actor out.0)) (spread out.1)))

-- an arc that isn't among these isn't one of them
pub not-in : (arcs : List ℕ) (at arc : ℕ) → contains_number arcs at ≡ true → contains_number arcs arc ≡ false → eqb at arc ≡ false
not-in arcs at arc there away = eqb-not at arc (λ e. cc (ap (contains_number arcs) e))

pub contains-get : (xs : List ℕ) (i x : ℕ) → slice_get xs i ≡ Some x → contains_number xs x ≡ true
contains-get xs i x e =
    let low = slice_get_within xs i x e in
    list_any_at (λ y. eqb y x) xs i 0 low (ap (λ y. eqb y x) (get_or_from_slice_get xs i x 0 e) ∙ eqb_true x x refl)

-- an item to the only arc of a list
pub pushes-only : (q q' : Queues) (was is : Option Pages) (arcs : List ℕ) (at : ℕ) (item : Item) → arcs ≡ at ∷ [] → Together q was
    → Pushes q q' was is (λ arc. cond (eqb at arc) (spread item) []) (λ time. item.time ≤ time) (λ arc. eqb at arc)
    → Pushes q q' was is (λ arc. many (times_in arc arcs) (spread item)) (λ time. item.time ≤ time) (λ arc. contains_number arcs arc)
pushes-only q q' was is arcs at item only together pushed =
    pushes-both q q q' was was is _ _ _ _ _ _ _ _ _ (pushes-none q was (λ arc. []) (λ time. item.time ≤ time) (λ arc. false) together (λ arc. refl)) pushed
    (λ time le. (le, le))
    (λ arc. ap (λ l. many (times_in arc l) (spread item)) only ∙ many-next [] at (spread item) arc)
    (λ arc away. (refl, not-in arcs at arc (contains-get arcs 0 at (ap (λ l. slice_get l 0) only)) away))

-- the arcs but the last, and the last
pub at-front : (arcs front : List ℕ) (last i : ℕ) → arcs ≡ front ++ last ∷ [] → i < length front → slice_get arcs i ≡ Some (get_or front i 0)
at-front arcs front last i e low = ap (λ l. slice_get l i) e ∙ by front i low
  where
    by : (xs : List ℕ) (i : ℕ) → i < length xs → slice_get (xs ++ last ∷ []) i ≡ Some (get_or xs i 0)
    by [] i low = absurd (omega arith)
    by (x ∷ xs) zero low = refl
    by (x ∷ xs) (suc i) low = by xs i (omega arith)

pub at-last : (arcs front : List ℕ) (last : ℕ) → arcs ≡ front ++ last ∷ [] → slice_get arcs (length front) ≡ Some last
at-last arcs front last e = ap (λ l. slice_get l (length front)) e ∙ by front
  where
    by : (xs : List ℕ) → slice_get (xs ++ last ∷ []) (length xs) ≡ Some last
    by [] = refl
    by (x ∷ xs) = by xs

-- an arc that comes from another actor isn't among those that come from a port of this one
pub apart-arcs : (wires : Wires) (actor port arc : ℕ) → (contains_number (arcs_from wires actor port) arc ≡ true → is_sent_by wires actor arc ≡ true)
    → is_sent_by wires actor arc ≡ false → contains_number (arcs_from wires actor port) arc ≡ false
apart-arcs wires actor port arc joined away = by (contains_number (arcs_from wires actor port) arc) refl
  where
    by : (b : Bool) → contains_number (arcs_from wires actor port) arc ≡ b → b ≡ false
    by true e = cc (joined e, away)
    by false e = refl
