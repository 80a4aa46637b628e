-- Queues after the pages of one arc changed, at one node.
use Rattle.std.proofs.Common.{◌≡◌, ◌≢◌, ℕ, suc, ◌<◌, true, List, Option, Some, length, refl, sym, ap, subst, ◌∙◌, inl, inr, arith}
use Rattle.std.proofs.Math.ListN.{set, length-set}
use Rattle.std.proofs.lemmas.Bool.{cases_eq}
use Rattle.std.specs.Prelude.{slice_get}
use Rattle.sq_words.specs.Lists.{nth}
use Rattle.sq_item.specs.declared.Item.{Item}
use Rattle.sq_link.specs.ChainLists.{Chained, StandsIn, Apart, IsChained}
use Rattle.sq_outside.specs.Disks.{Pages}
use Rattle.sq_pool.specs.Pools.{is_held}
use Rattle.sq_pool.specs.Trust.{Tells}
use Rattle.sq_paged.specs.Fronts.{Face, IsFaceOf}
use Rattle.sq_paged.specs.KeptPages.{items_kept}
use Rattle.sq_bring.specs.Bringing.{LeavesOthers}
use Rattle.sq_paged.specs.Faces.{paged_face, paged_face_at, nodes_on, paged_items_on, items_along, IsKeptPage, IsPagedLane, IsOfNode, PagedTogether, kept_at}
use Rattle.sq_paged.specs.Steps.{KeepsOthers}
use Rattle.sq_paged.specs.declared.Lane.{Lane}
use Rattle.sq_bring.specs.declared.bring.Kept.{Kept}
use Rattle.sq_paged.specs.declared.Queues.{Queues}
use Rattle.sq_paged.proofs.KeptLemmas.{spared-kept, spared-items}
use Rattle.sq_paged.proofs.AlongLemmas.{along-same, kept-same, kept-other, count-same}
use Rattle.sq_words.proofs.Lists.{get_set_same, get_set_other}

-- where the nodes of queues stand
pub record AreAlone (q : Queues) : Type 0 where
  pub once : (l : ℕ) → Apart (nodes_on q l)
  pub one : (l m n : ℕ) → StandsIn n (nodes_on q l) → StandsIn n (nodes_on q m) → l ≡ m
  pub below : (l n : ℕ) → StandsIn n (nodes_on q l) → n < length q.kept.items

pub alone-by : (q : Queues) → length q.kept.items ≡ q.chains.nodes → IsChained q.chains → AreAlone q
alone-by q nodes s =
    record {
      once = λ l. s.once (suc l);
      one = λ l m n h k. let same : suc l ≡ suc m = s.one (suc l) (suc m) n h k in omega (arith, same);
      below = λ l n h. let under : n < q.chains.nodes = s.below (suc l) n h in omega (arith, nodes, under);
    }

-- only a page, of this node of this arc, was written, made or let go
pub record Touches (q : Queues) (told : Option Pages) (r : Queues) (now : Option Pages) (arc node page : ℕ) : Type 0 where
  pub spares : LeavesOthers q.pool told r.pool now page
  pub arcs : length r.chains.lists ≡ length q.chains.lists
  pub nodes : length r.kept.items ≡ r.chains.nodes
  pub lists : (l : ℕ) → l ≢ arc → nodes_on r l ≡ nodes_on q l
  pub left : (other : ℕ) → StandsIn other (nodes_on r arc) → other ≢ node → StandsIn other (nodes_on q arc)
  pub kept : (l other : ℕ) → StandsIn other (nodes_on q l) → other ≢ node → kept_at r.kept.items other ≡ kept_at q.kept.items other
  pub here : StandsIn node (nodes_on r arc) → IsKeptPage r.pool now (kept_at r.kept.items node) × ((kept_at r.kept.items node).page ≡ page)
  pub apart : (l other : ℕ) → StandsIn other (nodes_on q l) → other ≢ node → (kept_at q.kept.items other).page ≢ page
  pub alone : (l : ℕ) → l ≢ arc → StandsIn node (nodes_on q l) → ⊥
  pub stays : (other : ℕ) → StandsIn other (nodes_on q arc) → other ≢ node → StandsIn other (nodes_on r arc)
  pub had : (l : ℕ) → StandsIn node (nodes_on q l) → (kept_at q.kept.items node).page ≡ page
  pub held : is_held r.pool page ≡ true → StandsIn node (nodes_on r arc)

-- another node stood there before
touch-stays : (q : Queues) (told : Option Pages) (r : Queues) (now : Option Pages) (arc node page : ℕ) → Touches q told r now arc node page → (l other : ℕ) → StandsIn other (nodes_on r l) → other ≢ node → StandsIn other (nodes_on q l)
touch-stays q told r now arc node page t l other h differ =
    elim (cases_eq l arc) [
      | inl same ↦ subst (λ (m : ℕ). StandsIn other (nodes_on q m)) (sym same) (t.left other (subst (λ (m : ℕ). StandsIn other (nodes_on r m)) same h) differ)
      | inr away ↦ subst (λ (xs : List ℕ). StandsIn other xs) (t.lists l away) h
    ]

touch-arc : (q : Queues) (told : Option Pages) (r : Queues) (now : Option Pages) (arc node page : ℕ) → Touches q told r now arc node page → (l : ℕ) → StandsIn node (nodes_on r l) → StandsIn node (nodes_on r arc)
touch-arc q told r now arc node page t l h =
    elim (cases_eq l arc) [
      | inl same ↦ subst (λ (m : ℕ). StandsIn node (nodes_on r m)) same h
      | inr away ↦ absurd (t.alone l away (subst (λ (xs : List ℕ). StandsIn node xs) (t.lists l away) h))
    ]

touch-page : (q : Queues) (told : Option Pages) (r : Queues) (now : Option Pages) (arc node page : ℕ) → Touches q told r now arc node page → (l other : ℕ) → StandsIn other (nodes_on r l) → other ≡ node → (kept_at r.kept.items other).page ≡ page
touch-page q told r now arc node page t l other h same =
    let at : StandsIn node (nodes_on r l) = subst (λ (n : ℕ). StandsIn n (nodes_on r l)) same h in
    ap (λ (n : ℕ). (kept_at r.kept.items n).page) same ∙ (t.here (touch-arc q told r now arc node page t l at)).1

touch-other : (q : Queues) (told : Option Pages) (r : Queues) (now : Option Pages) (arc node page : ℕ) → Touches q told r now arc node page → (l other : ℕ) → StandsIn other (nodes_on r l) → other ≢ node
    → (kept_at r.kept.items other).page ≢ page
touch-other q told r now arc node page t l other h differ e =
    let was = touch-stays q told r now arc node page t l other h differ in
    t.apart l other was differ (sym (ap (λ (k : Kept). k.page) (t.kept l other was differ)) ∙ e)

touch-pages : (q : Queues) (told : Option Pages) (r : Queues) (now : Option Pages) (arc node page : ℕ) → PagedTogether q told → Touches q told r now arc node page → (l other : ℕ) → StandsIn other (nodes_on r l) → IsKeptPage r.pool now (kept_at r.kept.items other)
touch-pages q told r now arc node page g t l other h =
    elim (cases_eq other node) [
      | inl same ↦
          let at : StandsIn node (nodes_on r l) = subst (λ (n : ℕ). StandsIn n (nodes_on r l)) same h in
          subst (λ (n : ℕ). IsKeptPage r.pool now (kept_at r.kept.items n)) (sym same) (t.here (touch-arc q told r now arc node page t l at)).0
      | inr differ ↦
          let was = touch-stays q told r now arc node page t l other h differ in
          subst (λ (k : Kept). IsKeptPage r.pool now k) (sym (t.kept l other was differ)) (spared-kept q.pool told r.pool now page (kept_at q.kept.items other) (g.pages l other was) t.spares (t.apart l other was differ))
    ]

-- the items of another node stay
pub touch-items : (q : Queues) (told : Option Pages) (r : Queues) (now : Option Pages) (arc node page : ℕ) → Touches q told r now arc node page → Tells now → (l other : ℕ) → StandsIn other (nodes_on q l) → other ≢ node
    → items_kept r.pool now (kept_at r.kept.items other) ≡ items_kept q.pool told (kept_at q.kept.items other)
touch-items q told r now arc node page t tells l other h differ =
    ap (λ (k : Kept). items_kept r.pool now k) (t.kept l other h differ) ∙ spared-items q.pool told r.pool now page (kept_at q.kept.items other) t.spares (t.apart l other h differ) tells

-- a node of another arc is another
touch-away : (q : Queues) (told : Option Pages) (r : Queues) (now : Option Pages) (arc node page : ℕ) → Touches q told r now arc node page → (l : ℕ) → l ≢ arc → (n : ℕ) → StandsIn n (nodes_on q l) → n ≢ node
touch-away q told r now arc node page t l away n h e = t.alone l away (subst (λ (m : ℕ). StandsIn m (nodes_on q l)) e h)

touch-others : (q : Queues) (told : Option Pages) (r : Queues) (now : Option Pages) (arc node page : ℕ) → Touches q told r now arc node page → Tells now → (l : ℕ) → l ≢ arc → paged_items_on r now l ≡ paged_items_on q told l
touch-others q told r now arc node page t tells l away =
    ap (λ (ns : List ℕ). items_along r.pool now r.kept.items ns) (t.lists l away)
    ∙ along-same (λ n. items_kept q.pool told (kept_at q.kept.items n)) (λ n. items_kept r.pool now (kept_at r.kept.items n)) (nodes_on q l)
    (λ n h. touch-items q told r now arc node page t tells l n h (touch-away q told r now arc node page t l away n h))

touch-lanes : (q : Queues) (told : Option Pages) (r : Queues) (now : Option Pages) (arc node page : ℕ) → PagedTogether q told → Touches q told r now arc node page → (l : ℕ) → l ≢ arc → IsPagedLane (slice_get q.lanes.items l) r.kept.items (nodes_on r l)
touch-lanes q told r now arc node page g t l away =
    let lane = g.lanes l in
    let same = count-same q.kept.items r.kept.items (nodes_on q l) (λ n h. t.kept l n h (touch-away q told r now arc node page t l away n h)) in
    subst (λ (xs : List ℕ). IsPagedLane (slice_get q.lanes.items l) r.kept.items xs) (sym (t.lists l away)) (record { count = lane.count ∙ sym same; first = lane.first; last = lane.last })

touch-apart : (q : Queues) (told : Option Pages) (r : Queues) (now : Option Pages) (arc node page : ℕ) → PagedTogether q told → Touches q told r now arc node page
    → (l n m other : ℕ) → StandsIn n (nodes_on r l) → StandsIn other (nodes_on r m) → n ≢ other → (kept_at r.kept.items n).page ≢ (kept_at r.kept.items other).page
touch-apart q told r now arc node page g t l n m other h k differ e =
    elim (cases_eq n node) [
      | inl at ↦ touch-other q told r now arc node page t m other k (λ same. differ (at ∙ sym same)) (sym e ∙ touch-page q told r now arc node page t l n h at)
      | inr off ↦ elim (cases_eq other node) [
        | inl at ↦ touch-other q told r now arc node page t l n h off (e ∙ touch-page q told r now arc node page t m other k at)
        | inr away ↦
            let was = touch-stays q told r now arc node page t l n h off in
            let had = touch-stays q told r now arc node page t m other k away in
            g.apart l n m other was had differ (sym (ap (λ (x : Kept). x.page) (t.kept l n was off)) ∙ e ∙ ap (λ (x : Kept). x.page) (t.kept m other had away))
      ]
    ]

-- another node stands where it stood
touch-still : (q : Queues) (told : Option Pages) (r : Queues) (now : Option Pages) (arc node page : ℕ) → Touches q told r now arc node page → (l other : ℕ) → StandsIn other (nodes_on q l) → other ≢ node → StandsIn other (nodes_on r l)
touch-still q told r now arc node page t l other h differ =
    elim (cases_eq l arc) [
      | inl same ↦ subst (λ (m : ℕ). StandsIn other (nodes_on r m)) (sym same) (t.stays other (subst (λ (m : ℕ). StandsIn other (nodes_on q m)) same h) differ)
      | inr away ↦ subst (λ (xs : List ℕ). StandsIn other xs) (sym (t.lists l away)) h
    ]

-- each page that the pool holds is that of a node
touch-standing : (q : Queues) (told : Option Pages) (r : Queues) (now : Option Pages) (arc node page : ℕ) → PagedTogether q told → Touches q told r now arc node page → (p : ℕ) → is_held r.pool p ≡ true → IsOfNode r p
touch-standing q told r now arc node page g t p held =
    elim (cases_eq p page) [
      | inl at ↦ let h = t.held (subst (λ (n : ℕ). is_held r.pool n ≡ true) at held) in (arc, node, h, (t.here h).1 ∙ sym at)
      | inr off ↦
          let was = g.standing p (sym (t.spares.held p off) ∙ held) in
          let differ : was.1 ≢ node = λ e. off (sym was.3 ∙ ap (λ (n : ℕ). (kept_at q.kept.items n).page) e ∙ t.had was.0 (subst (λ (n : ℕ). StandsIn n (nodes_on q was.0)) e was.2)) in
          (was.0, was.1, touch-still q told r now arc node page t was.0 was.1 was.2 differ, ap (λ (k : Kept). k.page) (t.kept was.0 was.1 was.2 differ) ∙ was.3)
    ]

pub touch-rest : (q : Queues) (told : Option Pages) (r : Queues) (now : Option Pages) (arc node page : ℕ) → PagedTogether q told → Touches q told r now arc node page → KeepsOthers q told r now arc
touch-rest q told r now arc node page g t =
    record {
      agree = t.spares.agree;
      arcs = t.arcs;
      nodes = t.nodes;
      lanes = touch-lanes q told r now arc node page g t;
      pages = touch-pages q told r now arc node page g t;
      apart = touch-apart q told r now arc node page g t;
      standing = touch-standing q told r now arc node page g t;
      others = touch-others q told r now arc node page t;
      tells = t.spares.tells;
      frames = t.spares.frames;
    }

-- with the lane of the arc written, as r has it, all stands together
pub together-by : (q : Queues) (told : Option Pages) (m : Queues) (now : Option Pages) (r : Queues) (arc : ℕ) (lane : Lane) → PagedTogether q told → KeepsOthers q told m now arc → arc < length q.lanes.items → r.lanes.items ≡ set q.lanes.items arc lane
    → IsPagedLane (Some lane) m.kept.items (nodes_on m arc) → (Tells now → IsFaceOf (paged_face_at (Some lane)) (paged_items_on m now arc)) → PagedTogether (record m { lanes = r.lanes }) now
together-by q told m now r arc lane g k inside lanes own faced =
    let here : slice_get r.lanes.items arc ≡ Some lane = ap (λ (ls : List Lane). slice_get ls arc) lanes ∙ get_set_same q.lanes.items arc lane inside in
    let there : (l : ℕ) → l ≢ arc → slice_get r.lanes.items l ≡ slice_get q.lanes.items l = λ l away. ap (λ (ls : List Lane). slice_get ls l) lanes ∙ get_set_other q.lanes.items arc l lane away in
    record {
      agree = k.agree;
      arcs = k.arcs ∙ g.arcs ∙ sym (ap length lanes ∙ length-set q.lanes.items arc lane);
      nodes = k.nodes;
      lanes = λ l.
          elim (cases_eq l arc) [
            | inl same ↦
                subst (λ (n : ℕ). IsPagedLane (slice_get r.lanes.items n) m.kept.items (nodes_on m n)) (sym same)
                (subst (λ (o : Option Lane). IsPagedLane o m.kept.items (nodes_on m arc)) (sym here) own)
            | inr away ↦ subst (λ (o : Option Lane). IsPagedLane o m.kept.items (nodes_on m l)) (sym (there l away)) (k.lanes l away)
          ];
      pages = k.pages;
      apart = k.apart;
      standing = k.standing;
      faces = λ tells l.
          elim (cases_eq l arc) [
            | inl same ↦ subst (λ (n : ℕ). IsFaceOf (paged_face r n) (paged_items_on m now n)) (sym same) (subst (λ (f : Face). IsFaceOf f (paged_items_on m now arc)) (sym (ap paged_face_at here)) (faced tells))
            | inr away ↦
                subst (λ (xs : List Item). IsFaceOf (paged_face r l) xs) (sym (k.others tells l away)) (subst (λ (f : Face). IsFaceOf f (paged_items_on q told l)) (sym (ap paged_face_at (there l away))) (g.faces (k.tells tells) l))
          ];
    }

-- what is kept of one node of an arc changed, and its page
pub change-touches : (q : Queues) (told : Option Pages) (r : Queues) (now : Option Pages) (arc node : ℕ) (after : Kept) → PagedTogether q told → AreAlone q → StandsIn node (nodes_on q arc) → r.chains ≡ q.chains → r.kept.items ≡ set q.kept.items node after
    → LeavesOthers q.pool told r.pool now (kept_at q.kept.items node).page → after.page ≡ (kept_at q.kept.items node).page → IsKeptPage r.pool now after → Touches q told r now arc node (kept_at q.kept.items node).page
change-touches q told r now arc node after g alone s state kept spares page stands =
    let is : kept_at r.kept.items node ≡ after = ap (λ (ks : List Kept). kept_at ks node) kept ∙ kept-same q.kept.items node after (alone.below arc node s) in
    record {
      spares = spares;
      arcs = ap (λ (c : Chained). length c.lists) state;
      nodes = ap length kept ∙ length-set q.kept.items node after ∙ g.nodes ∙ sym (ap (λ (c : Chained). c.nodes) state);
      lists = λ l away. ap (λ (c : Chained). nth c.lists l) state;
      left = λ other h differ. subst (λ (c : Chained). StandsIn other (nth c.lists arc)) state h;
      kept = λ l other h differ. ap (λ (ks : List Kept). kept_at ks other) kept ∙ kept-other q.kept.items node other after differ;
      here = λ h. (subst (λ (k : Kept). IsKeptPage r.pool now k) (sym is) stands, ap (λ (k : Kept). k.page) is ∙ page);
      apart = λ l other h differ. g.apart l other arc node h s differ;
      alone = λ l away h. away (alone.one l arc node h s);
      stays = λ other h differ. subst (λ (c : Chained). StandsIn other (nth c.lists arc)) (sym state) h;
      had = λ l h. refl;
      held = λ h. subst (λ (c : Chained). StandsIn node (nth c.lists arc)) (sym state) s;
    }
