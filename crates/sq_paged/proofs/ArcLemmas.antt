-- The arc of which an item was pushed or popped.
use Rattle.std.proofs.Common.{◌≡◌, ◌≢◌, ℕ, ◌+◌, ◌<◌, ◌≤◌, false, List, [], ◌∷◌, ◌++◌, Option, Some, length, refl, sym, ap, subst, ◌∙◌, inl, inr, arith, get_or-set_other, get_or-set_same}
use Rattle.std.proofs.Math.ListN.{set, length-set}
use Rattle.std.specs.Prelude.{drop}
use Rattle.sq_words.specs.Lists.{nth}
use Rattle.sq_item.specs.declared.Item.{Item}
use Rattle.sq_link.specs.ChainLists.{Chained, StandsIn, Apart}
use Rattle.sq_outside.specs.Disks.{Pages}
use Rattle.sq_pool.specs.Pools.{is_held}
use Rattle.sq_paged.specs.KeptPages.{items_kept}
use Rattle.sq_bring.specs.Bringing.{LeavesOthers}
use Rattle.sq_paged.specs.Faces.{nodes_on, items_along, IsKeptPage, PagedTogether, kept_at, count_along, last_node}
use Rattle.sq_paged.specs.Steps.{AppendsAt, TakesAt, StartsAt, DropsAt, AddsItem, Removes}
use Rattle.sq_bring.specs.declared.bring.Kept.{Kept}
use Rattle.sq_paged.specs.declared.Queues.{Queues}
use Rattle.sq_paged.proofs.StoreLemmas.{spares-then}
use Rattle.sq_paged.proofs.KeptLemmas.{appended-kept, taken-kept, taken-all, started-kept}
use Rattle.sq_paged.proofs.AlongLemmas.{along-last, along-first, along-gone, along-more, last-stands, last-behind, stands-behind, stands-before, behind-first, kept-same, kept-other, count-same, count-more, count-last}
use Rattle.sq_paged.proofs.TouchLemmas.{AreAlone, Touches, touch-items, touch-rest, change-touches}
use Rattle.sq_words.proofs.Bools.{true_is_not_false}

-- ---- an item behind the last of a page

pub append-adds : (q : Queues) (told : Option Pages) (r : Queues) (now : Option Pages) (arc node : ℕ) (item : Item) → PagedTogether q told → AreAlone q → last_node (nodes_on q arc) ≡ Some node → AppendsAt q told r now node item → AddsItem q told r now arc node item
append-adds q told r now arc node item g alone last a =
    let s : StandsIn node (nodes_on q arc) = last-stands node (nodes_on q arc) last in
    let below = alone.below arc node s in
    let after : IsKeptPage r.pool now a.after = appended-kept q.pool told r.pool now (kept_at q.kept.items node) a.after item (g.pages arc node s) a.page in
    let t = change-touches q told r now arc node a.after g alone s a.state a.kept a.page.spares a.page.page after in
    let same : nodes_on r arc ≡ nodes_on q arc = ap (λ (c : Chained). nth c.lists arc) a.state in
    let is : kept_at r.kept.items node ≡ a.after = ap (λ (ks : List Kept). kept_at ks node) a.kept ∙ kept-same q.kept.items node a.after below in
    record {
      rest = touch-rest q told r now arc node (kept_at q.kept.items node).page g t;
      count = ap (λ (xs : List ℕ). count_along r.kept.items xs) same ∙ ap (λ (ks : List Kept). count_along ks (nodes_on q arc)) a.kept ∙ count-last q.kept.items node a.after (nodes_on q arc) (alone.once arc) last below a.page.count;
      last = ap last_node same ∙ last;
      items = λ tells.
          ap (λ (ns : List ℕ). items_along r.pool now r.kept.items ns) same
          ∙ along-last (λ n. items_kept q.pool told (kept_at q.kept.items n)) (λ n. items_kept r.pool now (kept_at r.kept.items n)) (item ∷ []) node (nodes_on q arc) (alone.once arc) last
          (λ n h differ. touch-items q told r now arc node (kept_at q.kept.items node).page t tells arc n h differ) (ap (λ (k : Kept). items_kept r.pool now k) is ∙ a.page.items tells);
    }

-- ---- an item in a new page

start-touches : (q : Queues) (told : Option Pages) (r : Queues) (now : Option Pages) (arc node : ℕ) (item : Item) → PagedTogether q told → AreAlone q → arc < length q.chains.lists → StartsAt q told r now arc node item
    → Touches q told r now arc node (kept_at r.kept.items node).page
start-touches q told r now arc node item g alone inside s =
    let here : nodes_on r arc ≡ nodes_on q arc ++ node ∷ [] = ap (λ (ls : List (List ℕ)). nth ls arc) s.lists ∙ get_or-set_same q.chains.lists arc (nodes_on q arc ++ node ∷ []) [] inside in
    record {
      spares = s.page.spares;
      arcs = ap length s.lists ∙ length-set q.chains.lists arc (nodes_on q arc ++ node ∷ []);
      nodes = s.nodes;
      lists = λ l away. ap (λ (ls : List (List ℕ)). nth ls l) s.lists ∙ get_or-set_other q.chains.lists arc l (nodes_on q arc ++ node ∷ []) [] away;
      left = λ other h differ. stands-behind other node (nodes_on q arc) (subst (λ (xs : List ℕ). StandsIn other xs) here h) differ;
      kept = λ l other h differ. let under = alone.below l other h in s.others other (omega (arith, g.nodes, under)) differ;
      here = λ h. (started-kept q.pool told r.pool now (kept_at r.kept.items node) item s.page, refl);
      apart = λ l other h differ e. true_is_not_false (is_held q.pool (kept_at q.kept.items other).page) (g.pages l other h).held (ap (λ (p : ℕ). is_held q.pool p) e ∙ s.page.fresh);
      alone = λ l away h. s.outside l h;
      stays = λ other h differ. subst (λ (xs : List ℕ). StandsIn other xs) (sym here) (stands-before other node (nodes_on q arc) h);
      had = λ l h. absurd (s.outside l h);
      held = λ h. subst (λ (xs : List ℕ). StandsIn node xs) (sym here) (last-stands node (nodes_on q arc ++ node ∷ []) (last-behind node (nodes_on q arc)));
    }

pub start-adds : (q : Queues) (told : Option Pages) (r : Queues) (now : Option Pages) (arc node : ℕ) (item : Item) → PagedTogether q told → AreAlone q → arc < length q.chains.lists → StartsAt q told r now arc node item → AddsItem q told r now arc node item
start-adds q told r now arc node item g alone inside s =
    let t = start-touches q told r now arc node item g alone inside s in
    let here : nodes_on r arc ≡ nodes_on q arc ++ node ∷ [] = ap (λ (ls : List (List ℕ)). nth ls arc) s.lists ∙ get_or-set_same q.chains.lists arc (nodes_on q arc ++ node ∷ []) [] inside in
    let off : (n : ℕ) → StandsIn n (nodes_on q arc) → n ≢ node = λ n h e. s.outside arc (subst (λ (m : ℕ). StandsIn m (nodes_on q arc)) e h) in
    record {
      rest = touch-rest q told r now arc node (kept_at r.kept.items node).page g t;
      count = ap (λ (xs : List ℕ). count_along r.kept.items xs) here
          ∙ count-more q.kept.items r.kept.items node (nodes_on q arc) (λ n h. t.kept arc n h (off n h))
          ∙ ap (λ (n : ℕ). count_along q.kept.items (nodes_on q arc) + n) s.page.count;
      last = ap last_node here ∙ last-behind node (nodes_on q arc);
      items = λ tells.
          ap (λ (ns : List ℕ). items_along r.pool now r.kept.items ns) here
          ∙ along-more (λ n. items_kept q.pool told (kept_at q.kept.items n)) (λ n. items_kept r.pool now (kept_at r.kept.items n)) item node (nodes_on q arc)
          (λ n h. touch-items q told r now arc node (kept_at r.kept.items node).page t tells arc n h (off n h)) (s.page.items tells);
    }

-- ---- the first item of a page, of which some are left

behind-off : (node : ℕ) (xs ys : List ℕ) → Apart xs → xs ≡ node ∷ ys → (n : ℕ) → StandsIn n ys → n ≢ node
behind-off node xs ys apart is n h e = let one : Apart (node ∷ ys) = subst Apart is apart in one.0 (subst (λ (m : ℕ). StandsIn m ys) e h)

pub take-removes : (q : Queues) (told : Option Pages) (r : Queues) (now : Option Pages) (arc node : ℕ) (item : Item) (ys : List ℕ) → PagedTogether q told → AreAlone q → nodes_on q arc ≡ node ∷ ys → (a : TakesAt q told r now node item) → 1 ≤ a.after.count
    → Removes q told r now arc item
take-removes q told r now arc node item ys g alone first a some =
    let s : StandsIn node (nodes_on q arc) = subst (λ (xs : List ℕ). StandsIn node xs) (sym first) (inl refl) in
    let below = alone.below arc node s in
    let after : IsKeptPage r.pool now a.after = taken-kept q.pool told r.pool now (kept_at q.kept.items node) a.after item a.page some in
    let t = change-touches q told r now arc node a.after g alone s a.state a.kept a.page.spares a.page.page after in
    let same : nodes_on r arc ≡ nodes_on q arc = ap (λ (c : Chained). nth c.lists arc) a.state in
    let is : kept_at r.kept.items node ≡ a.after = ap (λ (ks : List Kept). kept_at ks node) a.kept ∙ kept-same q.kept.items node a.after below in
    let off = behind-off node (nodes_on q arc) ys (alone.once arc) first in
    let stands : (n : ℕ) → StandsIn n ys → StandsIn n (nodes_on q arc) = λ n h. subst (λ (xs : List ℕ). StandsIn n xs) (sym first) (inr h) in
    let one : (kept_at r.kept.items node).count ≡ a.after.count = ap (λ (k : Kept). k.count) is in
    let more = count-same q.kept.items r.kept.items ys (λ n h. t.kept arc n (stands n h) (off n h)) in
    let was : count_along q.kept.items (nodes_on q arc) ≡ count_along q.kept.items (node ∷ ys) = ap (λ (xs : List ℕ). count_along q.kept.items xs) first in
    let will : count_along r.kept.items (nodes_on r arc) ≡ count_along r.kept.items (node ∷ ys) = ap (λ (xs : List ℕ). count_along r.kept.items xs) (same ∙ first) in
    record {
      rest = touch-rest q told r now arc node (kept_at q.kept.items node).page g t;
      count = omega (arith, was, will, one, more, a.page.count);
      last = λ x xs e. ap last_node same;
      items = λ tells.
          ap (λ (ns : List ℕ). items_along q.pool told q.kept.items ns) first
          ∙ along-first (λ n. items_kept q.pool told (kept_at q.kept.items n)) (λ n. items_kept r.pool now (kept_at r.kept.items n)) item node ys
          (λ n h. touch-items q told r now arc node (kept_at q.kept.items node).page t tells arc n (stands n h) (off n h))
          (a.page.items tells ∙ ap (λ (k : Kept). item ∷ items_kept r.pool now k) (sym is))
          ∙ ap (λ (ns : List ℕ). item ∷ items_along r.pool now r.kept.items ns) (sym (same ∙ first));
    }

-- ---- the last item of a page, which is let go

gone-touches : (q : Queues) (told : Option Pages) (m : Queues) (mid : Option Pages) (r : Queues) (now : Option Pages) (arc node : ℕ) (item : Item) (ys : List ℕ) → PagedTogether q told → AreAlone q → arc < length q.chains.lists → nodes_on q arc ≡ node ∷ ys
    → TakesAt q told m mid node item → DropsAt m mid r now arc node → nodes_on r arc ≡ ys → Touches q told r now arc node (kept_at q.kept.items node).page
gone-touches q told m mid r now arc node item ys g alone inside first a d left =
    let s : StandsIn node (nodes_on q arc) = subst (λ (xs : List ℕ). StandsIn node xs) (sym first) (inl refl) in
    let below = alone.below arc node s in
    let is : kept_at m.kept.items node ≡ a.after = ap (λ (ks : List Kept). kept_at ks node) a.kept ∙ kept-same q.kept.items node a.after below in
    let page : (kept_at m.kept.items node).page ≡ (kept_at q.kept.items node).page = ap (λ (k : Kept). k.page) is ∙ a.page.page in
    let lists : r.chains.lists ≡ set q.chains.lists arc (drop 1 (nodes_on q arc)) = d.lists ∙ ap (λ (c : Chained). set c.lists arc (drop 1 (nth c.lists arc))) a.state in
    record {
      spares = spares-then q.pool told m.pool mid r.pool now (kept_at q.kept.items node).page a.page.spares (subst (λ (p : ℕ). LeavesOthers m.pool mid r.pool now p) page d.spares);
      arcs = ap length lists ∙ length-set q.chains.lists arc (drop 1 (nodes_on q arc));
      nodes = ap (λ ks. length ks.items) d.kept ∙ ap length a.kept ∙ length-set q.kept.items node a.after ∙ g.nodes ∙ sym (ap (λ (c : Chained). c.nodes) a.state) ∙ sym d.nodes;
      lists = λ l away. ap (λ (ls : List (List ℕ)). nth ls l) lists ∙ get_or-set_other q.chains.lists arc l (drop 1 (nodes_on q arc)) [] away;
      left = λ other h differ. subst (λ (xs : List ℕ). StandsIn other xs) (sym first) (inr (subst (λ (xs : List ℕ). StandsIn other xs) left h));
      kept = λ l other h differ. ap (λ ks. kept_at ks.items other) d.kept ∙ ap (λ (ks : List Kept). kept_at ks other) a.kept ∙ kept-other q.kept.items node other a.after differ;
      here = λ h. absurd (behind-off node (nodes_on q arc) ys (alone.once arc) first node (subst (λ (xs : List ℕ). StandsIn node xs) left h) refl);
      apart = λ l other h differ. g.apart l other arc node h s differ;
      alone = λ l away h. away (alone.one l arc node h s);
      stays = λ other h differ. subst (λ (xs : List ℕ). StandsIn other xs) (sym left) (behind-first other node ys (subst (λ (xs : List ℕ). StandsIn other xs) first h) differ);
      had = λ l h. refl;
      held = λ h. absurd (true_is_not_false (is_held r.pool (kept_at q.kept.items node).page) h (subst (λ (p : ℕ). is_held r.pool p ≡ false) page d.gone));
    }

last-of-more : (n x : ℕ) (ys xs : List ℕ) → ys ≡ x ∷ xs → last_node ys ≡ last_node (n ∷ ys)
last-of-more n x [] xs e = absurd cc
last-of-more n x (y ∷ ys) xs e = refl

pub gone-removes : (q : Queues) (told : Option Pages) (m : Queues) (mid : Option Pages) (r : Queues) (now : Option Pages) (arc node : ℕ) (item : Item) (ys : List ℕ) → PagedTogether q told → AreAlone q → arc < length q.chains.lists → nodes_on q arc ≡ node ∷ ys
    → (a : TakesAt q told m mid node item) → a.after.count ≡ 0 → DropsAt m mid r now arc node → Removes q told r now arc item
gone-removes q told m mid r now arc node item ys g alone inside first a none d =
    let left : nodes_on r arc ≡ ys =
    ap (λ (ls : List (List ℕ)). nth ls arc) d.lists
    ∙ ap (λ (c : Chained). nth (set c.lists arc (drop 1 (nth c.lists arc))) arc) a.state
    ∙ get_or-set_same q.chains.lists arc (drop 1 (nodes_on q arc)) [] inside
    ∙ ap (λ (xs : List ℕ). drop 1 xs) first in
    let t = gone-touches q told m mid r now arc node item ys g alone inside first a d left in
    let off = behind-off node (nodes_on q arc) ys (alone.once arc) first in
    let stands : (n : ℕ) → StandsIn n ys → StandsIn n (nodes_on q arc) = λ n h. subst (λ (xs : List ℕ). StandsIn n xs) (sym first) (inr h) in
    let more = count-same q.kept.items r.kept.items ys (λ n h. t.kept arc n (stands n h) (off n h)) in
    let was : count_along q.kept.items (nodes_on q arc) ≡ count_along q.kept.items (node ∷ ys) = ap (λ (xs : List ℕ). count_along q.kept.items xs) first in
    let will : count_along r.kept.items (nodes_on r arc) ≡ count_along r.kept.items ys = ap (λ (xs : List ℕ). count_along r.kept.items xs) left in
    record {
      rest = touch-rest q told r now arc node (kept_at q.kept.items node).page g t;
      count = omega (arith, was, will, more, a.page.count, none);
      last = λ x xs e. ap last_node left ∙ last-of-more node x ys xs (sym left ∙ e) ∙ ap last_node (sym first);
      items = λ tells.
          ap (λ (ns : List ℕ). items_along q.pool told q.kept.items ns) first
          ∙ along-gone (λ n. items_kept q.pool told (kept_at q.kept.items n)) (λ n. items_kept r.pool now (kept_at r.kept.items n)) item node ys
          (λ n h. touch-items q told r now arc node (kept_at q.kept.items node).page t tells arc n (stands n h) (off n h))
          (taken-all q.pool told m.pool mid (kept_at q.kept.items node) a.after item a.page none (d.spares.tells tells))
          ∙ ap (λ (ns : List ℕ). item ∷ items_along r.pool now r.kept.items ns) (sym left);
    }
