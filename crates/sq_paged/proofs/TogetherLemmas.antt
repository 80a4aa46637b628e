-- New queues stand together with every disk.
use Rattle.std.proofs.Common.{◌≡◌, ℕ, zero, suc, true, false, List, [], Option, None, length, refl, sym, ap, subst, ◌∙◌}
use Rattle.std.specs.Prelude.{replicate, slice_get}
use Rattle.std.proofs.lemmas.List.{length-replicate}
use Rattle.sq_words.specs.Lists.{nth}
use Rattle.sq_item.specs.declared.Item.{Item}
use Rattle.sq_link.specs.ChainLists.{StandsIn}
use Rattle.sq_outside.specs.Disks.{Pages}
use Rattle.sq_pool.specs.Pools.{is_held, Agree}
use Rattle.sq_paged.specs.Fronts.{Face, IsFaceOf}
use Rattle.sq_paged.specs.Faces.{paged_face_at, paged_face, nodes_on, paged_items_on, items_along, IsPagedLane, PagedTogether, no_items}
use Rattle.sq_bring.specs.declared.bring.Kept.{Kept}
use Rattle.sq_paged.specs.declared.Lane.{Lane}
use Rattle.sq_paged.specs.declared.Queues.{Queues}

abbrev pub no_face : Face
no_face = record { count = 0; first = None; ended = false }

pub none-face : (n arc : ℕ) → paged_face_at (slice_get (replicate n no_items) arc) ≡ no_face
none-face zero arc = refl
none-face (suc n) zero = refl
none-face (suc n) (suc arc) = none-face n arc

none-lane : (n arc : ℕ) (kept : List Kept) → IsPagedLane (slice_get (replicate n no_items) arc) kept []
none-lane zero arc kept = record { count = refl; first = refl; last = refl }
none-lane (suc n) zero kept = record { count = refl; first = refl; last = refl }
none-lane (suc n) (suc arc) kept = none-lane n arc kept

pub none-listed : (n arc : ℕ) → nth {X = ℕ} (replicate n []) arc ≡ []
none-listed zero arc = refl
none-listed (suc n) zero = refl
none-listed (suc n) (suc arc) = none-listed n arc

none-stands : (xs : List ℕ) (node : ℕ) → xs ≡ [] → StandsIn node xs → ⊥
none-stands xs node e h = subst (λ (ys : List ℕ). StandsIn node ys) e h

pub new-items : (q : Queues) (arcs : ℕ) (told : Option Pages) (arc : ℕ) → q.chains.lists ≡ replicate arcs [] → paged_items_on q told arc ≡ []
new-items q arcs told arc lists = ap (λ (ls : List (List ℕ)). items_along q.pool told q.kept.items (nth ls arc)) lists ∙ ap (λ (xs : List ℕ). items_along q.pool told q.kept.items xs) (none-listed arcs arc)

pub new-together : (q : Queues) (arcs : ℕ) (told : Option Pages) → Agree q.pool told → ((page : ℕ) → is_held q.pool page ≡ false) → q.chains.lists ≡ replicate arcs [] → q.chains.nodes ≡ 0 → q.kept.items ≡ [] → q.lanes.items ≡ replicate arcs no_items → PagedTogether q told
new-together q arcs told agree held lists nodes kept lanes =
    let none : (arc : ℕ) → nodes_on q arc ≡ [] = λ arc. ap (λ (ls : List (List ℕ)). nth ls arc) lists ∙ none-listed arcs arc in
    let empty : (arc : ℕ) → paged_face q arc ≡ no_face = λ arc. ap (λ (ls : List Lane). paged_face_at (slice_get ls arc)) lanes ∙ none-face arcs arc in
    record {
      agree = agree;
      arcs = ap length lists ∙ length-replicate {A = List ℕ} arcs [] ∙ sym (ap length lanes ∙ length-replicate {A = Lane} arcs no_items);
      nodes = ap length kept ∙ sym nodes;
      lanes = λ arc.
          subst (λ (ls : List Lane). IsPagedLane (slice_get ls arc) q.kept.items (nodes_on q arc)) (sym lanes)
          (subst (λ (xs : List ℕ). IsPagedLane (slice_get (replicate arcs no_items) arc) q.kept.items xs) (sym (none arc)) (none-lane arcs arc q.kept.items));
      pages = λ arc node h. absurd (none-stands (nodes_on q arc) node (none arc) h);
      apart = λ arc node other_arc other h k differ. absurd (none-stands (nodes_on q arc) node (none arc) h);
      standing = λ page h. let no : false ≡ true = sym (held page) ∙ h in absurd cc;
      faces = λ t arc.
          subst (λ (f : Face). IsFaceOf f (paged_items_on q told arc)) (sym (empty arc))
          (subst (λ (xs : List Item). IsFaceOf no_face xs) (sym (new-items q arcs told arc lists)) (record { count = refl; first = refl }));
    }
