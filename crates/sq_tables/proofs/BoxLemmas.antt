-- A box by its parts: what it does, by its kind; its name, its inputs and its cost; and a selectivity for each port.
use Rattle.std.proofs.Common.{◌≡◌, ◌∙◌, ap, refl, sym, ℕ, Bool, true, false, ◌==◌, List, length, Option, Some, None, ℤ, pos}
use Rattle.std.specs.Prelude.{codes}
use Rattle.toml.specs.Data.{Members, get_member, as_str, as_integer}
use Rattle.sq_words.specs.Options.{◌>>=◌}
use Rattle.sq_tables.specs.declared.tables.BodyTable.{BodyTable}
use Rattle.sq_tables.specs.declared.tables.BoxTable.{BoxTable}
use Rattle.sq_tables.specs.declared.tables.Version.{Version}
use Rattle.sq_tables.specs.Documents.{list_in, optional, required, when}
use Rattle.sq_tables.specs.Shapes.{body_in, box_in, default_selectivity, port_count}
use Rattle.sq_tables.proofs.EvenLemmas.{boxed, weighed, called}

-- what a box does, by the kind that its table names
abbrev pub kinded : Version → Members → Option BodyTable
kinded v ms = required as_str (get_member (codes "kind") ms) >>= (λ kind. body_in v kind ms)

-- the selectivity of each port, one for each
abbrev pub even : ℕ → Members → Option (List ℤ)
even ports ms = optional (default_selectivity ports) (list_in as_integer) (get_member (codes "selectivity") ms) >>= (λ selectivity. when (length selectivity == ports) selectivity)

two_steps : {A B C : Type 0} (o : Option A) (f : A → Option B) (g : B → Option C) → (o >>= (λ x. f x >>= g)) ≡ (o >>= f) >>= g
two_steps None f g = refl
two_steps (Some x) f g = refl

kept_when : (t : Bool) (s : List ℤ) (f : List ℤ → BoxTable) → when t (f s) ≡ when t s >>= (λ z. Some (f z))
kept_when true s f = refl
kept_when false s f = refl

kept_even : (o : Option (List ℤ)) (n : ℕ) (f : List ℤ → BoxTable) → (o >>= (λ s. when (length s == n) (f s))) ≡ (o >>= (λ s. when (length s == n) s)) >>= (λ s. Some (f s))
kept_even None n f = refl
kept_even (Some s) n f = kept_when (length s == n) s f

by_kind : (v : Version) (ms : Members) → box_in v ms ≡ kinded v ms >>= called ms
by_kind v ms = two_steps (required as_str (get_member (codes "kind") ms)) (λ kind. body_in v kind ms) (called ms)

by_even : (ms : Members) (name : List ℕ) (body : BodyTable) (ins : List (List ℕ)) (cost : ℤ) → weighed ms name body ins cost ≡ even (port_count body) ms >>= (λ selectivity. Some (boxed name body ins cost selectivity))
by_even ms name body ins cost = kept_even (optional (default_selectivity (port_count body)) (list_in as_integer) (get_member (codes "selectivity") ms)) (port_count body) (boxed name body ins cost)

pub no_body : (v : Version) (ms : Members) → kinded v ms ≡ None → box_in v ms ≡ None
no_body v ms b = by_kind v ms ∙ ap (λ o. o >>= called ms) b

-- where what it does is read, the rest is
with_body : (v : Version) (ms : Members) (body : BodyTable) → kinded v ms ≡ Some body → box_in v ms ≡ called ms body
with_body v ms body b = by_kind v ms ∙ ap (λ o. o >>= called ms) b

pub no_name : (v : Version) (ms : Members) (body : BodyTable) → kinded v ms ≡ Some body → required as_str (get_member (codes "name") ms) ≡ None → box_in v ms ≡ None
no_name v ms body b n = with_body v ms body b ∙ rw n refl

pub no_ins : (v : Version) (ms : Members) (body : BodyTable) (name : List ℕ) → kinded v ms ≡ Some body → required as_str (get_member (codes "name") ms) ≡ Some name → required (list_in as_str) (get_member (codes "in") ms) ≡ None → box_in v ms ≡ None
no_ins v ms body name b n i = with_body v ms body b ∙ rw (n, i) refl

pub no_cost : (v : Version) (ms : Members) (body : BodyTable) (name : List ℕ) (ins : List (List ℕ)) → kinded v ms ≡ Some body → required as_str (get_member (codes "name") ms) ≡ Some name
    → required (list_in as_str) (get_member (codes "in") ms) ≡ Some ins → optional (pos 1) as_integer (get_member (codes "cost") ms) ≡ None → box_in v ms ≡ None
no_cost v ms body name ins b n i c = with_body v ms body b ∙ rw (n, i, c) refl

pub no_even : (v : Version) (ms : Members) (body : BodyTable) (name : List ℕ) (ins : List (List ℕ)) (cost : ℤ) (ports : ℕ) → ports ≡ port_count body → kinded v ms ≡ Some body → required as_str (get_member (codes "name") ms) ≡ Some name
    → required (list_in as_str) (get_member (codes "in") ms) ≡ Some ins → optional (pos 1) as_integer (get_member (codes "cost") ms) ≡ Some cost → even ports ms ≡ None → box_in v ms ≡ None
no_even v ms body name ins cost ports same b n i c e =
    let rest : called ms body ≡ weighed ms name body ins cost = rw (n, i, c) refl in
    with_body v ms body b ∙ (rest ∙ (by_even ms name body ins cost ∙ ap (λ o. o >>= (λ s. Some (boxed name body ins cost s))) (ap (λ p. even p ms) (sym same) ∙ e)))

pub whole : (v : Version) (ms : Members) (body : BodyTable) (name : List ℕ) (ins : List (List ℕ)) (cost : ℤ) (selectivity : List ℤ) (ports : ℕ) → ports ≡ port_count body → kinded v ms ≡ Some body → required as_str (get_member (codes "name") ms) ≡ Some name
    → required (list_in as_str) (get_member (codes "in") ms) ≡ Some ins → optional (pos 1) as_integer (get_member (codes "cost") ms) ≡ Some cost → even ports ms ≡ Some selectivity
    → box_in v ms ≡ Some (boxed name body ins cost selectivity)
whole v ms body name ins cost selectivity ports same b n i c e =
    let rest : called ms body ≡ weighed ms name body ins cost = rw (n, i, c) refl in
    with_body v ms body b ∙ (rest ∙ (by_even ms name body ins cost ∙ ap (λ o. o >>= (λ s. Some (boxed name body ins cost s))) (ap (λ p. even p ms) (sym same) ∙ e)))
