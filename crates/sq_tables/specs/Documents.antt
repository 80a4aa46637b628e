-- The values of a document, by the kinds that are wanted.
use Rattle.std.specs.Prelude.{ℕ, Bool, true, false, ◌&&◌, if◌then◌else◌, List, [], ◌∷◌, Option, Some, None}
use Rattle.std.specs.Str.{is_utf8}
use Rattle.std.specs.List.{list_any}
use Rattle.sq_words.specs.Lists.{same_bytes}
use Rattle.toml.specs.Data.{Data, array, Items, no_items, item, Members, no_members, member}
use Rattle.toml.specs.Parse.{parse_document}
use Rattle.sq_words.specs.Options.{◌>>=◌}

abbrev pub when : {A : Type 0} → Bool → A → Option A
when true x = Some x
when false x = None

-- the document of a file's bytes
abbrev pub document_in : List ℕ → Option Members
document_in bytes = if is_utf8 bytes then parse_document bytes else None

-- all or nothing
abbrev pub onto : {A : Type 0} → Option A → Option (List A) → Option (List A)
onto None xs = None
onto (Some x) None = None
onto (Some x) (Some xs) = Some (x ∷ xs)

abbrev pub each_item : {A : Type 0} → (Data → Option A) → Items → Option (List A)
each_item f no_items = Some []
each_item f (item d ds) = onto (f d) (each_item f ds)

abbrev pub list_in : {A : Type 0} → (Data → Option A) → Data → Option (List A)
list_in f (array ds) = each_item f ds
list_in f d = None

-- whether each key is one of these
abbrev pub has_only : List (List ℕ) → Members → Bool
has_only keys no_members = true
has_only keys (member k d ms) = list_any (same_bytes k) keys && has_only keys ms

-- the value at a key, read by f: required, or with a default
abbrev pub required : {A : Type 0} → (Data → Option A) → Option Data → Option A
required f None = None
required f (Some d) = f d

abbrev pub optional : {A : Type 0} → A → (Data → Option A) → Option Data → Option A
optional default f None = Some default
optional default f (Some d) = f d
