-- The document of bytes, the keys of a table, and the items of an array.
use Rattle.std.proofs.Common.{◌≡◌, ◌∙◌, ap, refl, ℕ, ◌&&◌, ◌||◌, List, [], ◌∷◌, ◌++◌, map, String, Global, Bor, Option, None, Some, string_bytes, inl, inr}
use Rattle.std.specs.Prelude.{IsUtf8}
use Rattle.std.specs.List.{list_any, list_all}
use Rattle.std.specs.Option.{option_map}
use Rattle.std.specs.Str.{is_utf8}
use Rattle.std.specs.Map.{keys_of}
use Rattle.std.proofs.lemmas.Str.{IsUtf8-from_is_utf8, is_utf8-from_IsUtf8}
use Rattle.std.proofs.lemmas.Bool.{cases_Bool}
use Rattle.toml.specs.Data.{Data, string, integer, float, boolean, datetime, array, table, Items, Members, as_array}
use Rattle.toml.specs.Parse.{parse_document}
use Rattle.toml.specs.View.{members_view}
use Rattle.toml.specs.declared.value.Value.{Value}
use Rattle.sq_words.specs.Lists.{same_bytes}
use Rattle.sq_tables.specs.Documents.{document_in, has_only}

pub document-read : (bytes : List ℕ) (t : Members) → IsUtf8 bytes → parse_document bytes ≡ Some t → document_in bytes ≡ Some t
document-read bytes t text read = rw (is_utf8-from_IsUtf8 bytes text, read)

pub document-refused : (bytes : List ℕ) → (IsUtf8 bytes → parse_document bytes ≡ None) → document_in bytes ≡ None
document-refused bytes refused =
    elim (cases_Bool (is_utf8 bytes)) [
      | inl text ↦ rw (text, refused (IsUtf8-from_is_utf8 bytes text))
      | inr other ↦ rw other
    ]

any-words : (x : List ℕ) (ws : List (Bor (List ℕ))) → list_any (λ w. same_bytes x w.now) ws ≡ list_any (same_bytes x) (map (λ w. w.now) ws)
any-words x [] = refl
any-words x (w ∷ ws) = ap (λ b. same_bytes x w.now || b) (any-words x ws)

pub has_only-keys : (known : List (Bor (List ℕ))) (es : List (String Global × Value))
    → list_all (λ key. list_any (λ word. same_bytes (string_bytes key) word.now) known) (keys_of es) ≡ has_only (map (λ k. k.now) known) (members_view es)
has_only-keys known [] = refl
has_only-keys known (e ∷ es) =
    ap (λ b. b && list_all (λ key. list_any (λ word. same_bytes (string_bytes key) word.now) known) (keys_of es)) (any-words (string_bytes e.0) known)
    ∙ ap (λ b. list_any (same_bytes (string_bytes e.0)) (map (λ k. k.now) known) && b) (has_only-keys known es)

-- these items, and then the others, where there are others
abbrev pub with_front : {A : Type 0} → List A → Option (List A) → Option (List A)
with_front front others = option_map (λ xs. front ++ xs) others

pub is_array : (d : Data) (ds : Items) → as_array d ≡ Some ds → d ≡ array ds
is_array (string s) ds e = cc
is_array (integer z) ds e = cc
is_array (float x) ds e = cc
is_array (boolean b) ds e = cc
is_array (datetime dt) ds e = cc
is_array (array es) ds e = (let same : es ≡ ds = cc in ap array same)
is_array (table ms) ds e = cc
