-- What a call read of a document.
use Rattle.std.specs.Prelude.{◌≡◌, Option, Some, None, Result, Ok, Err}
use Rattle.sq_tables.specs.declared.document.TableErr.{TableErr}
use Rattle.sq_tables.specs.declared.document.TableErr.TheVariants as unread

-- nothing, unless memory ran out
abbrev pub IsUnreadTable : {A : Type 0} → TableErr → Option A → Type 0
IsUnreadTable e said = e ≡ unread.Shape → said ≡ None

-- what there is to read, unless memory ran out
abbrev pub Reads : {A : Type 0} → Result A TableErr → Option A → Type 0
Reads (Ok x) said = said ≡ Some x
Reads (Err e) said = IsUnreadTable e said
