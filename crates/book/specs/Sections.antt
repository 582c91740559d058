-- What the parts of a book's reader give: sections, objects, and the places behind them.
use Rattle.std.specs.Prelude.{◌≡◌, ℕ, ◌+◌, ◌≤◌, Bool, true, false, List, [], length, drop, Some, None, Option, slice_index_or}
use Rattle.std.specs.Borrow.{Bor}
use Rattle.elf.specs.Names.{names_of}
use Rattle.elf.specs.Meaning.{Object}
use Rattle.format.specs.Lines.{Fields, lines_of, number_at, is_object}
use Rattle.format.specs.Book.{run, object_body, read_objects}

-- The lines of the parts between line feeds, as they are stored.
abbrev pub lines_in : List (Bor (List ℕ)) → List Fields
lines_in ps = lines_of (names_of ps)

-- The rows of a run of lines from a place on, and the place behind it.
pub record Section {A : Type 0} (most : ℕ) (reads : Fields → Option A) (fits : List A → A → Bool) (ls : List Fields)
    (from : ℕ) (rows : List A) (next : ℕ) : Type 0 where
  pub is_run : run most reads fits [] (drop from ls) ≡ (rows, drop next ls)
  pub within : next ≤ length ls

-- The object behind its `object` line, and the place behind it.
pub record ObjectAt (flags : ℕ) (ls : List Fields) (from : ℕ) (o : Object) (next : ℕ) : Type 0 where
  pub is_body : object_body flags (drop from ls) ≡ (o, drop next ls)
  pub within : next ≤ length ls

-- The object whose `object` line stands at a place, if one does, and the place behind it.
abbrev pub ObjectRead : List Fields → ℕ → Option Object → ℕ → Type 0
ObjectRead ls from None next = (is_object (slice_index_or ls from []) ≡ false) × (next ≡ from)
ObjectRead ls from (Some o) next =
    (is_object (slice_index_or ls from []) ≡ true)
    × ObjectAt (number_at (slice_index_or ls from []) 1) ls (from + 1) o next

-- The objects of all lines, and the place behind the last.
pub record ObjectsIn (ls : List Fields) (os : List Object) (next : ℕ) : Type 0 where
  pub are_read : read_objects 64 ls ≡ (os, drop next ls)
  pub within : next ≤ length ls
