-- What the rows of lines mean.
use Rattle.std.specs.Prelude.{ℕ, List, [], ◌∷◌, Some, None, Option}
use Rattle.std.specs.Borrow.{Bor}
use Rattle.elf.specs.Names.{Name, lawful, only_if}
use Rattle.format.specs.Lines.{Fields, has_flag}
use Rattle.bookline.specs.declared.rows.ObjectFlags.{ObjectFlags}

-- What the number of an `object` line tells.
abbrev pub flags_of : ℕ → ObjectFlags
flags_of n = record { symbolic = has_flag 1 n; versioned = has_flag 2 n }

-- The name and the index of a version.
abbrev pub version_of : Bor (List ℕ) × ℕ → Name × ℕ
version_of v = (v.0.now, v.1)

-- The version in what is left of a line about a symbol: one lawful field, or none.
abbrev pub version_in : Fields → Option (Option Name)
version_in [] = Some None
version_in (v ∷ []) = only_if (lawful v) (Some v)
version_in (v ∷ (w ∷ vs)) = None
