-- The export book: its bytes, read as a catalogue or refused at the first line that is bad or missing.
use Rattle.std.specs.Prelude.{ℕ, zero, suc, ◌+◌, ◌-◌, Bool, true, cond, ◌&&◌, List, [], ◌∷◌, ◌++◌, map, length, drop, Some, None, Ok, Err, codes, Option, Result, ◌==◌, nat_le, nat_lt}
use Rattle.elf.specs.declared.refusal.Refusal.{Refusal}
use Rattle.elf.specs.declared.refusal.Refusal.TheVariants.{BookTooLong, BadLine}
use Rattle.std.specs.List.{slice_get}
use Rattle.elf.specs.Names.{Name}
use Rattle.elf.specs.Meaning.{Definition, Reference, VersionNeed, Object}
use Rattle.format.specs.Lines.{split, Fields, lines_of, number_at, has_flag, name_row, want_row, version_row, def_row, ref_row, new_index, def_fits, ref_fits, is_object, begins, first_line}

-- At most k lines that a rule reads and that fit behind those before, as far as they go; then the other lines.
abbrev pub run : {A : Type 0} → ℕ → (Fields → Option A) → (List A → A → Bool) → List A → List Fields → List A × List Fields
run zero reads fits before ls = (before, ls)
run (suc k) reads fits before [] = (before, [])
run (suc k) reads fits before (l ∷ ls) =
    elim (reads l) [
      | None ↦ (before, l ∷ ls)
      | Some x ↦ cond (fits before x) (run k reads fits (before ++ (x ∷ [])) ls) (before, l ∷ ls)
    ]

-- Every line fits.
abbrev pub any : {A : Type 0} → List A → A → Bool
any before x = true

-- An object behind its `object` line, and the lines behind it.
abbrev pub object_body : ℕ → List Fields → Object × List Fields
object_body flags ls =
    let soname : List Name × List Fields = run 1 (name_row (codes "soname")) any [] ls in
    let needed : List Name × List Fields = run 32 (name_row (codes "needed")) any [] soname.1 in
    let needs : List VersionNeed × List Fields = run 64 want_row any [] needed.1 in
    let versions : List (Name × ℕ) × List Fields = run 64 version_row new_index [] needs.1 in
    let defs : List Definition × List Fields = run 4096 def_row (def_fits (has_flag 2 flags)) [] versions.1 in
    let refs : List Reference × List Fields = run 4096 ref_row (ref_fits defs.0) [] defs.1 in (
      record {
        symbolic = has_flag 1 flags;
        versioned = has_flag 2 flags;
        soname = slice_get soname.0 0;
        needed = needed.0;
        needs = needs.0;
        versions = map (λ v. v.0) versions.0;
        definitions = defs.0;
        references = refs.0;
      },
      refs.1,
    )

-- At most k objects as far as they go, and the other lines.
abbrev pub read_objects : ℕ → List Fields → List Object × List Fields
read_objects zero ls = ([], ls)
read_objects (suc k) [] = ([], [])
read_objects (suc k) (l ∷ ls) =
    let body : Object × List Fields = object_body (number_at l 1) ls in
    let others : List Object × List Fields = read_objects k body.1 in
    cond (is_object l) (body.0 ∷ others.0, others.1) ([], l ∷ ls)

-- The objects of the lines behind the first, at least one and with no line left; else the first bad or missing line,
-- counted from 0 in the whole book.
abbrev pub read_lines : List Fields → Result (List Object) Refusal
read_lines ls =
    let r : List Object × List Fields = read_objects 64 ls in
    cond (nat_le 1 (length r.0) && length r.1 == 0) (Ok r.0) (Err (BadLine (1 + (length ls - length r.1))))

-- A book's bytes, read.
abbrev pub read_book : List ℕ → Result (List Object) Refusal
read_book bytes =
    cond (nat_lt 1048576 (length bytes)) (Err BookTooLong)
    (cond (begins first_line bytes) (read_lines (lines_of (split 10 (drop 7 bytes)))) (Err (BadLine 0)))
