-- Objects one after another.
use Rattle.std.proofs.Common.{◌≡◌, ℕ, zero, suc, ◌+◌, ◌-◌, ◌<◌, ◌≤◌, Bool, true, false, ◌&&◌, eqb, leb, ◌⊎◌, List, [], ◌∷◌, ◌++◌, map, length, get_or, drop, Some, Ok, Err, codes, Option, sym, refl, ap, ◌∙◌, subst, ⊎_elim, append_assoc, append-nil, arith, Bor}
use Rattle.std.specs.List.{slice_get}
use Rattle.std.proofs.lemmas.List.{drop_more, get_or_past, length_push, length-drop}
use Rattle.std.proofs.lemmas.Bool.{cases_lt, cond-true, cond-false, false≢true, and_from, and_left, and_right, leb-true, le-leb, lt-leb, le-ltb, eq-eqb, ne_eqb}
use Rattle.std.proofs.lemmas.Bool.Decides.{nat_tests}
use Rattle.elf.specs.declared.refusal.Refusal.TheVariants.{BadLine}
use Rattle.elf.specs.Names.{Name, bytes_of, only_if, names_of}
use Rattle.elf.specs.Meaning.{Definition, Reference, VersionNeed, Object}
use Rattle.format.specs.Lines.{Fields, name_row, want_row, version_row, new_index, def_row, def_fits, ref_row, ref_fits, number_at, is_object, begins, first_line, split, lines_of}
use Rattle.format.specs.Book.{any, object_body, read_objects, read_lines, read_book}
use Rattle.std.proofs.lemmas.Simd.{map-map}
use Rattle.bookline.specs.Rows.{flags_of, version_of}
use Rattle.bookline.specs.declared.rows.ObjectFlags.{ObjectFlags}
use Rattle.book.specs.Sections.{Section, ObjectAt, ObjectsIn, lines_in}
use Rattle.book.proofs.LinesTold.{first_left}
use Rattle.elf.proofs.Choices.{only_if_some}

-- The first name of some, if there is one.
pub first_name : (xs : List (Bor (List ℕ))) (r : Option (Bor (List ℕ))) → r ≡ slice_get xs 0 → slice_get (names_of xs) 0 ≡ bytes_of r
first_name [] r e = ap bytes_of (sym e)
first_name (x ∷ xs) r e = ap bytes_of (sym e)

-- A section of the same lines.
same_lines : {A : Type 0} {most from next : ℕ} {reads : Fields → Option A} {fits : List A → A → Bool} {rows : List A}
    (ps qs : List (Bor (List ℕ))) → ps ≡ qs → Section most reads fits (lines_in ps) from rows next
    → Section most reads fits (lines_in qs) from rows next
same_lines {most = most} {from = from} {next = next} {reads = reads} {fits = fits} {rows = rows} ps qs e s =
    subst (λ (p : List (Bor (List ℕ))). Section most reads fits (lines_in p) from rows next) e s

-- The sections of an object, one behind the other, make it; no section changes the parts.
pub object_made : (n : ℕ) (flags : ObjectFlags) (ps p₁ p₂ p₃ p₄ p₅ : List (Bor (List ℕ))) (from a b c d e f : ℕ) (soname : Option Name)
    (sonames needed : List Name) (needs : List VersionNeed) (versions : List (Bor (List ℕ) × ℕ)) (defs : List Definition) (refs : List Reference)
    → flags ≡ flags_of n → slice_get sonames 0 ≡ soname
    → p₁ ≡ ps → p₂ ≡ p₁ → p₃ ≡ p₂ → p₄ ≡ p₃ → p₅ ≡ p₄
    → Section 1 (name_row (codes "soname")) any (lines_in ps) from sonames a
    → Section 32 (name_row (codes "needed")) any (lines_in p₁) a needed b
    → Section 64 want_row any (lines_in p₂) b needs c
    → Section 64 version_row new_index (lines_in p₃) c (map version_of versions) d
    → Section 4096 def_row (def_fits flags.versioned) (lines_in p₄) d defs e
    → Section 4096 ref_row (ref_fits defs) (lines_in p₅) e refs f
    → ObjectAt n (lines_in ps) from (record {
      symbolic = flags.symbolic;
      versioned = flags.versioned;
      soname = soname;
      needed = needed;
      needs = needs;
      versions = map (λ v. v.0.now) versions;
      definitions = defs;
      references = refs;
    }) f
object_made n flags ps p₁ p₂ p₃ p₄ p₅ from a b c d e f soname sonames needed needs versions defs refs
    told q e₁ e₂ e₃ e₄ e₅ s₁ s₂ s₃ s₄ s₅ s₆ =
    let t₂ = same_lines p₁ ps e₁ s₂ in
    let t₃ = same_lines p₂ ps (e₂ ∙ e₁) s₃ in
    let t₄ = same_lines p₃ ps (e₃ ∙ e₂ ∙ e₁) s₄ in
    let t₅ = rw told at (same_lines p₄ ps (e₄ ∙ e₃ ∙ e₂ ∙ e₁) s₅) in
    let t₆ = same_lines p₅ ps (e₅ ∙ e₄ ∙ e₃ ∙ e₂ ∙ e₁) s₆ in
    rw told
    (record {
      is_body = rw (← q, ← map-map (λ (v : Name × ℕ). v.0) version_of versions) (rw (s₁.is_run, t₂.is_run, t₃.is_run, t₄.is_run, t₅.is_run, t₆.is_run) refl);
      within = t₆.within;
    })

-- An object stands first, or none does.
objects_more : (k : ℕ) (l : Fields) (ls rest : List Fields) (o : Object) → is_object l ≡ true
    → object_body (number_at l 1) ls ≡ (o, rest)
    → read_objects (suc k) (l ∷ ls) ≡ (o ∷ (read_objects k rest).0, (read_objects k rest).1)
objects_more k l ls rest o t e =
    cond-true (is_object l) _ _ t
    ∙ ap (λ (b : Object × List Fields). (b.0 ∷ (read_objects k b.1).0, (read_objects k b.1).1)) e

objects_end : (k : ℕ) (ls : List Fields) → is_object (get_or ls 0 []) ≡ false → read_objects k ls ≡ ([], ls)
objects_end zero ls f = refl
objects_end (suc k) [] f = refl
objects_end (suc k) (l ∷ ls) f = cond-false (is_object l) _ _ f

-- What a line tells of an object.
pub object_told : (l fields : Fields) (flags : ObjectFlags) → fields ≡ l
    → Some flags ≡ only_if (is_object fields) (flags_of (number_at fields 1))
    → (is_object l ≡ true) × (flags ≡ flags_of (number_at l 1))
object_told l fields flags f e =
    let p = only_if_some (is_object fields) (flags_of (number_at fields 1)) flags (sym e) in
    (ap is_object (sym f) ∙ p.0, sym p.1 ∙ ap (λ (g : Fields). flags_of (number_at g 1)) f)

-- The objects so far, and what is left to read.
pub record Gathered (ls : List Fields) (os : List Object) (next : ℕ) : Type 0 where
  pub few : length os ≤ 64
  pub within : next ≤ length ls
  pub left :
      (os ++ (read_objects (64 - length os) (drop next ls)).0, (read_objects (64 - length os) (drop next ls)).1) ≡ read_objects 64 ls

-- Nothing is read yet.
pub gathered_none : (ls : List Fields) (next : ℕ) → next ≡ 0 → Gathered ls [] next
gathered_none ls next z = rw z (record { few = omega arith; within = omega arith; left = refl })

-- An `object` line stands within the lines.
pub object_within : (ls : List Fields) (next : ℕ) → is_object (get_or ls next []) ≡ true → next < length ls
object_within ls next t = ⊎_elim (λ h. h) past (cases_lt next (length ls))
  where
    past : length ls ≤ next → next < length ls
    past h = absurd (false≢true (sym (ap is_object (get_or_past ls next [] h)) ∙ t))

pub gathered_more : (ls : List Fields) (os : List Object) (next : ℕ) (o : Object) (after : ℕ)
    → Gathered ls os next → length os < 64 → is_object (get_or ls next []) ≡ true
    → ObjectAt (number_at (get_or ls next []) 1) ls (next + 1) o after → Gathered ls (os ++ (o ∷ [])) after
gathered_more ls os next o after g h t b =
    record {
      few = omega (arith, length_push os o);
      within = b.within;
      left = ap both n ∙ ap (λ (xs : List Object). (xs, rest.1)) (append_assoc os (o ∷ []) rest.0) ∙ sym s ∙ g.left;
    }
  where
    rest : List Object × List Fields
    rest = read_objects (64 - (length os + 1)) (drop after ls)

    both : ℕ → List Object × List Fields
    both k = ((os ++ (o ∷ [])) ++ (read_objects k (drop after ls)).0, (read_objects k (drop after ls)).1)

    n : 64 - length (os ++ (o ∷ [])) ≡ 64 - (length os + 1)
    n = ap (λ (k : ℕ). 64 - k) (length_push os o)

    m : 64 - length os ≡ suc (64 - (length os + 1))
    m = omega arith

    first : read_objects (64 - length os) (drop next ls) ≡ (o ∷ rest.0, rest.1)
    first =
        ap (λ (k : ℕ). read_objects k (drop next ls)) m
        ∙ ap (read_objects (suc (64 - (length os + 1)))) (drop_more ls next [] (object_within ls next t))
        ∙ objects_more (64 - (length os + 1)) (get_or ls next []) (drop (next + 1) ls) (drop after ls) o t b.is_body

    s : ◌≡◌ {A = List Object × List Fields}
        (os ++ (read_objects (64 - length os) (drop next ls)).0, (read_objects (64 - length os) (drop next ls)).1)
        (os ++ (o ∷ rest.0), rest.1)
    s = ap (λ (r : List Object × List Fields). (os ++ r.0, r.1)) first

-- Where nothing is left to read, the objects so far are all.
gathered_all : (ls : List Fields) (os : List Object) (next : ℕ) → Gathered ls os next
    → read_objects (64 - length os) (drop next ls) ≡ ([], drop next ls) → ObjectsIn ls os next
gathered_all ls os next g e =
    record {
      are_read =
          sym g.left ∙ ap (λ (r : List Object × List Fields). (os ++ r.0, r.1)) e
          ∙ ap (λ (xs : List Object). (xs, drop next ls)) (append-nil os);
      within = g.within;
    }

pub gathered_ends : (ls : List Fields) (os : List Object) (next : ℕ) → Gathered ls os next
    → is_object (get_or ls next []) ≡ false → ObjectsIn ls os next
gathered_ends ls os next g f =
    gathered_all ls os next g (objects_end (64 - length os) (drop next ls) (ap is_object (first_left ls next) ∙ f))

pub gathered_full : (ls : List Fields) (os : List Object) (next : ℕ) → Gathered ls os next → 64 ≤ length os
    → ObjectsIn ls os next
gathered_full ls os next g h = gathered_all ls os next g (ap (λ (k : ℕ). read_objects k (drop next ls)) z)
  where
    z : 64 - length os ≡ 0
    z = omega arith

-- The lines are admitted with an object and no line left.
lines_admitted : (ls : List Fields) (os : List Object) (next : ℕ) → ObjectsIn ls os next → 1 ≤ length os → length ls ≤ next
    → read_lines ls ≡ Ok os
lines_admitted ls os next r h k =
    let left : length (drop next ls) ≡ 0 = omega (arith, length-drop next ls) in
    let t : (leb 1 (length os) && eqb (length (drop next ls)) 0) ≡ true =
    and_from _ _ (le-leb 1 (length os) h) (eq-eqb (length (drop next ls)) 0 left) in
    rw r.are_read (cond-true _ _ _ t)

-- Else the line behind the last object is refused.
lines_refused : (ls : List Fields) (os : List Object) (next : ℕ) → ObjectsIn ls os next
    → (length os ≡ 0) ⊎ (next < length ls) → read_lines ls ≡ Err (BadLine (next + 1))
lines_refused ls os next r h =
    let line : 1 + (length ls - length (drop next ls)) ≡ next + 1 = omega (arith, length-drop next ls, r.within) in
    let t : (leb 1 (length os) && eqb (length (drop next ls)) 0) ≡ false =
    ⊎_elim (λ e. and_left _ _ (lt-leb 1 (length os) (omega arith)))
    (λ l. and_right _ _ (ne_eqb (length (drop next ls)) 0 (λ z. omega (arith, length-drop next ls)))) h in
    rw r.are_read (cond-false _ _ _ t ∙ ap (λ (n : ℕ). Err (BadLine n)) line)

-- A text is read as its lines, if it is short enough and begins as it should.
module _ (bytes rest : List ℕ) (parts : List (Bor (List ℕ))) (os : List Object) (next : ℕ) (short : length bytes ≤ 1048576)
    (begun : Some rest ≡ only_if (begins first_line bytes) (drop 7 bytes)) (split-up : names_of parts ≡ split 10 rest)
    (read : ObjectsIn (lines_in parts) os next) where
  book_begun : read_book bytes ≡ read_lines (lines_in parts)
  book_begun =
      let t = only_if_some (begins first_line bytes) (drop 7 bytes) rest (sym begun) in
      cond-false _ _ _ (le-ltb 1048576 (length bytes) short) ∙ cond-true _ _ _ t.0
      ∙ ap (λ (r : List ℕ). read_lines (lines_of (split 10 r))) t.1
      ∙ ap (λ (ps : List Name). read_lines (lines_of ps)) (sym split-up)

  -- It is admitted with its objects, or refused behind the last.
  pub book_admitted : false ≡ eqb (length os) 0 → true ≡ leb (length (lines_in parts)) next → read_book bytes ≡ Ok os
  book_admitted some end =
      book_begun
      ∙ lines_admitted (lines_in parts) os next read (grind (arith, nat_tests, some))
      (leb-true (length (lines_in parts)) next (sym end))

  pub book_refused : (length os ≡ 0) ⊎ (next < length (lines_in parts)) → read_book bytes ≡ Err (BadLine (next + 1))
  book_refused why = book_begun ∙ lines_refused (lines_in parts) os next read why
