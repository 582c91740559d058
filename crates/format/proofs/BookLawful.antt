-- What a book admits is a lawful catalogue.
use Rattle.std.proofs.Common.{◌≡◌, ℕ, zero, suc, ◌+◌, ◌-◌, ◌%◌, ◌<◌, ◌≤◌, Bool, true, false, cond, not, ◌&&◌, ◌||◌, eqb, ltb, leb, List, [], ◌∷◌, ◌++◌, map, length, get_or, drop, is_ok, Some, None, Ok, Err, codes, Option, Result, sym, refl, ap, subst, arith}
use lib.ListN.{length-map}
use Rattle.std.specs.List.{AllByRecursion, slice_get}
use Rattle.std.proofs.ByRecursion.{All-map, All-push}
use Rattle.std.proofs.lemmas.List.{length_push, map_push}
use Rattle.std.proofs.lemmas.Bool.{and_parts, false≢true, leb-true, ltb-true}
use Rattle.elf.specs.declared.refusal.Refusal.{Refusal}
use Rattle.elf.specs.declared.refusal.Refusal.TheVariants.{BookTooLong, BadLine}
use Rattle.elf.specs.Names.{Name, lawful, only_if}
use Rattle.elf.specs.Meaning.{Definition, Reference, VersionNeed, Object}
use Rattle.catalogue.specs.Lawful.{LawfulName, LawfulIfTold, LawfulDefinition, LawfulReference, LawfulObject, Lawful, Rising, version_fits}
use Rattle.format.specs.Lines.{Fields, field, is_row, is_digits, is_number, number_at, value, has_flag, last, name_row, want_row, version_row, new_index, def_row, def_fits, ref_row, ref_fits, is_object, begins, first_line, lines_of, split}
use Rattle.format.specs.Book.{run, any, object_body, read_objects, read_lines, read_book}
use Rattle.elf.proofs.Choices.{only_if_some}

module _ {A : Type 0} (reads : Fields → Option A) (fits : List A → A → Bool) where
  -- What every further row keeps holds of a run's rows.
  run_keeps : (Q : List A → Type 0)
      → ((before : List A) (l : Fields) (x : A) → Q before → reads l ≡ Some x → fits before x ≡ true
      → Q (before ++ (x ∷ [])))
      → (k : ℕ) (before : List A) (ls : List Fields) → Q before → Q (run k reads fits before ls).0
  run_keeps Q step zero before ls q = q
  run_keeps Q step (suc k) before [] q = q
  run_keeps Q step (suc k) before (l ∷ ls) q = go (λ x. run_keeps Q step k (before ++ (x ∷ [])) ls) (reads l) refl
    where
      Again : Type 0
      Again = (x : A) → Q (before ++ (x ∷ [])) → Q (run k reads fits (before ++ (x ∷ [])) ls).0

      further : Again → (x : A) (b : Bool) → reads l ≡ Some x → fits before x ≡ b
          → Q (cond b (run k reads fits (before ++ (x ∷ [])) ls) (before, l ∷ ls)).0
      further again x true p f = again x (step before l x q p f)
      further again x false p f = q

      go : Again → (o : Option A) → reads l ≡ o → Q (run (suc k) reads fits before (l ∷ ls)).0
      go again None p = rw (p, run) q
      go again (Some x) p = rw (p, run) (further again x (fits before x) p refl)

  -- A run has at most so many rows.
  run_few : (k : ℕ) (before : List A) (ls : List Fields) → length (run k reads fits before ls).0 ≤ length before + k
  run_few zero before ls = omega arith
  run_few (suc k) before [] = omega arith
  run_few (suc k) before (l ∷ ls) = go (λ x. run_few k (before ++ (x ∷ [])) ls) (reads l) refl
    where
      Again : Type 0
      Again = (x : A) → length (run k reads fits (before ++ (x ∷ [])) ls).0 ≤ length (before ++ (x ∷ [])) + k

      further : Again → (x : A) (b : Bool)
          → length (cond b (run k reads fits (before ++ (x ∷ [])) ls) (before, l ∷ ls)).0 ≤ length before + suc k
      further again x true = omega (arith, again x, length_push before x)
      further again x false = omega arith

      go : Again → (o : Option A) → reads l ≡ o → length (run (suc k) reads fits before (l ∷ ls)).0 ≤ length before + suc k
      go again None p = rw (p, run) (omega arith)
      go again (Some x) p = rw (p, run) (further again x (fits before x))

  -- What holds of each row that is read and fits holds of all, of which there are few.
  run_all : (P : A → Type 0) → ((before : List A) (l : Fields) (x : A) → reads l ≡ Some x → fits before x ≡ true → P x)
      → (k : ℕ) (ls : List Fields) → (length (run k reads fits [] ls).0 ≤ k) × AllByRecursion P (run k reads fits [] ls).0
  run_all P each k ls = (
    omega (arith, run_few k [] ls),
    run_keeps (AllByRecursion P) (λ before l x q r f. All-push P before x q (each before l x r f)) k [] ls tt,
  )

-- The last number, or the one below.
last_from : ℕ → List ℕ → ℕ
last_from low [] = low
last_from low (n ∷ ns) = last_from n ns

last_is : (n : ℕ) (ns : List ℕ) → last (n ∷ ns) ≡ last_from n ns
unfolding last_from
last_is n [] = refl
last_is n (m ∷ ns) = last_is m ns

last_is_from : (ns : List ℕ) → last ns ≡ last_from 0 ns
unfolding last_from
last_is_from [] = refl
last_is_from (n ∷ ns) = last_is n ns

-- One more number above the last.
rising_push : (low : ℕ) (ns : List ℕ) (n : ℕ) → Rising low ns → last_from low ns < n → n ≤ 65535
    → Rising low (ns ++ (n ∷ []))
unfolding last_from
rising_push low [] n r h m = (h, m, tt)
rising_push low (k ∷ ns) n r h m = (r.0, r.1, rising_push k ns n r.2 h m)

-- The numbers of a run rise where those that fit are above the last.
run_rises : {A : Type 0} (reads : Fields → Option A) (fits : List A → A → Bool) (num : A → ℕ)
    → ((before : List A) (l : Fields) (x : A) → reads l ≡ Some x → fits before x ≡ true
    → (last (map num before) < num x) × (num x ≤ 65535))
    → (k : ℕ) (ls : List Fields) → Rising 0 (map num (run k reads fits [] ls).0)
run_rises {A} reads fits num each k ls = run_keeps reads fits (λ xs. Rising 0 (map num xs)) step k [] ls tt
  where
    step : (before : List A) (l : Fields) (x : A) → Rising 0 (map num before) → reads l ≡ Some x → fits before x ≡ true
        → Rising 0 (map num (before ++ (x ∷ [])))
    step before l x q r f =
        let p = each before l x r f in
        subst (Rising 0) (sym (map_push num before x))
        (rising_push 0 (map num before) (num x) q (subst (λ (n : ℕ). n < num x) (last_is_from (map num before)) p.0) p.1)

-- A name that is read is lawful.
name_lawful : (word : Name) (l : Fields) (n : Name) → name_row word l ≡ Some n → LawfulName n
name_lawful word l n e = let p = only_if_some _ _ n e in subst LawfulName p.1 (and_parts _ _ p.0).1

version_lawful : (l : Fields) (v : Name × ℕ) → version_row l ≡ Some v → LawfulName v.0
version_lawful l v e =
    let p = only_if_some _ _ v e in
    let a = and_parts _ _ p.0 in
    let b = and_parts _ _ a.0 in
    subst (λ (w : Name × ℕ). LawfulName w.0) p.1 (and_parts _ _ b.0).1

want_lawful : (l : Fields) (n : VersionNeed) → want_row l ≡ Some n → LawfulName n.file × LawfulName n.version
want_lawful l n e =
    let p = only_if_some _ _ n e in
    let a = and_parts _ _ p.0 in
    let b = and_parts _ _ a.0 in
    subst (λ (m : VersionNeed). LawfulName m.file × LawfulName m.version) p.1 ((and_parts _ _ b.0).1, b.1)

-- A version that is told is lawful, and told just where it should be.
told_lawful : (told : Bool) (v : Name) → (not told || lawful v) ≡ true → LawfulIfTold (only_if told v)
told_lawful true v e = e
told_lawful false v e = tt

told_fits : (i : ℕ) (v : Name) → version_fits i (only_if (leb 2 i) v) ≡ true
told_fits i v = go (leb 2 i) refl
  where
    go : (b : Bool) → leb 2 i ≡ b → version_fits i (only_if b v) ≡ true
    go true p = p
    go false p = ap not p

-- A number is within its limit.
number_within : (most : ℕ) (ds : List ℕ) → is_number most ds ≡ true → value 0 ds ≤ most
number_within most ds e =
    leb-true (value 0 ds) most
    (and_parts (is_digits ds && (eqb (length ds) 1 || not (eqb (get_or ds 0 0) 48))) (leb (value 0 ds) most) e).1

-- What a line of a definition tells.
record ReadDefinition (d : Definition) : Type 0 where
  number : d.number ≤ 65535
  name : LawfulName d.name
  version : LawfulIfTold d.version
  fits : version_fits d.index d.version ≡ true

definition_read : (l : Fields) (d : Definition) → def_row l ≡ Some d → ReadDefinition d
definition_read l d e =
    let p = only_if_some _ _ d e in
    let a = and_parts _ _ p.0 in
    let b = and_parts _ (is_number 3 (field l 4)) a.0 in
    let c = and_parts _ (is_number 65535 (field l 3)) b.0 in
    let n = and_parts _ _ c.0 in
    let k = and_parts (is_row (codes "def") (cond (leb 2 (number_at l 3 % 32768)) 6 5) l) _ n.0 in
    subst ReadDefinition p.1
    (record {
      number = number_within 65535 (field l 1) k.1;
      name = n.1;
      version = told_lawful (leb 2 (number_at l 3 % 32768)) (field l 5) a.1;
      fits = told_fits (number_at l 3 % 32768) (field l 5);
    })

-- What a line of a reference tells.
record ReadReference (r : Reference) : Type 0 where
  number : r.number ≤ 65535
  name : LawfulName r.name
  version : LawfulIfTold r.version

reference_read : (l : Fields) (r : Reference) → ref_row l ≡ Some r → ReadReference r
reference_read l r e =
    let p = only_if_some _ _ r e in
    let a = and_parts _ _ p.0 in
    let b = and_parts _ (is_number 7 (field l 3)) a.0 in
    let n = and_parts _ _ b.0 in
    let k = and_parts (is_row (codes "ref") (cond (eqb (length l) 5) 5 4) l) _ n.0 in
    subst ReadReference p.1
    (record {
      number = number_within 65535 (field l 1) k.1;
      name = n.1;
      version = told_lawful (eqb (length l) 5) (field l 4) a.1;
    })

-- The first of some lawful names, if there is one.
first_lawful : (ns : List Name) → AllByRecursion LawfulName ns → LawfulIfTold (slice_get ns 0)
first_lawful [] h = tt
first_lawful (n ∷ ns) h = h.0

-- An object that is read is lawful.
object_lawful : (flags : ℕ) (ls : List Fields) → LawfulObject (object_body flags ls).0
object_lawful flags ls =
    let o : Object = (object_body flags ls).0 in
    let sonames : List Name × List Fields = run 1 (name_row (codes "soname")) any [] ls in
    let needed : List Name × List Fields = run 32 (name_row (codes "needed")) any [] sonames.1 in
    let needs : List VersionNeed × List Fields = run 64 want_row any [] needed.1 in
    let versions : List (Name × ℕ) × List Fields = run 64 version_row new_index [] needs.1 in
    let defs : List Definition × List Fields = run 4096 def_row (def_fits (has_flag 2 flags)) [] versions.1 in
    let named = run_all version_row new_index (λ v. LawfulName v.0) (λ before l v e f. version_lawful l v e) 64 needs.1 in
    let names = λ (word : Name). run_all (name_row word) any LawfulName (λ before l n e f. name_lawful word l n e) in
    record {
      soname = first_lawful sonames.0 (names (codes "soname") 1 ls).1;
      needed = names (codes "needed") 32 sonames.1;
      needs = run_all want_row any _ (λ before l n e f. want_lawful l n e) 64 needed.1;
      versions =
          (omega (arith, length-map versions.0 (λ v. v.0), named.0), All-map LawfulName (λ v. v.0) versions.0 named.1);
      definitions = run_all def_row (def_fits (has_flag 2 flags)) (LawfulDefinition o)
          (λ before l d e f. let r = definition_read l d e in (r.name, r.version, (and_parts _ _ f).1, r.fits)) 4096
          versions.1;
      references = run_all ref_row (ref_fits defs.0) (LawfulReference o)
          (λ before l x e f. let r = reference_read l x e in (r.name, r.version, (and_parts _ _ f).1)) 4096 defs.1;
      definitions_rise = run_rises def_row (def_fits (has_flag 2 flags)) (λ d. d.number)
          (λ before l d e f. (ltb-true _ _ (and_parts _ _ f).0, (definition_read l d e).number)) 4096 versions.1;
      references_rise = run_rises ref_row (ref_fits defs.0) (λ x. x.number)
          (λ before l x e f. (ltb-true _ _ (and_parts _ _ f).0, (reference_read l x e).number)) 4096 defs.1;
    }

-- So are all objects, at most as many as are asked for.
objects_lawful : (k : ℕ) (ls : List Fields) → (length (read_objects k ls).0 ≤ k) × AllByRecursion LawfulObject (read_objects k ls).0
objects_lawful zero ls = (omega arith, tt)
objects_lawful (suc k) [] = (omega arith, tt)
objects_lawful (suc k) (l ∷ ls) = go (objects_lawful k (object_body (number_at l 1) ls).1) (is_object l)
  where
    body : Object × List Fields
    body = object_body (number_at l 1) ls

    both : Bool → List Object × List Fields
    both b = cond b (body.0 ∷ (read_objects k body.1).0, (read_objects k body.1).1) ([], l ∷ ls)

    go : (length (read_objects k body.1).0 ≤ k) × AllByRecursion LawfulObject (read_objects k body.1).0
        → (b : Bool) → (length (both b).0 ≤ suc k) × AllByRecursion LawfulObject (both b).0
    go others true = (omega (arith, others.0), (object_lawful (number_at l 1) ls, others.1))
    go others false = (omega arith, tt)

-- A refusal is no answer.
never : {X : Type 0} (e : Refusal) (x : X) → Err e ≡ Ok x → ⊥
never {X} e x p = false≢true (ap (is_ok {T = X} {E = Refusal}) p)

lines_lawful : (ls : List Fields) (c : List Object) → read_lines ls ≡ Ok c → Lawful c
lines_lawful ls c e = go (leb 1 (length os) && eqb (length (read_objects 64 ls).1) 0) refl e
  where
    os : List Object
    os = (read_objects 64 ls).0

    bad : Refusal
    bad = BadLine (1 + (length ls - length (read_objects 64 ls).1))

    go : (b : Bool) → (leb 1 (length os) && eqb (length (read_objects 64 ls).1) 0) ≡ b → cond b (Ok os) (Err bad) ≡ Ok c
        → Lawful c
    go true t p =
        let q : os ≡ c = cc in
        let h = objects_lawful 64 ls in
        subst Lawful q (leb-true 1 (length os) (and_parts _ _ t).0, h.0, h.1)
    go false t p = absurd (never bad c p)

-- What is read of a book is a lawful catalogue.
pub book_lawful : (bytes : List ℕ) (c : List Object) → read_book bytes ≡ Ok c → Lawful c
book_lawful bytes c e = go (ltb 1048576 (length bytes)) (begins first_line bytes) e
  where
    read : Result (List Object) Refusal
    read = read_lines (lines_of (split 10 (drop 7 bytes)))

    go : (long begun : Bool) → cond long (Err BookTooLong) (cond begun read (Err (BadLine 0))) ≡ Ok c → Lawful c
    go true begun p = absurd (never BookTooLong c p)
    go false true p = lines_lawful (lines_of (split 10 (drop 7 bytes))) c p
    go false false p = absurd (never (BadLine 0) c p)
