-- What a line about a symbol tells, by its fields as they are stored.
use Rattle.std.proofs.Common.{◌≡◌, ℕ, ◌-◌, ◌%◌, ◌≤◌, Bool, true, false, cond, ◌&&◌, ◌||◌, not, eqb, leb, List, [], ◌∷◌, length, get_or, take, drop, is_some, Some, None, codes, Option, refl, arith, Bor}
use Rattle.std.proofs.lemmas.List.{take_all}
use Rattle.std.proofs.lemmas.Bool.{ne_eqb}
use Rattle.std.specs.Bool.{beq}
use Rattle.std.specs.Str.{bytes_eq}
use Rattle.elf.specs.Names.{Name, bytes_of, and_then, only_if, lawful, names_of}
use Rattle.elf.specs.Meaning.{Definition, Reference}
use Rattle.format.specs.Lines.{is_number, value, has_flag, def_row, ref_row}
use Rattle.bookline.specs.Rows.{version_in}

-- A field as it is stored.
abbrev pub stored : List (Bor (List ℕ)) → ℕ → Name
stored fields k = (get_or fields k (record { ref_ptr = (0, 0); now = [] })).now

-- A number at most a limit.
abbrev pub number_in : ℕ → Name → Option ℕ
number_in most digits = only_if (is_number most digits) (value 0 digits)

-- None either way.
pub none_both : {A : Type 0} (b : Bool) → ◌≡◌ {A = Option A} None (cond b None None)
none_both false = refl
none_both true = refl

-- Bytes stand behind a reference that is there.
pub is_some-bytes_of : (o : Option (Bor (List ℕ))) → is_some (bytes_of o) ≡ is_some o
is_some-bytes_of None = refl
is_some-bytes_of (Some r) = refl

-- The tests of a `ref` line, of its length, word, number, name, flags and version, in the order in which it is read;
-- `found` is what the first and the last tell.
ref_in_turn : {A : Type 0} (l p q r s w : Bool) (n f : ℕ) (x : A) (found : ℕ → ℕ → Option A)
    → only_if (l && w) x ≡ found n f
    → only_if (l && p && q && r && s && w) x ≡ cond (p && r) (and_then (only_if q n) (λ n. and_then (only_if s f) (found n))) None
ref_in_turn l p q r s w n f x found h = grind arith

-- The same of a `def` line, which has a field more.
def_in_turn : {A : Type 0} (l p q r s u w : Bool) (n v f : ℕ) (x : A) (found : ℕ → ℕ → ℕ → Option A)
    → only_if (l && w) x ≡ found n v f
    → only_if (l && p && q && r && s && u && w) x
    ≡ cond (p && r) (and_then (only_if q n) (λ n. and_then (only_if s v) (λ v. and_then (only_if u f) (found n v)))) None
def_in_turn l p q r s u w n v f x found h = grind arith

-- Whether a version is told, and what stands in its place, of a `def` line with five fields or six.
version_of_five : {A : Type 0} (told w : Bool) (v : Name) (make : Option Name → A)
    → only_if (eqb 5 (cond told 6 5) && (not told || w)) (make (only_if told v)) ≡ only_if (beq false told) (make None)
version_of_five false w v make = refl
version_of_five true w v make = refl

version_of_six : {A : Type 0} (told w : Bool) (v : Name) (make : Option Name → A)
    → only_if (eqb 6 (cond told 6 5) && (not told || w)) (make (only_if told v))
    ≡ and_then (only_if w (Some v)) (λ version. only_if (beq (is_some version) told) (make version))
version_of_six false false v make = refl
version_of_six false true v make = refl
version_of_six true false v make = refl
version_of_six true true v make = refl

six_at_most : (b : Bool) → cond b 6 5 ≤ 6
six_at_most false = omega arith
six_at_most true = omega arith

-- The reference that the fields of a `ref` line tell.
abbrev ref_of : Name → ℕ → ℕ → Option Name → Reference
ref_of name number flags version =
    record {
      number = number;
      name = name;
      weak = has_flag 1 flags;
      protected = has_flag 2 flags;
      own = has_flag 4 flags;
      version = version;
    }

-- What a `ref` line of at least four fields tells, in the order in which they are read.
pub ref_told : (fields : List (Bor (List ℕ))) → 4 ≤ length fields
    → ref_row (names_of fields)
    ≡ cond (bytes_eq (stored fields 0) (codes "ref") && lawful (stored fields 2))
    (and_then (number_in 65535 (stored fields 1)) (λ number. and_then (number_in 7 (stored fields 3))
    (λ flags. and_then (version_in (names_of (take (length fields - 4) (drop 4 fields))))
    (λ version. Some (ref_of (stored fields 2) number flags version)))))
    None
ref_told [] h = absurd (omega arith)
ref_told (a ∷ []) h = absurd (omega arith)
ref_told (a ∷ (b ∷ [])) h = absurd (omega arith)
ref_told (a ∷ (b ∷ (c ∷ []))) h = absurd (omega arith)
ref_told (a ∷ (b ∷ (c ∷ (d ∷ [])))) h = ref_in_turn true (bytes_eq a.now (codes "ref")) _ (lawful c.now) _ true _ _ _ _ refl
ref_told (a ∷ (b ∷ (c ∷ (d ∷ (e ∷ []))))) h =
    ref_in_turn true (bytes_eq a.now (codes "ref")) (is_number 65535 b.now) (lawful c.now) (is_number 7 d.now) (lawful e.now)
    (value 0 b.now) (value 0 d.now) _
    (λ number flags. and_then (only_if (lawful e.now) (Some e.now)) (λ version. Some (ref_of c.now number flags version))) (grind arith)
ref_told (a ∷ (b ∷ (c ∷ (d ∷ (e ∷ (f ∷ more)))))) h =
    let l = names_of (a ∷ (b ∷ (c ∷ (d ∷ (e ∷ (f ∷ more)))))) in
    let all : take (length (a ∷ (b ∷ (c ∷ (d ∷ (e ∷ (f ∷ more)))))) - 4) (e ∷ (f ∷ more)) ≡ e ∷ (f ∷ more) =
    take_all _ (e ∷ (f ∷ more)) (omega arith) in
    let five : eqb (length l) 5 ≡ false = ne_eqb _ 5 (λ z. omega (arith, z)) in
    let four : eqb (length l) 4 ≡ false = ne_eqb _ 4 (λ z. omega (arith, z)) in
    rw (all, five, four)
    (ref_in_turn false (bytes_eq a.now (codes "ref")) (is_number 65535 b.now) (lawful c.now) (is_number 7 d.now) true
    (value 0 b.now) (value 0 d.now) (ref_of [] 0 0 None) (λ number flags. None) refl)

-- The definition that the fields of a `def` line tell.
abbrev def_of : Name → ℕ → ℕ → ℕ → Option Name → Definition
def_of name number versym flags version =
    record {
      number = number;
      name = name;
      index = versym % 32768;
      hidden = leb 32768 versym;
      weak = has_flag 1 flags;
      protected = has_flag 2 flags;
      version = version;
    }

-- What a `def` line of at least five fields tells, in the order in which they are read.
pub def_told : (fields : List (Bor (List ℕ))) → 5 ≤ length fields
    → def_row (names_of fields)
    ≡ cond (bytes_eq (stored fields 0) (codes "def") && lawful (stored fields 2))
    (and_then (number_in 65535 (stored fields 1)) (λ number. and_then (number_in 65535 (stored fields 3))
    (λ versym. and_then (number_in 3 (stored fields 4))
    (λ flags. and_then (version_in (names_of (take (length fields - 5) (drop 5 fields))))
    (λ version. only_if (beq (is_some version) (leb 2 (versym % 32768)))
    (def_of (stored fields 2) number versym flags version))))))
    None
def_told [] h = absurd (omega arith)
def_told (a ∷ []) h = absurd (omega arith)
def_told (a ∷ (b ∷ [])) h = absurd (omega arith)
def_told (a ∷ (b ∷ (c ∷ []))) h = absurd (omega arith)
def_told (a ∷ (b ∷ (c ∷ (d ∷ [])))) h = absurd (omega arith)
def_told (a ∷ (b ∷ (c ∷ (d ∷ (e ∷ []))))) h =
    let told = leb 2 (value 0 d.now % 32768) in
    def_in_turn (eqb 5 (cond told 6 5)) (bytes_eq a.now (codes "def")) (is_number 65535 b.now)
    (lawful c.now) (is_number 65535 d.now) (is_number 3 e.now) (not told || lawful []) (value 0 b.now) (value 0 d.now)
    (value 0 e.now) _
    (λ number versym flags. only_if (beq false (leb 2 (versym % 32768))) (def_of c.now number versym flags None))
    (version_of_five told (lawful []) [] (def_of c.now (value 0 b.now) (value 0 d.now) (value 0 e.now)))
def_told (a ∷ (b ∷ (c ∷ (d ∷ (e ∷ (f ∷ [])))))) h =
    let told = leb 2 (value 0 d.now % 32768) in
    def_in_turn (eqb 6 (cond told 6 5)) (bytes_eq a.now (codes "def")) (is_number 65535 b.now)
    (lawful c.now) (is_number 65535 d.now) (is_number 3 e.now) (not told || lawful f.now) (value 0 b.now) (value 0 d.now)
    (value 0 e.now) _
    (λ number versym flags. and_then (only_if (lawful f.now) (Some f.now))
    (λ version. only_if (beq (is_some version) (leb 2 (versym % 32768))) (def_of c.now number versym flags version)))
    (version_of_six told (lawful f.now) f.now (def_of c.now (value 0 b.now) (value 0 d.now) (value 0 e.now)))
def_told (a ∷ (b ∷ (c ∷ (d ∷ (e ∷ (f ∷ (g ∷ more))))))) h =
    let l = names_of (a ∷ (b ∷ (c ∷ (d ∷ (e ∷ (f ∷ (g ∷ more))))))) in
    let told = leb 2 (value 0 d.now % 32768) in
    let all : take (length (a ∷ (b ∷ (c ∷ (d ∷ (e ∷ (f ∷ (g ∷ more))))))) - 5) (f ∷ (g ∷ more)) ≡ f ∷ (g ∷ more) =
    take_all _ (f ∷ (g ∷ more)) (omega arith) in
    let long : eqb (length l) (cond told 6 5) ≡ false = ne_eqb _ _ (λ z. omega (arith, z, six_at_most told)) in
    rw (all, long)
    (def_in_turn false (bytes_eq a.now (codes "def")) (is_number 65535 b.now) (lawful c.now) (is_number 65535 d.now)
    (is_number 3 e.now) true (value 0 b.now) (value 0 d.now) (value 0 e.now) (def_of [] 0 0 0 None) (λ number versym flags. None) refl)
