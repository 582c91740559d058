-- The lines of an export book, each read from its fields, and how it fits behind the lines before.
use Rattle.std.specs.Prelude.{ℕ, ◌+◌, ◌-◌, ◌*◌, ◌/◌, ◌%◌, Bool, true, cond, not, ◌&&◌, ◌||◌, leb, List, [], ◌∷◌, map, length, codes, Option, ◌==◌, nat_eq, nat_le, nat_lt, slice_index, slice_index_or}
use Rattle.std.specs.Str.{bytes_eq}
use Rattle.graph.specs.Graph.{among}
use Rattle.std.specs.List.{list_all}
use Rattle.elf.specs.Names.{Name, lawful, only_if}
use Rattle.elf.specs.Meaning.{Definition, Reference, VersionNeed, numbered}
use Rattle.catalogue.specs.Lawful.{index_fits, agrees}

-- The first of some parts with one more byte in front.
abbrev pub onto : ℕ → List (List ℕ) → List (List ℕ)
onto b [] = []
onto b (p ∷ ps) = (b ∷ p) ∷ ps

-- The parts between the bytes of one value.
abbrev pub split : ℕ → List ℕ → List (List ℕ)
split mark [] = [] ∷ []
split mark (b ∷ bs) = cond (b == mark) ([] ∷ split mark bs) (onto b (split mark bs))

-- A line is its fields; what stands after the last line feed is a line without fields, which fits no rule.
abbrev pub Fields : Type 0
Fields = List Name

-- The lines of the parts between line feeds.
abbrev pub lines_of : List (List ℕ) → List Fields
lines_of [] = []
lines_of ([] ∷ []) = []
lines_of ((b ∷ bs) ∷ []) = [] ∷ []
lines_of (p ∷ (q ∷ ps)) = split 32 p ∷ lines_of (q ∷ ps)

-- A field of a line, from 0; past the last there is nothing.
abbrev pub field : Fields → ℕ → Name
field l k = slice_index_or l k []

-- A line has a word and so many fields in all.
abbrev pub is_row : Name → ℕ → Fields → Bool
is_row word n l = length l == n && bytes_eq (field l 0) word

-- The value of digits behind a number.
abbrev pub value : ℕ → List ℕ → ℕ
value n [] = n
value n (d ∷ ds) = value (10 * n + (d - 48)) ds

-- Digits, at least one.
abbrev pub is_digits : List ℕ → Bool
is_digits ds = nat_le 1 (length ds) && list_all (λ d. nat_le 48 d && nat_le d 57) ds

-- A decimal number without spare zeros, at most a limit.
abbrev pub is_number : ℕ → List ℕ → Bool
is_number most ds = is_digits ds && (length ds == 1 || not (slice_index ds 0 == 48)) && nat_le (value 0 ds) most

-- A field's number.
abbrev pub number_at : Fields → ℕ → ℕ
number_at l k = value 0 (field l k)

-- The bit of a value in summed flags.
abbrev pub has_flag : ℕ → ℕ → Bool
has_flag bit flags = (flags / bit) % 2 == 1

-- The name of a `soname` or `needed` line.
abbrev pub name_row : Name → Fields → Option Name
name_row word l = only_if (is_row word 2 l && lawful (field l 1)) (field l 1)

-- A `want` line: file, version, flag.
abbrev pub want_row : Fields → Option VersionNeed
want_row l =
    only_if (is_row (codes "want") 4 l && lawful (field l 1) && lawful (field l 2) && is_number 1 (field l 3))
    (record { file = field l 1; version = field l 2; weak = has_flag 1 (number_at l 3) })

-- A `version` line: name, index.
abbrev pub version_row : Fields → Option (Name × ℕ)
version_row l =
    only_if (is_row (codes "version") 3 l && lawful (field l 1) && is_number 255 (field l 2) && nat_le 2 (number_at l 2))
    (field l 1, number_at l 2)

-- A `def` line: symbol number, name, index, flags, and from index 2 on a version.
abbrev pub def_row : Fields → Option Definition
def_row l =
    let index : ℕ = number_at l 3 % 32768 in
    let told : Bool = leb 2 index in
    only_if
    (is_row (codes "def") (cond told 6 5) l && is_number 65535 (field l 1) && lawful (field l 2)
    && is_number 65535 (field l 3) && is_number 3 (field l 4) && (not told || lawful (field l 5)))
    (record {
      number = number_at l 1;
      name = field l 2;
      index = index;
      hidden = nat_le 32768 (number_at l 3);
      weak = has_flag 1 (number_at l 4);
      protected = has_flag 2 (number_at l 4);
      version = only_if told (field l 5);
    })

-- A `ref` line: symbol number, name, flags, perhaps a version.
abbrev pub ref_row : Fields → Option Reference
ref_row l =
    let told : Bool = nat_eq (length l) 5 in
    only_if
    (is_row (codes "ref") (cond told 5 4) l && is_number 65535 (field l 1) && lawful (field l 2)
    && is_number 7 (field l 3) && (not told || lawful (field l 4)))
    (record {
      number = number_at l 1;
      name = field l 2;
      weak = has_flag 1 (number_at l 3);
      protected = has_flag 2 (number_at l 3);
      own = has_flag 4 (number_at l 3);
      version = only_if told (field l 4);
    })

-- The last of some numbers, or 0.
abbrev pub last : List ℕ → ℕ
last [] = 0
last (n ∷ []) = n
last (n ∷ (m ∷ ns)) = last (m ∷ ns)

-- An index stands in no earlier `version` line.
abbrev pub new_index : List (Name × ℕ) → Name × ℕ → Bool
new_index before v = not (among v.1 (map (λ w. w.1) before))

-- A definition's number rises, and its index fits the object's flag.
abbrev pub def_fits : Bool → List Definition → Definition → Bool
def_fits versioned before d =
    nat_lt (last (map (λ e. e.number) before)) d.number && index_fits versioned d

-- A reference's number rises, and it agrees with what the object defines.
abbrev pub ref_fits : List Definition → List Reference → Reference → Bool
ref_fits defs before r =
    nat_lt (last (map (λ e. e.number) before)) r.number
    && agrees r (numbered defs r.number)

-- Is this an `object` line?
abbrev pub is_object : Fields → Bool
is_object l = is_row (codes "object") 2 l && is_number 3 (field l 1)

-- The bytes of a text stand in another from a place on.
abbrev pub stands_at : List ℕ → ℕ → List ℕ → Bool
stands_at [] k bytes = true
stands_at (b ∷ bs) k bytes = slice_index bytes k == b && stands_at bs (k + 1) bytes

-- A text begins with another.
abbrev pub begins : List ℕ → List ℕ → Bool
begins front bytes = nat_le (length front) (length bytes) && stands_at front 0 bytes

-- The first line is `book 1`.
abbrev pub first_line : List ℕ
first_line = codes "book 1\n"
