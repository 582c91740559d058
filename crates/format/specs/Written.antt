-- How an export book is written: the lines of a catalogue, field by field, and their text.
use Rattle.std.specs.Prelude.{ℕ, ◌+◌, Bool, cond, List, [], ◌∷◌, ◌++◌, map, Some, None, codes, decimal, Option}
use Rattle.elf.specs.Names.{Name}
use Rattle.elf.specs.Meaning.{Definition, Reference, VersionNeed, Object}
use Rattle.format.specs.Lines.{Fields}

-- The value of a flag: its bit where it is set.
abbrev pub flag : ℕ → Bool → ℕ
flag bit set = cond set bit 0

-- What may be absent, as a list.
abbrev pub if_told : Option Name → List Name
if_told None = []
if_told (Some n) = n ∷ []

-- `book 1`.
abbrev pub book_line : Fields
book_line = codes "book" ∷ (codes "1" ∷ [])

-- `object`, flags: 1 symbolic, 2 symbol versions.
abbrev pub object_line : Object → Fields
object_line o = codes "object" ∷ (decimal (flag 1 o.symbolic + flag 2 o.versioned) ∷ [])

-- `soname` or `needed`, name.
abbrev pub name_line : Name → Name → Fields
name_line word n = word ∷ (n ∷ [])

-- `want`, file, version, flag: 1 weak.
abbrev pub want_line : VersionNeed → Fields
want_line n = codes "want" ∷ (n.file ∷ (n.version ∷ (decimal (flag 1 n.weak) ∷ [])))

-- `version`, name, index.
abbrev pub version_line : Name × ℕ → Fields
version_line v = codes "version" ∷ (v.0 ∷ (decimal v.1 ∷ []))

-- `def`, symbol number, name, index with 32,768 added where hidden, flags: 1 weak, 2 protected; perhaps a version.
abbrev pub def_line : Definition → Fields
def_line d =
    codes "def" ∷ (decimal d.number ∷ (d.name ∷ (decimal (d.index + flag 32768 d.hidden)
    ∷ (decimal (flag 1 d.weak + flag 2 d.protected) ∷ if_told d.version))))

-- `ref`, symbol number, name, flags: 1 weak, 2 protected, 4 own; perhaps a version.
abbrev pub ref_line : Reference → Fields
ref_line r =
    codes "ref" ∷ (decimal r.number ∷ (r.name
    ∷ (decimal (flag 1 r.weak + flag 2 r.protected + flag 4 r.own) ∷ if_told r.version)))

-- The lines of an object behind its `object` line, in their order; `version` lines also tell indices.
abbrev pub body_lines : Object → List (Name × ℕ) → List Fields
body_lines o versions =
    map (name_line (codes "soname")) (if_told o.soname)
    ++ (map (name_line (codes "needed")) o.needed
    ++ (map want_line o.needs
    ++ (map version_line versions
    ++ (map def_line o.definitions
    ++ map ref_line o.references))))

-- Fields with one space between.
abbrev pub spaced : Fields → List ℕ
spaced [] = []
spaced (f ∷ []) = f
spaced (f ∷ (g ∷ fs)) = f ++ (32 ∷ spaced (g ∷ fs))

-- The text of lines, each ended by a line feed.
abbrev pub text_of : List Fields → List ℕ
text_of [] = []
text_of (l ∷ ls) = spaced l ++ (10 ∷ text_of ls)
