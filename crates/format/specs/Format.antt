-- The format's rules as a relation between a text and a catalogue, and what holds of every text.
use Rattle.std.specs.Prelude.{◌≡◌, ℕ, ◌≤◌, ◌⊎◌, List, [], ◌∷◌, ◌++◌, map, length, Ok}
use Rattle.std.specs.List.{AllByRecursion}
use Rattle.graph.specs.Graph.{Distinct}
use Rattle.elf.specs.Names.{Name}
use Rattle.elf.specs.Meaning.{Object}
use Rattle.catalogue.specs.Lawful.{Lawful}
use Rattle.format.specs.Lines.{Fields}
use Rattle.format.specs.Book.{read_book}
use Rattle.format.specs.Written.{book_line, object_line, version_line, body_lines, text_of}

-- An index of a `version` line.
abbrev pub Index : ℕ → Type 0
Index i = (2 ≤ i) × (i ≤ 255)

-- Lines tell an object: its `object` line and its sections, with an index for each version, none twice.
pub record Tells (o : Object) (ls : List Fields) : Type 0 where
  pub versions : List (Name × ℕ)
  pub named : map (λ v. v.0) versions ≡ o.versions
  pub indices : AllByRecursion Index (map (λ v. v.1) versions)
  pub distinct : Distinct (map (λ v. v.1) versions)
  pub lines : ls ≡ object_line o ∷ body_lines o versions

-- Lines tell objects, one behind the other.
abbrev pub TellAll : List Object → List Fields → Type 0
TellAll [] ls = ls ≡ []
TellAll (o ∷ os) ls = (front : List Fields) × (back : List Fields) × (ls ≡ front ++ back) × Tells o front × TellAll os back

-- A text is a book of a catalogue: at most 1,048,576 bytes, the line `book 1` and the lines of its objects, which keep
-- the rules on names, numbers, flags and limits.
pub record IsBook (text : List ℕ) (c : List Object) : Type 0 where
  pub lines : List Fields
  pub written : text ≡ text_of (book_line ∷ lines)
  pub told : TellAll c lines
  pub lawful : Lawful c
  pub short : length text ≤ 1048576

-- Two lines say the same, or are `version` lines of the same name.
abbrev pub Alike : Fields → Fields → Type 0
Alike l m = (l ≡ m) ⊎ ((n : Name) × (i : ℕ) × (j : ℕ) × (l ≡ version_line (n, i)) × (m ≡ version_line (n, j)))

-- As many lines, alike one by one.
abbrev pub AllAlike : List Fields → List Fields → Type 0
AllAlike [] [] = Unit {0}
AllAlike [] (m ∷ ms) = ⊥
AllAlike (l ∷ ls) [] = ⊥
AllAlike (l ∷ ls) (m ∷ ms) = Alike l m × AllAlike ls ms

-- The next three are stated only: no contract names them, so nothing proves them yet.

-- What is admitted keeps every rule of the format.
abbrev pub AdmittedIsBook : Type 0
AdmittedIsBook = (text : List ℕ) (c : List Object) → read_book text ≡ Ok c → IsBook text c

-- A text that keeps them is admitted, and means just the catalogue that its lines tell.
abbrev pub BookIsAdmitted : Type 0
BookIsAdmitted = (text : List ℕ) (c : List Object) → IsBook text c → read_book text ≡ Ok c

-- Texts of one catalogue have the same lines but for the indices of `version` lines: two texts that differ in any other
-- field mean different catalogues.
abbrev pub BooksOfOneCatalogue : Type 0
BooksOfOneCatalogue =
    (s t : List ℕ) (c : List Object) → read_book s ≡ Ok c → read_book t ≡ Ok c
    → (ls : List Fields) × (ms : List Fields) × (s ≡ text_of (book_line ∷ ls)) × (t ≡ text_of (book_line ∷ ms)) × AllAlike ls ms

-- Proved on the contract of `theorems`: what is admitted is a lawful catalogue.
abbrev pub AdmittedIsLawful : Type 0
AdmittedIsLawful = (text : List ℕ) (c : List Object) → read_book text ≡ Ok c → Lawful c
