-- Worked samples as one table, and what each row says.
use Rattle.std.specs.Prelude.{◌≡◌, ℕ, List, [], ◌∷◌, ◌++◌, Some, None, Ok, Err, codes, Option, Result}
use Rattle.std.specs.List.{AllByRecursion}
use Rattle.elf.specs.declared.refusal.Refusal.{Refusal}
use Rattle.elf.specs.Meaning.{Object, object}
use Rattle.elf.specs.Offers.{offer}
use Rattle.format.specs.Book.{read_book}
use Rattle.session.specs.State.{State, initial}
use Rattle.session.specs.Calls.{link, open_object, close_object}
use Rattle.checker.specs.Linkbook.{linkbook}

-- Three objects in a row, with a line for object 1's soname and flags of object 2.
abbrev chain : List ℕ → List ℕ → List ℕ
chain soname flags =
    codes "book 1\nobject 0\nneeded can.so\nref 1 read 0\nref 2 note 0\nobject 0\n" ++ (soname
    ++ (codes "needed log.so\ndef 2 read 0 0\ndef 3 note 0 0\nref 3 note 4\nobject " ++ (flags
    ++ codes "\nsoname log.so\ndef 2 note 0 0\nref 2 note 4\nref 3 beep 1\n")))

-- The book of three, and it with object 2 symbolic, and without object 1's soname.
abbrev plain_book : List ℕ
plain_book = chain (codes "soname can.so\n") (codes "0")

abbrev symbolic_book : List ℕ
symbolic_book = chain (codes "soname can.so\n") (codes "1")

abbrev nameless_book : List ℕ
nameless_book = chain [] (codes "0")

-- Object 0 has symbol versions and defines `read` by some lines.
abbrev versioned_book : List ℕ → List ℕ
versioned_book defs = codes "book 1\nobject 2\n" ++ defs

-- Objects 0 and 1 need each other.
abbrev circle_book : List ℕ
circle_book = codes "book 1\nobject 0\nsoname a\nneeded b\nobject 0\nsoname b\nneeded a\n"

-- A sample: what is printed of a book; what object 0 offers of `read` where no version is wanted; the start order;
-- how many objects are new at an open, and how many leave when it is taken back.
pub data Sample : Type 0 where
  prints : List ℕ → List ℕ → Sample
  offers : List ℕ → Option ℕ → Sample
  starts : List ℕ → List ℕ → Sample
  opens : List ℕ → ℕ → ℕ → ℕ → Sample

-- The session linked at root 0, and then with an object opened.
abbrev linked : List Object → State
linked c = (link c (initial c) 0).next

abbrev opened : List Object → ℕ → State
opened c o = (open_object c (linked c) o).next

-- What is answered of a book's catalogue, or the refusal of the book.
abbrev of_book : {A : Type 0} → List ℕ → (List Object → A) → Result A Refusal
of_book b ask = elim (read_book b) [ Ok c ↦ Ok (ask c) | Err r ↦ Err r ]

-- What a sample says.
abbrev pub Holds : Sample → Type 0
Holds (prints b text) = linkbook b ≡ text
Holds (offers b a) = of_book b (λ c. offer (object c 0) (codes "read") None) ≡ Ok a
Holds (starts b order) = of_book b (λ c. (linked c).linkage.started) ≡ Ok order
Holds (opens b o new left) =
    (of_book b (λ c. (open_object c (linked c) o).answered) ≡ Ok (Ok new))
    × (of_book b (λ c. (close_object c (opened c o) o).answered) ≡ Ok (Ok left))

-- The samples.
abbrev pub samples : List Sample
samples =
    prints plain_book
    (codes "load 0\nload 1\nload 2\ninit 2\ninit 1\ninit 0\nbind 0 1 read 1 2\nbind 0 2 note 1 3\nbind 1 3 note 1 3\nover 2 2 note 1 3\nnone 2 3 beep\n")
    ∷ (prints symbolic_book
    (codes "load 0\nload 1\nload 2\ninit 2\ninit 1\ninit 0\nbind 0 1 read 1 2\nbind 0 2 note 1 3\nbind 1 3 note 1 3\nbind 2 2 note 2 2\nnone 2 3 beep\n")
    ∷ (prints nameless_book (codes "refused 15 0 0\n")
    ∷ (offers (versioned_book (codes "def 7 read 3 0 V3\n")) (Some 7)
    ∷ (offers (versioned_book (codes "def 7 read 3 0 V3\ndef 8 read 4 0 V4\n")) None
    ∷ (offers (versioned_book (codes "def 7 read 32771 0 V3\n")) None
    ∷ (offers (versioned_book (codes "def 7 read 32770 0 V2\n")) (Some 7)
    ∷ (starts circle_book (1 ∷ (0 ∷ []))
    ∷ (opens plain_book 2 0 0 ∷ []))))))))

-- Every sample holds.
abbrev pub SamplesHold : Type 0
SamplesHold = AllByRecursion Holds samples
