-- What `linkbook` prints of a book.
use Rattle.std.specs.Prelude.{ℕ, cond, List, [], ◌∷◌, ◌++◌, length, Ok, Err, Result, nat_lt}
use Rattle.elf.specs.declared.refusal.Refusal.{Refusal}
use Rattle.elf.specs.declared.refusal.Refusal.TheVariants.{BookTooLong}
use Rattle.elf.specs.Meaning.{Object}
use Rattle.format.specs.Book.{read_book}
use Rattle.session.specs.State.{initial}
use Rattle.session.specs.Calls.{link}
use Rattle.session.specs.Lines.{Line, lines, render, refusal_line}

-- A report's bytes: its lines in their order.
abbrev pub report : List Line → List ℕ
report [] = []
report (l ∷ ls) = render l ++ report ls

-- A book for `linkbook`: at most 65,536 bytes, and then read as any book.
abbrev pub read_input : List ℕ → Result (List Object) Refusal
read_input book = cond (nat_lt 65536 (length book)) (Err BookTooLong) (read_book book)

-- A text that a call granted, or the call's refusal.
abbrev pub told : Result ℕ Refusal → List ℕ → Result (List ℕ) Refusal
told (Ok n) text = Ok text
told (Err r) text = Err r

-- The report of a catalogue linked at object 0, or the refusal.
abbrev pub report_of : List Object → Result (List ℕ) Refusal
report_of c = told (link c (initial c) 0).answered (report (lines (link c (initial c) 0).next.linkage))

-- The report of what was read, or the refusal.
abbrev pub reported : Result (List Object) Refusal → Result (List ℕ) Refusal
reported (Ok c) = report_of c
reported (Err r) = Err r

-- The report of a book, or the refusal.
abbrev pub book_report : List ℕ → Result (List ℕ) Refusal
book_report book = reported (read_input book)

-- A report, or the line of a refusal.
abbrev pub printed : Result (List ℕ) Refusal → List ℕ
printed (Ok text) = text
printed (Err r) = refusal_line r

-- What is printed: the report, or the one refusal line.
abbrev pub linkbook : List ℕ → List ℕ
linkbook book = printed (book_report book)
