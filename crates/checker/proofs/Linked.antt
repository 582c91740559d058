-- From a book's objects to its report.
use Rattle.std.proofs.Common.{◌≡◌, ℕ, ◌≤◌, false, cond, ltb, List, length, Ok, Err, sym, ap, ◌∙◌, ap₂, arith}
use Rattle.std.proofs.lemmas.Bool.Decides.{nat_tests}
use Rattle.elf.specs.declared.refusal.Refusal.{Refusal}
use Rattle.elf.specs.declared.refusal.Refusal.TheVariants.{BookTooLong}
use Rattle.elf.specs.Meaning.{Object}
use Rattle.format.specs.Book.{read_book}
use Rattle.session.specs.State.{State, initial}
use Rattle.session.specs.Calls.{Outcome, link}
use Rattle.session.specs.Lines.{lines}
use Rattle.checker.specs.Linkbook.{report, report_of, reported, book_report, told}

-- a book that is not too long is read as any book
module _ (text : List ℕ) (short : length text ≤ 65536) (c : List Object) (means : read_book text ≡ Ok c) where
  pub reads : book_report text ≡ report_of c
  reads =
      let e : ltb 65536 (length text) ≡ false = grind (arith, nat_tests) in
      ap (λ b. reported (cond b (Err BookTooLong) (read_book text))) e ∙ ap reported means

-- a session over the same objects links as a new one does
module _ (c held : List Object) (before : State) (same : held ≡ c) (new : before ≡ initial c) where
  same_link : link held before 0 ≡ link c (initial c) 0
  same_link = ap₂ (λ os s. link os s 0) same new

  pub refused_report : (e : Refusal) → Err e ≡ (link held before 0).answered → report_of c ≡ Err e
  refused_report e h =
      ap (λ r. told r (report (lines (link c (initial c) 0).next.linkage)))
      (sym (h ∙ ap (λ (o : Outcome). o.answered) same_link))

  pub granted_report :
      (n : ℕ) (after : State) → Ok n ≡ (link held before 0).answered → after ≡ (link held before 0).next →
      report_of c ≡ Ok (report (lines after.linkage))
  granted_report n after h k =
      ap (λ r. told r (report (lines (link c (initial c) 0).next.linkage)))
      (sym (h ∙ ap (λ (o : Outcome). o.answered) same_link))
      ∙ ap (λ (s : State). Ok (report (lines s.linkage))) (sym (k ∙ ap (λ (o : Outcome). o.next) same_link))
