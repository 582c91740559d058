use Rattle.std.proofs.Common.{◌≡◌, ℕ, List, Ok, vec_items, Result, sym, ap, ◌∙◌, subst}
use Rattle.std.proofs.lemmas.Result.{err_from_is_err_and}
use Rattle.elf.specs.declared.refusal.Refusal.{Refusal}
use Rattle.elf.specs.Meaning.{Object}
use Rattle.book.specs.Held.{objects_of}
use Rattle.catalogue.specs.Reading.{Reads}
use Rattle.session.specs.Lines.{lines}
use Rattle.session.specs.State.{State, initial}
use Rattle.checker.specs.Linkbook.{report, book_report}
use Rattle.checker.proofs.Linked.{reads, refused_report, granted_report}
use Rattle.checker.proofs.linkbook.report_book.Goals as goal

pub returns-in_err-try_link : goal.returns-in_err-try_link
returns-in_err-try_link c =
    let p = err_from_is_err_and c.from_residual-in_err-try_link.result c.from_residual-in_err-try_link.ensures.1 in
    let os : List Object = objects_of (vec_items c.in_ok-book.book.objects) in
    let s = c.new-setup.result in
    rw (p.1, p.2)
    (reads c.args.text.now c.if-text-gt-MOST.false os c.in_ok-book.ensures
    ∙ refused_report os s.objects s.state (c.new-setup.ensures.objects ∙ c.new.ensures.objects)
    (c.new-setup.ensures.state ∙ ap initial c.new.ensures.objects)
    c.in_err-try_link.field-0.0 c.in_err-try_link.ensures.answer)

pub returns : goal.returns
returns c =
    let os : List Object = objects_of (vec_items c.in_ok-book.book.objects) in
    let s = c.new-setup.result in
    let after : State = c.link.result.state in
    let whole : book_report c.args.text.now ≡ Ok (report (lines after.linkage)) =
    reads c.args.text.now c.if-text-gt-MOST.false os c.in_ok-book.ensures
    ∙ granted_report os s.objects s.state (c.new-setup.ensures.objects ∙ c.new.ensures.objects)
    (c.new-setup.ensures.state ∙ ap initial c.new.ensures.objects) 0 after
    c.in_ok-try_link.ensures.answer (ap (λ v. v.state) c.link.ensures.same ∙ c.try_link.ensures.next) in
    subst (λ (m : Result (List ℕ) Refusal). Reads vec_items c.report-2.result m) (sym whole) c.report-2.ensures
