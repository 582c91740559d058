use Rattle.std.proofs.Common.{◌≡◌, false, eqb, length, vec_items, inl, inr, arith}
use lib.ListN.{length-map}
use Rattle.std.proofs.lemmas.Bool.Decides.{nat_tests}
use Rattle.book.specs.Held.{object_of, objects_of}
use Rattle.book.proofs.LinesTold.{lines_fit}
use Rattle.book.proofs.ObjectsTold.{book_admitted, book_refused}
use Rattle.format.proofs.BookLawful.{book_lawful}
use Rattle.book.proofs.whole.Book.read.Goals as goal
use Rattle.book.proofs.whole.Book.read.Goals.{then-is_empty-via-then-is_empty, then-is_empty-via-else-is_empty+then-not-is_end}

pub overflow_add-lines : goal.overflow_add-lines
overflow_add-lines c =
    omega (arith, lines_fit (vec_items c.in_ok-lines.lines.parts), c.in_ok-objects.ensures.objects.within)

pub returns-then-is_empty : goal.returns-then-is_empty
returns-then-is_empty c =
    let os = vec_items c.in_ok-objects.objects in
    let begun = rw c.in_ok-rest.ensures.ok_part at c.after_first_line.ensures in
    let refused = book_refused c.args.text.now c.in_ok-rest.rest.now (vec_items c.in_ok-lines.lines.parts) (objects_of os)
    c.objects.new.self.next c.if-text-gt-LONGEST.false begun c.in_ok-lines.ensures.parts c.in_ok-objects.ensures.objects
    (elim c.then-is_empty.branch [
      | then-is_empty-via-then-is_empty w ↦ inl (grind (arith, nat_tests, length-map os object_of, w.if-is_empty.ensures))
      | then-is_empty-via-else-is_empty+then-not-is_end w ↦
          let end = rw c.in_ok-objects.ensures.same at w.if-not-is_end.ensures in inr (grind (arith, nat_tests, end))
    ]) in
    rw c.into-then-is_empty.ensures refused

pub invariant_of-result : goal.invariant_of-result
invariant_of-result c =
    let os = vec_items c.in_ok-objects.objects in
    let begun = rw c.in_ok-rest.ensures.ok_part at c.after_first_line.ensures in
    let some : false ≡ eqb (length (objects_of os)) 0 =
    grind (arith, nat_tests, length-map os object_of, c.if-is_empty.ensures) in
    let end = rw c.in_ok-objects.ensures.same at c.if-not-is_end.ensures in
    let e =
    book_admitted c.args.text.now c.in_ok-rest.rest.now (vec_items c.in_ok-lines.lines.parts) (objects_of os)
    c.objects.new.self.next c.if-text-gt-LONGEST.false begun c.in_ok-lines.ensures.parts c.in_ok-objects.ensures.objects
    some end in
    record { lawful = book_lawful c.args.text.now (objects_of os) e }

pub returns : goal.returns
returns c =
    let os = vec_items c.in_ok-objects.objects in
    let begun = rw c.in_ok-rest.ensures.ok_part at c.after_first_line.ensures in
    let some : false ≡ eqb (length (objects_of os)) 0 =
    grind (arith, nat_tests, length-map os object_of, c.if-is_empty.ensures) in
    let end = rw c.in_ok-objects.ensures.same at c.if-not-is_end.ensures in
    book_admitted c.args.text.now c.in_ok-rest.rest.now (vec_items c.in_ok-lines.lines.parts) (objects_of os)
    c.objects.new.self.next c.if-text-gt-LONGEST.false begun c.in_ok-lines.ensures.parts c.in_ok-objects.ensures.objects
    some end
