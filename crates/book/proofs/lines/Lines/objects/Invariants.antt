use Rattle.std.proofs.Common.{◌≡◌, length, vec_items}
use Rattle.book.specs.Held.{objects_of}
use Rattle.book.specs.Sections.{lines_in}
use Rattle.book.proofs.ObjectsTold.{Gathered}
use Rattle.book.proofs.lines.Lines.objects.Given as goal

abbrev pub invariant-loop : goal.invariant-loop
invariant-loop l =
    record {
      same : vec_items l.self.parts ≡ vec_items l.fn.self.parts;
      count : length (vec_items l.objects) ≡ l.counter;
      gathered : Gathered (lines_in (vec_items l.fn.self.parts)) (objects_of (vec_items l.objects)) l.self.next;
    }
