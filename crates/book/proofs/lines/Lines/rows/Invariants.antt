use Rattle.std.proofs.Common.{◌≡◌, map, length, vec_items}
use Rattle.book.specs.Sections.{lines_in}
use Rattle.book.proofs.Runs.{Begun}
use Rattle.book.proofs.lines.Lines.rows.Given as goal

abbrev pub invariant-loop : goal.invariant-loop
invariant-loop g l =
    record {
      same : vec_items l.self.parts ≡ vec_items l.fn.self.parts;
      count : length (vec_items l.rows) ≡ l.counter;
      begun : Begun (g.R.Rule.reads l.rule) (g.R.Rule.fits l.rule) l.most l.fn.self.next (lines_in (vec_items l.fn.self.parts))
          (map g.R.Rule.meaning (vec_items l.rows)) l.self.next;
    }
