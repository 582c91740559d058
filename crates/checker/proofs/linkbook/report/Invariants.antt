use Rattle.std.proofs.Common.{◌≡◌, length, take, vec_items}
use Rattle.session.specs.Lines.{lines}
use Rattle.checker.specs.Linkbook.{report}
use Rattle.checker.proofs.linkbook.report.Given as goal

-- the lines so far are there, and the buffer keeps its length
abbrev pub invariant-loop-n : goal.invariant-loop-n
invariant-loop-n g l =
    record {
      text : vec_items l.text ≡ report (take l.n (lines l.session.state.linkage));
      room : length l.line ≡ 320;
    }
