use Rattle.std.proofs.Common.{ℕ, ◌<◌, ◌≤◌, List, ◌++◌, length, ◌∙◌, ap₂, sym, arith}
use Rattle.session.specs.Lines.{Line, lines, line_bytes}
use Rattle.checker.proofs.Reports.{report_more, front}
use Rattle.checker.proofs.linkbook.report.Goals as goal

pub loop-n-preserved : goal.loop-n-preserved
loop-n-preserved g c =
    let ls : List Line = lines c.args.session.now.state.linkage in
    let bytes : List ℕ = line_bytes ls c.loop-n.n in
    let here : c.loop-n.n < length ls = omega (arith, c.line_count-n-end.ensures, c.loop-n-test.true) in
    let fits : length bytes ≤ length c.loop-n.line = omega (arith, c.line.ensures.fits, c.loop-n.invariant.room) in
    let added = front bytes c.loop-n.line _ _ fits c.in_ok-length.ensures.answer c.line.ensures.buffer in
    record {
      text =
          c.in_ok-extend_from_slice.ensures.items
          ∙ ap₂ (λ xs ys. xs ++ ys) c.loop-n.invariant.text added ∙ sym (report_more ls c.loop-n.n here);
      room = omega (arith, c.line.auto.out, c.loop-n.invariant.room);
    }
