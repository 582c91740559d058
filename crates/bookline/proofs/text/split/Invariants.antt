use Rattle.std.proofs.Common.{◌≤◌, vec_items}
use Rattle.elf.specs.Names.{names_of}
use Rattle.bookline.proofs.Splits.{SplitAt}
use Rattle.bookline.proofs.text.split.Given as goal

abbrev pub invariant-loop-i : goal.invariant-loop-i
invariant-loop-i l = (l.start ≤ l.i) × SplitAt l.mark l.text (names_of (vec_items l.parts)) l.start l.i
