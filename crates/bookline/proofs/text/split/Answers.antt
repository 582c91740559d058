use Rattle.std.proofs.Common.{vec_items, ap, ◌∙◌, arith}
use Rattle.elf.specs.Names.{names_of}
use Rattle.bookline.proofs.Splits.{split_mark, split_same, split_all, names_push}
use Rattle.bookline.proofs.text.split.Goals as goal
use Rattle.bookline.proofs.text.split.Goals.{then-byte-mark+in_ok-push, else-byte-mark}

pub loop-i-preserved : goal.loop-i-preserved
loop-i-preserved c =
    elim c.if-byte-mark.branch [
      | then-byte-mark+in_ok-push w ↦ (
        omega (arith, w.start-is),
        split_mark _ _ (names_of (vec_items c.loop-i.parts)) c.loop-i.start c.loop-i.i _ _
            (ap (λ v. names_of (vec_items v)) w.parts-is ∙ names_push _ _ _ w.in_ok-push.ensures.items)
            w.start-is c.loop-i-test.true w.if-byte-mark.true c.loop-i.invariant.1,
      )
      | else-byte-mark w ↦ (
        omega (arith, w.start-is),
        split_same _ _ (names_of (vec_items c.loop-i.parts)) c.loop-i.start c.loop-i.i _ _
            (ap (λ v. names_of (vec_items v)) w.parts-is) w.start-is c.loop-i.invariant.0 c.loop-i-test.true
            w.if-byte-mark.false c.loop-i.invariant.1,
      )
    ]

pub returns : goal.returns
returns c =
    names_push _ _ _ c.in_ok-push-2.ensures.items
    ∙ split_all c.args.mark c.args.text.now _ c.loop-i.start c.loop-i.i (omega arith) c.loop-i.invariant.1
