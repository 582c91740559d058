use Rattle.std.proofs.Common.{arith}
use Rattle.std.proofs.lemmas.Bool.Decides.{nat_tests}
use Rattle.bookline.proofs.Numbers.{number_more}
use Rattle.bookline.proofs.text.number.Goals as goal

pub returns-in_err-checked_mul : goal.returns-in_err-checked_mul
returns-in_err-checked_mul c =
    let e = number_more c.args.most c.loop-digit.sum _ _ c.loop-digit-test.true in
    grind (arith, nat_tests, e, c.loop-digit.invariant.0)

pub returns-in_err-sum : goal.returns-in_err-sum
returns-in_err-sum c =
    let e = number_more c.args.most c.loop-digit.sum _ _ c.loop-digit-test.true in
    grind (arith, nat_tests, e, c.loop-digit.invariant.0)

pub returns-then-sum-most : goal.returns-then-sum-most
returns-then-sum-most c =
    let e = number_more c.args.most c.loop-digit.sum _ _ c.loop-digit-test.true in
    grind (arith, nat_tests, e, c.loop-digit.invariant.0)
