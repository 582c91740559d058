use Rattle.std.proofs.Common.{arith}
use Rattle.std.proofs.lemmas.List.{take_rest}
use Rattle.std.proofs.lemmas.Bool.Decides.{nat_tests}
use Rattle.bookline.proofs.text.after_first_line.Goals as goal

pub returns : goal.returns
returns c = let e = take_rest c.args.text.now 7 in grind (arith, nat_tests, e)
