use Rattle.std.proofs.Common.{rules, tests, leb, ◌&&◌, arith}
use Rattle.std.proofs.lemmas.Bool.Decides.{nat_tests}
use Rattle.std.proofs.lemmas.Iterator.{YieldsList-from_slice}
use Rattle.std.proofs.lemmas.Iterator.Search.{all_from_yields_List}
use Rattle.elf.proofs.name.is_lawful.Goals as goal

pub returns-then-matches : goal.returns-then-matches
returns-then-matches c =
    let e = all_from_yields_List (λ b. leb 0x21 b && leb b 0x7E) _ _ c.all.result c.all.ensures.ran
    (YieldsList-from_slice c.args.name.now cc) (λ x r q k. search (rules, tests)) in
    grind (arith, nat_tests, e, c.if-matches)
