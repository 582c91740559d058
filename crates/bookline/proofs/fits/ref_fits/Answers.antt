use Rattle.std.proofs.Common.{rules, arith}
use Rattle.std.proofs.lemmas.Bool.Decides.{nat_tests}
use Rattle.elf.specs.Stored.{reference_of}
use Rattle.bookline.proofs.FitsBehind.{last_number}
use Rattle.bookline.proofs.fits.ref_fits.Goals as goal

pub returns-then-map_or-row : goal.returns-then-map_or-row
returns-then-map_or-row c =
    let e = last_number reference_of (λ d. d.number) c.args.before.now c.last.result c.map_or.result c.last.ensures.item
    (search rules) in
    grind (arith, nat_tests, e)

pub returns-else-map_or-row : goal.returns-else-map_or-row
returns-else-map_or-row c =
    let e = last_number reference_of (λ d. d.number) c.args.before.now c.last.result c.map_or.result c.last.ensures.item
    (search rules) in
    grind (arith, nat_tests, e)
