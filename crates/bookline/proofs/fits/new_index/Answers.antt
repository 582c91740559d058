use Rattle.std.proofs.Common.{arith}
use Rattle.std.proofs.lemmas.List.{at_drop_more, at_drop_all}
use Rattle.std.proofs.lemmas.Bool.Decides.{nat_tests}
use Rattle.graph.specs.Graph.{among}
use Rattle.bookline.proofs.fits.new_index.Goals as goal

pub returns-then-index-earlier : goal.returns-then-index-earlier
returns-then-index-earlier c =
    let e = at_drop_more (among c.args.index) _ _ 0 c.loop-earlier-test.true in
    grind (arith, nat_tests, e, c.loop-earlier.invariant)

pub loop-earlier-preserved : goal.loop-earlier-preserved
loop-earlier-preserved c =
    let e = at_drop_more (among c.args.index) _ _ 0 c.loop-earlier-test.true in
    grind (arith, nat_tests, e, c.loop-earlier.invariant)

pub returns : goal.returns
returns c =
    let e = at_drop_all (among c.args.index) _ _ c.loop-earlier-test.false in
    grind (arith, nat_tests, e, c.loop-earlier.invariant)
