use Rattle.std.proofs.Common.{not, eqb, rules, ap, ◌∙◌}
use borrow.Author.Tests.{tests}
use Rattle.std.proofs.lemmas.Iterator.{YieldsList-from_slice}
use Rattle.std.proofs.lemmas.Iterator.Search.{any_from_yields_List}
use Rattle.bookline.proofs.FitsBehind.{any_is_among}
use Rattle.bookline.proofs.fits.version_fits.Goals as goal

pub returns : goal.returns
returns c =
    ap not
    (any_from_yields_List (λ v. eqb v.1 c.args.row.now.1) _ _ _ c.any.ensures.ran
    (YieldsList-from_slice c.args.before.now c.iter.ensures.rest) (λ x b q k. search (rules, tests))
    ∙ any_is_among c.args.before.now c.args.row.now.1)
