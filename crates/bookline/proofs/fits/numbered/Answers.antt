use Rattle.std.proofs.Common.{eqb, rules, ap, ◌∙◌}
use borrow.Author.Tests.{tests}
use Rattle.std.specs.Option.{option_map}
use Rattle.std.proofs.lemmas.Iterator.{YieldsList-from_slice}
use Rattle.std.proofs.lemmas.Iterator.Search.{find_from_yields_List}
use Rattle.elf.specs.Stored.{definition_of}
use Rattle.bookline.proofs.FitsBehind.{found_is_numbered}
use Rattle.bookline.proofs.fits.numbered.Goals as goal

pub returns : goal.returns
returns c =
    ap (option_map definition_of)
    (c.copied.ensures
    ∙ find_from_yields_List (λ d. eqb d.number c.args.number) _ _ _ c.find.ensures.ran
    (YieldsList-from_slice c.args.definitions.now c.iter.ensures.rest) (λ x b q k. search (rules, tests)))
    ∙ found_is_numbered c.args.definitions.now c.args.number
