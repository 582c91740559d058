use Rattle.std.proofs.Common.{◌∙◌, vec_items, rules, arith}
use lib.ListN.{length-map}
use Rattle.std.specs.Str.{bytes_eq}
use Rattle.std.proofs.lemmas.Bool.Decides.{nat_tests}
use Rattle.std.proofs.lemmas.Iterator.{YieldsList-from_slice}
use Rattle.std.proofs.lemmas.Iterator.Search.{any_from_yields_List}
use Rattle.catalogue.specs.Questions.{provides}
use Rattle.book.proofs.Named.{any_is_named}
use Rattle.book.proofs.Nths.{of_found, of_missed}
use Rattle.book.proofs.whole.Book.provides.Goals as goal

pub returns-in_default : goal.returns-in_default
returns-in_default c =
    of_missed (λ o. provides o c.args.version.now) (vec_items c.args.self.now.objects) c.args.number c.in_default.ensures

pub returns-then-is_empty : goal.returns-then-is_empty
returns-then-is_empty c =
    let e = of_found (λ o. provides o c.args.version.now) (vec_items c.args.self.now.objects) c.args.number
    c.in-Some.ensures in
    let l = length-map (vec_items c.in-Some.object.now.versions) (λ v. v.0.now) in
    grind (arith, nat_tests, e, l)

pub returns-else-is_empty : goal.returns-else-is_empty
returns-else-is_empty c =
    let vs = vec_items c.in-Some.object.now.versions in
    let e = of_found (λ o. provides o c.args.version.now) (vec_items c.args.self.now.objects) c.args.number
    c.in-Some.ensures in
    let l = length-map vs (λ v. v.0.now) in
    let a = any_from_yields_List (λ v. bytes_eq v.0.now c.args.version.now) _ _ c.any.result c.any.ensures.ran
    (YieldsList-from_slice vs (c.iter.ensures.rest ∙ c.deref.ensures.value)) (λ x b q k. search rules) ∙ any_is_named vs c.args.version.now in
    grind (arith, nat_tests, e, l, a)
