use Rattle.std.proofs.Common.{Some, None, vec_items, rules, sym, ◌∙◌}
use Rattle.std.proofs.lemmas.Iterator.{YieldsList-from_slice}
use Rattle.std.proofs.lemmas.Iterator.Search.{position_from_yields_List}
use Rattle.elf.specs.Names.{bytes_of, is_name}
use Rattle.book.proofs.Named.{soname_is, target_found}
use Rattle.book.proofs.whole.Book.target.Goals as goal

pub returns-in_err-place : goal.returns-in_err-place
returns-in_err-place c =
    let os = vec_items c.args.self.now.objects in
    let e = position_from_yields_List (λ o. is_name (bytes_of o.soname) c.args.name.now) _ _ c.position.result c.position.ensures.ran
    (YieldsList-from_slice os (c.iter.ensures.rest ∙ c.deref.ensures.value)) (λ x b q k. search (rules, soname_is)) in
    c.from_residual.ensures ∙ target_found os c.args.name.now None (sym c.in_err-place.was ∙ e)

pub returns : goal.returns
returns c =
    let os = vec_items c.args.self.now.objects in
    let e = position_from_yields_List (λ o. is_name (bytes_of o.soname) c.args.name.now) _ _ c.position.result c.position.ensures.ran
    (YieldsList-from_slice os (c.iter.ensures.rest ∙ c.deref.ensures.value)) (λ x b q k. search (rules, soname_is)) in
    target_found os c.args.name.now (Some c.in_ok-place.place) (sym c.in_ok-place.was ∙ e)
