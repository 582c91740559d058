use Rattle.std.proofs.Common.{rules, tests, ◌+◌, drop, sym, ◌∙◌, arith, length-drop}
use Rattle.std.proofs.lemmas.List.{take_all}
use Rattle.std.proofs.lemmas.Iterator.{YieldsList-from_slice}
use Rattle.std.proofs.lemmas.Iterator.Search.{any_from_yields_List, position_from_yields_List}
use Rattle.elf.specs.Offers.{visible}
use Rattle.elf.proofs.Counting.{counts, counting, no_definition, sole_of_none, sole_of_one, sole_of_several}
use Rattle.elf.proofs.offer.only_visible.Goals as goal

pub returns-in_err-first : goal.returns-in_err-first
returns-in_err-first c =
    let e = position_from_yields_List (counts visible c.args.name.now) _ _ c.position.result c.position.ensures.ran
    (YieldsList-from_slice c.args.definitions.now c.iter.ensures.rest) (λ x b q k. search (rules, tests)) in
    rw (c.from_residual.ensures, counting visible c.args.name.now c.args.definitions.now)
    (sole_of_none (counts visible c.args.name.now) c.args.definitions.now (sym c.in_err-first.was ∙ e))

pub returns-then-several : goal.returns-then-several
returns-then-several c =
    let e = position_from_yields_List (counts visible c.args.name.now) _ _ c.position.result c.position.ensures.ran
    (YieldsList-from_slice c.args.definitions.now c.iter.ensures.rest) (λ x b q k. search (rules, tests)) in
    let s = any_from_yields_List (counts visible c.args.name.now) _ _ _ c.any-several.ensures.ran
    (YieldsList-from_slice _ c.iter-2.ensures.rest) (λ x b q k. search (rules, tests)) in
    rw (counting visible c.args.name.now c.args.definitions.now)
    (sole_of_several (counts visible c.args.name.now) c.args.definitions.now _ c.in_ok-first.first no_definition (sym c.in_ok-first.was ∙ e)
    (take_all _ (drop (c.in_ok-first.first + 1) c.args.definitions.now) (omega (arith, length-drop (c.in_ok-first.first + 1) c.args.definitions.now)))
    (sym s ∙ c.if-several.true))

pub returns : goal.returns
returns c =
    let e = position_from_yields_List (counts visible c.args.name.now) _ _ c.position.result c.position.ensures.ran
    (YieldsList-from_slice c.args.definitions.now c.iter.ensures.rest) (λ x b q k. search (rules, tests)) in
    let s = any_from_yields_List (counts visible c.args.name.now) _ _ _ c.any-several.ensures.ran
    (YieldsList-from_slice _ c.iter-2.ensures.rest) (λ x b q k. search (rules, tests)) in
    rw (counting visible c.args.name.now c.args.definitions.now)
    (sole_of_one (counts visible c.args.name.now) c.args.definitions.now _ c.in_ok-first.first _ (sym c.in_ok-first.was ∙ e)
    (take_all _ (drop (c.in_ok-first.first + 1) c.args.definitions.now) (omega (arith, length-drop (c.in_ok-first.first + 1) c.args.definitions.now)))
    (sym s ∙ c.if-several.false))
