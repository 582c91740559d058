use Rattle.std.proofs.Common.{rules, tests, refl}
use Rattle.std.specs.Str.{bytes_eq}
use Rattle.std.proofs.lemmas.Iterator.{YieldsList-from_slice}
use Rattle.std.proofs.lemmas.Iterator.Consumers.{YieldsList-from_filter}
use Rattle.std.proofs.lemmas.Iterator.Search.{find_from_yields_List}
use Rattle.elf.specs.declared.symbol.Definition.{Definition}
use Rattle.elf.specs.Offers.{basic, serves}
use Rattle.elf.specs.Stored.{definition_of}
use Rattle.elf.proofs.Counting.{lowest_next, lowest_named}
use Rattle.elf.proofs.offer.offer.Goals as goal

pub returns-then-not-versioned : goal.returns-then-not-versioned
returns-then-not-versioned c =
    let e = lowest_next _ _ c.args.wanted.name.now c.args.definitions.now c.next.result c.next.ensures.steps
    (YieldsList-from_filter _ (λ (d : Definition). bytes_eq d.name.now c.args.wanted.name.now)
    (YieldsList-from_slice c.args.definitions.now cc) c.filter-named.ensures.closure (λ x r q k. search (rules, tests))) in
    rw (c.if-not-versioned.true, ← e) (search rules)

pub returns-in-Some : goal.returns-in-Some
returns-in-Some c =
    let e = find_from_yields_List (λ (d : Definition). serves c.in-Some.version.now (definition_of d)) _ _ c.find.result
    c.find.ensures.ran
    (YieldsList-from_filter _ (λ (d : Definition). bytes_eq d.name.now c.args.wanted.name.now)
    (YieldsList-from_slice c.args.definitions.now cc) c.filter-named.ensures.closure (λ x r q k. search (rules, tests)))
    (λ x r q k. search (rules, tests)) in
    let f = lowest_named (serves c.in-Some.version.now) c.args.wanted.name.now c.args.definitions.now in
    rw (c.if-not-versioned.false, c.in-Some.is, ← f, ← e) (search rules)

pub returns-in-Some-find : goal.returns-in-Some-find
returns-in-Some-find c =
    let e = find_from_yields_List (λ (d : Definition). basic (definition_of d)) _ _ c.find-in-None.result
    c.find-in-None.ensures.ran
    (YieldsList-from_filter _ (λ (d : Definition). bytes_eq d.name.now c.args.wanted.name.now)
    (YieldsList-from_slice c.args.definitions.now cc) c.filter-named.ensures.closure (λ x r q k. search (rules, tests)))
    (λ x r q k. search (rules, tests)) in
    let f = lowest_named basic c.args.wanted.name.now c.args.definitions.now in
    rw (c.if-not-versioned.false, c.in-None.is, ← f, ← e, c.in-Some-find.is) refl

pub returns-in-None-find : goal.returns-in-None-find
returns-in-None-find c =
    let e = find_from_yields_List (λ (d : Definition). basic (definition_of d)) _ _ c.find-in-None.result
    c.find-in-None.ensures.ran
    (YieldsList-from_filter _ (λ (d : Definition). bytes_eq d.name.now c.args.wanted.name.now)
    (YieldsList-from_slice c.args.definitions.now cc) c.filter-named.ensures.closure (λ x r q k. search (rules, tests)))
    (λ x r q k. search (rules, tests)) in
    let f = lowest_named basic c.args.wanted.name.now c.args.definitions.now in
    rw (c.if-not-versioned.false, c.in-None.is, ← f, ← e, c.in-None-find.is) c.only_visible.ensures
