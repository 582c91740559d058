use Rattle.std.proofs.Common.{map, vec_items, arith, rules}
use lib.ListN.{length-map}
use Rattle.std.proofs.lemmas.List.{get_or_past, map_push}
use Rattle.book.specs.Sections.{lines_in}
use Rattle.book.proofs.LinesTold.{lines_fit}
use Rattle.book.proofs.Runs.{begun_more, begun_ends}
use Rattle.book.proofs.lines.Lines.rows.Goals.{in_default-via-in-Some+else-fits, in_default-via-in_default}
use Rattle.book.proofs.lines.Lines.rows.Goals as goal

pub returns-in_default-clause-rows : goal.returns-in_default-clause-rows
returns-in_default-clause-rows g c =
    begun_ends _ _ _ _ _ _ _ c.loop.invariant.begun
    (elim c.in_default.branch [ in_default-via-in-Some+else-fits w ↦ search rules | in_default-via-in_default w ↦ search rules ])

pub overflow_add-self : goal.overflow_add-self
overflow_add-self g c =
    grind (arith, get_or_past, g.R.Rule.nothing c.args.rule.now, lines_fit (vec_items c.args.self.now.parts))

pub invariant_of-self : goal.invariant_of-self
invariant_of-self g c = grind (arith, get_or_past, g.R.Rule.nothing c.args.rule.now)

pub loop-preserved : goal.loop-preserved
loop-preserved g c =
    let rows = vec_items c.loop.rows in
    let few = length-map rows g.R.Rule.meaning in
    let b =
    begun_more (g.R.Rule.reads c.args.rule.now) (g.R.Rule.fits c.args.rule.now) (g.R.Rule.nothing c.args.rule.now) c.args.most
    c.args.self.now.next (lines_in (vec_items c.args.self.now.parts)) (map g.R.Rule.meaning rows) c.loop.self.next
    (g.R.Rule.meaning c.in-Some.row) c.loop.invariant.begun (omega arith) (search rules) (search rules) in
    search (rules, map_push)
