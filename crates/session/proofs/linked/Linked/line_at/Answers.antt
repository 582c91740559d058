use Rattle.std.proofs.Common.{◌≡◌, ℕ, ◌+◌, ◌-◌, ◌<◌, List, length, get_or, Some, ap, ◌∙◌, arith}
use Rattle.std.specs.List.{slice_get}
use Rattle.session.specs.Lines.{lines}
use Rattle.session.specs.declared.table.Row.{Row}
use Rattle.session.specs.declared.table.Tables.{Tables}
use Rattle.session.proofs.Reports.{row_at}
use Rattle.session.proofs.linked.Linked.line_at.Goals as goal

pub returns-clause-line : goal.returns-clause-line
returns-clause-line g c =
    let scope = c.self.inside.scope in
    let t : Tables = c.self.inside.tables in
    let k : ℕ = c.args.n - length c.order-loaded.result.now - c.len.result in
    let e : c.args.n ≡ length (g.S.Scope.order scope) + (length t.started.items + k) =
    omega (
      arith,
      ap length c.order-loaded.ensures,
      ap length c.deref.ensures.0,
      c.in_default.ensures.lookup.3,
      c.in_default-get.ensures.lookup.3,
    ) in
    let l : k < length t.bindings = omega (arith, ap length c.as_slice.ensures.value, c.in_ok-row.ensures.lookup.3.0) in
    ap Some c.row_line.ensures
    ∙ row_at (g.S.Scope.objects scope) (g.S.Scope.order scope) t.started.items t.bindings c.args.n k c.in_ok-row.row.now e l
    (c.in_ok-row.ensures.lookup.1 ∙ ap (λ (rows : List Row). get_or rows k c.in_ok-row.row.now) c.as_slice.ensures.value)
    ∙ ap (λ v. slice_get (lines v.state.linkage) c.args.n) c.self.view_is
