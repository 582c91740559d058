use Rattle.std.proofs.Common.{ℕ, ◌+◌, ◌<◌, List, [], ◌∷◌, map, length, drop, Some, None, sym, ap, ◌∙◌, arith}
use Rattle.graph.specs.Graph.{grow}
use Rattle.elf.specs.Names.{somes}
use Rattle.elf.specs.Meaning.{Object, object, target}
use Rattle.catalogue.specs.declared.heads.ObjectHead.{ObjectHead}
use Rattle.catalogue.specs.Questions.{needed_target}
use Rattle.session.proofs.Targets.{needed_below, needed_more}
use Rattle.session.proofs.Walking.{grow_on}
use Rattle.session.proofs.walk.NewList.add_needed.Goals as goal
use Rattle.session.proofs.walk.NewList.add_needed.Goals.{in-Some, in_default}

pub add-requires : goal.add-requires
add-requires g c =
    let same = c.loop-entry.invariant.scope in
    let os : List Object = g.S.Scope.objects c.args.self.now.scope.now in
    let o : ℕ = c.args.object in
    let i : ℕ = c.loop-entry.entry in
    let l : i < length (object os o).needed = omega (arith, ap (λ (h : ObjectHead). h.needed) c.head-entry-end.ensures) in
    rw same (needed_below os o i l c.in-Some.target (c.in-Some.ensures ∙ ap (λ s. needed_target (g.S.Scope.objects s) o i) same))

pub loop-entry-preserved : goal.loop-entry-preserved
loop-entry-preserved g c =
    let same = c.loop-entry.invariant.scope in
    let os : List Object = g.S.Scope.objects c.args.self.now.scope.now in
    let old : List ℕ = g.S.Scope.order c.args.self.now.scope.now in
    let o : ℕ = c.args.object in
    let i : ℕ = c.loop-entry.entry in
    let xs : List ℕ = c.loop-entry.self.list.items in
    let rest : List ℕ = somes (map (target os) (drop (i + 1) (object os o).needed)) in
    let l : i < length (object os o).needed = omega (arith, ap (λ (h : ObjectHead). h.needed) c.head-entry-end.ensures) in
    let asked = ap (λ s. needed_target (g.S.Scope.objects s) o i) same in
    elim c.match-needed_target.branch [
      | in-Some w ↦
          let t : ℕ = w.in-Some.target in
          rw w.self-is (record {
            scope = w.add.ensures.scope ∙ same;
            list =
                ap (λ (l : List ℕ). grow old l rest) (w.add.ensures.list ∙ ap (λ s. grow (g.S.Scope.order s) xs (t ∷ [])) same)
                ∙ grow_on old xs rest t
                ∙ ap (grow old xs) (sym (needed_more os o i l (Some t) (w.in-Some.ensures ∙ asked)))
                ∙ c.loop-entry.invariant.list;
          })
      | in_default w ↦ rw w.self-is (record {
        scope = same;
        list = ap (grow old xs) (sym (needed_more os o i l None (w.in_default.ensures ∙ asked))) ∙ c.loop-entry.invariant.list;
      })
    ]
