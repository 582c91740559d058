use Rattle.std.proofs.Common.{◌≡◌, ℕ, ◌+◌, ◌-◌, ◌<◌, true, false, List, map, length, drop, Some, None, sym, refl, ap, ◌∙◌, subst, arith}
use Rattle.std.proofs.lemmas.List.{at_drop_all}
use Rattle.graph.specs.Graph.{among, Marks, each, visit}
use Rattle.elf.specs.Names.{Name, somes}
use Rattle.elf.specs.Meaning.{Object, object, target, targets}
use Rattle.catalogue.specs.declared.heads.ObjectHead.{ObjectHead}
use Rattle.scope.proofs.Changes.{lawful_push, room_left}
use Rattle.session.proofs.Targets.{needed_more}
use Rattle.session.proofs.Walking.{lawful_known}
use Rattle.session.proofs.Starting.{Goes, visit_goes, entered_done}
use Rattle.session.proofs.start.+visit.Goals as goal
use Rattle.session.proofs.start.+visit.Goals.{in-Some, in_default}

pub enter-requires : goal.enter-requires
enter-requires g t c =
    let os : List Object = g.S.Scope.objects c.args.scope.now in
    let old : among c.args.object c.args.new.now ≡ true = cc in
    let fresh : among c.args.object c.args.marks.now.entered ≡ false = cc in
    room_left os c.args.marks.now.entered c.args.object (g.S.Scope.kept c.args.scope.now) c.requires.marked
    (lawful_known os c.args.new.now c.args.object c.requires.listed old) fresh

pub loop-entry-init : goal.loop-entry-init
loop-entry-init g t c =
    let os : List Object = g.S.Scope.objects c.args.scope.now in
    let old : among c.args.object c.args.new.now ≡ true = cc in
    let fresh : among c.args.object c.args.marks.now.entered ≡ false = cc in
    record {
      marks = refl;
      lawful =
          lawful_push os c.args.marks.now.entered _ c.args.object c.requires.marked
          (lawful_known os c.args.new.now c.args.object c.requires.listed old) fresh
          (ap (λ (m : Marks). m.entered) c.enter.ensures.entered);
      even = refl;
    }

pub loop-entry-preserved : goal.loop-entry-preserved
loop-entry-preserved g t c =
    let os : List Object = g.S.Scope.objects c.args.scope.now in
    let o : ℕ = c.args.object in
    let i : ℕ = c.loop-entry.entry in
    let f : ℕ → Marks → Marks = visit (targets os) c.args.new.now (c.args.depth - 1) in
    let m : Marks = c.loop-entry.marks in
    let rest : List ℕ = somes (map (target os) (drop (i + 1) (object os o).needed)) in
    let l : i < length (object os o).needed = omega (arith, ap (λ (h : ObjectHead). h.needed) c.head-entry-end.ensures) in
    elim c.match-needed_target.branch [
      | in-Some w ↦
          let goes : Goes os m w.visit.new.marks =
          subst (Goes os m) (sym w.visit.ensures)
          (visit_goes os (targets os) c.args.new.now c.requires.listed (c.args.depth - 1) w.in-Some.target m) in
          rw w.marks-is (record {
            marks =
                ap (each f rest) w.visit.ensures
                ∙ ap (λ (us : List ℕ). each f us m) (sym (needed_more os o i l (Some w.in-Some.target) w.in-Some.ensures))
                ∙ c.loop-entry.invariant.marks;
            lawful = goes.lawful c.loop-entry.invariant.lawful;
            even = omega (arith, goes.even, c.loop-entry.invariant.even);
          })
      | in_default w ↦ rw w.marks-is (record {
        marks =
            ap (λ (us : List ℕ). each f us m) (sym (needed_more os o i l None w.in_default.ensures))
            ∙ c.loop-entry.invariant.marks;
        lawful = c.loop-entry.invariant.lawful;
        even = c.loop-entry.invariant.even;
      })
    ]

pub leave-requires : goal.leave-requires
leave-requires g t c = omega (arith, c.loop-entry.invariant.even, c.enter.ensures.room)

pub returns-after-loop-entry : goal.returns-after-loop-entry
returns-after-loop-entry g t c =
    let os : List Object = g.S.Scope.objects c.args.scope.now in
    let o : ℕ = c.args.object in
    let new : List ℕ = c.args.new.now in
    let b : Marks = c.loop-entry.marks in
    let old : among o new ≡ true = cc in
    let fresh : among o c.args.marks.now.entered ≡ false = cc in
    let ended : b ≡ each (visit (targets os) new (c.args.depth - 1)) (targets os o) c.enter.new.self =
    sym (at_drop_all (λ (ns : List Name). each (visit (targets os) new (c.args.depth - 1)) (somes (map (target os) ns)) b)
    (object os o).needed c.loop-entry.entry (omega (arith, ap (λ (h : ObjectHead). h.needed) c.head-entry-end.ensures)))
    ∙ c.loop-entry.invariant.marks in
    c.leave.ensures
    ∙ entered_done (targets os) new c.args.depth o c.args.marks.now b c.if-depth-gt0.true old fresh
    (ended ∙ ap (each (visit (targets os) new (c.args.depth - 1)) (targets os o)) c.enter.ensures.entered)
