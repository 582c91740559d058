use Rattle.std.proofs.Common.{◌≡◌, ℕ, ◌+◌, List, length, get_or, drop, sym, ap, ◌∙◌, subst}
use Rattle.std.proofs.lemmas.List.{at_drop_more, at_drop_all}
use Rattle.graph.specs.Graph.{Marks, visit, visit_all}
use Rattle.graph.proofs.Order.{order_once, order_ours}
use Rattle.elf.specs.Meaning.{Object, targets}
use Rattle.scope.specs.Orders.{LawfulOrder}
use Rattle.session.specs.Walks.{start_order}
use Rattle.session.proofs.Starting.{visit_goes}
use Rattle.session.proofs.start.start_order.Goals as goal

pub loop-object-preserved : goal.loop-object-preserved
loop-object-preserved g c =
    let os : List Object = g.S.Scope.objects c.args.scope.now in
    let new : List ℕ = c.args.new.now in
    let from : List ℕ = c.args.from.now in
    let i : ℕ = c.loop-object.object-index in
    let m : Marks = c.loop-object.marks in
    let depth : c.count-depth.result ≡ length os = c.count-depth.ensures ∙ ap length c.catalogue.ensures in
    let visited : c.visit.new.marks ≡ visit (targets os) new (length os) (get_or from i 0) m =
    c.visit.ensures ∙ ap (λ (k : ℕ). visit (targets os) new k (get_or from i 0) m) depth in
    let goes = visit_goes os (targets os) new c.requires (length os) (get_or from i 0) m in
    record {
      marks =
          ap (visit_all (targets os) new (length os) (drop (i + 1) from)) visited
          ∙ sym (at_drop_more (λ (us : List ℕ). visit_all (targets os) new (length os) us m) from i 0 c.loop-object-test.true)
          ∙ c.loop-object.invariant.marks;
      lawful = subst (λ (a : Marks). LawfulOrder os a.entered) (sym visited) (goes.lawful c.loop-object.invariant.lawful);
    }

pub returns : goal.returns
returns g c =
    let os : List Object = g.S.Scope.objects c.args.scope.now in
    let new : List ℕ = c.args.new.now in
    let from : List ℕ = c.args.from.now in
    let m : Marks = c.loop-object.marks in
    let whole : c.marks.inside.finished.items ≡ start_order os new from =
    ap (λ (v : Marks). v.finished)
    (c.marks.view_is
    ∙ sym (at_drop_all (λ (us : List ℕ). visit_all (targets os) new (length os) us m) from c.loop-object.object-index
    c.loop-object-test.false)
    ∙ c.loop-object.invariant.marks) in
    record {
      order = whole;
      lawful =
          subst (λ (l : List ℕ). LawfulOrder os l) (sym whole)
          (record {
            once = order_once (targets os) new (length os) c.requires.known from;
            known = λ x i. c.requires.known x (order_ours (targets os) new (length os) c.requires.known from x i);
          });
    }
