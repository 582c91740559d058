use Rattle.std.proofs.Common.{◌≡◌, ℕ, ◌+◌, ◌-◌, ◌<◌, ◌≤◌, List, length, get_or, take, drop, sym, ap, ◌∙◌, subst, arith}
use Rattle.graph.specs.Graph.{In, grow, walk}
use Rattle.graph.proofs.Room.{distinct_length}
use Rattle.graph.proofs.Spread.{spreads}
use Rattle.graph.proofs.Loops.{In-get_or, walk_all, turn_list}
use Rattle.elf.specs.Meaning.{Object, targets}
use Rattle.scope.specs.Orders.{LawfulOrder}
use Rattle.session.specs.Walks.{new_list}
use Rattle.session.proofs.Targets.{targets_bounded}
use Rattle.session.proofs.walk.new_list.Goals as goal
use Rattle.session.proofs.walk.new_list.Goals.{in-Some, in_default}

pub add-requires : goal.add-requires
add-requires g c =
    let from : List ℕ = c.args.from.now in
    let i : ℕ = c.loop-object.object-index in
    rw c.loop-object.invariant.scope (c.requires (get_or from i 0) (In-get_or from i c.loop-object-test.true))

pub loop-place-preserved : goal.loop-place-preserved
loop-place-preserved g c =
    let same = c.loop-place.invariant.scope in
    let os : List Object = g.S.Scope.objects c.args.scope.now in
    let old : List ℕ = g.S.Scope.order c.args.scope.now in
    let xs : List ℕ = c.loop-place.new.list.items in
    let i : ℕ = c.loop-place.place in
    let n : ℕ = length os in
    elim c.match-get.branch [
      | in-Some w ↦
          let o : ℕ = w.in-Some.field-0.now in
          let l : i < length xs = grind (arith, w.in-Some.ensures.lookup) in
          let here : o ≡ get_or xs i 0 = grind (arith, w.in-Some.ensures.lookup) in
          let grown : w.add_needed.new.self.list.items ≡ grow old xs (targets os (get_or xs i 0)) =
          w.add_needed.ensures.list
          ∙ ap (λ s. grow (g.S.Scope.order s) xs (targets (g.S.Scope.objects s) o)) same
          ∙ ap (λ (o : ℕ). grow old xs (targets os o)) here in
          rw w.new-is (record {
            scope = w.add_needed.ensures.scope ∙ same;
            list =
                ap (λ (z : List ℕ). walk (targets os) old (n - (i + 1)) (take (i + 1) z) (drop (i + 1) z)) grown
                ∙ turn_list (targets os) old c.args.from.now n (targets_bounded os) c.requires xs i c.loop-place.invariant.list l;
          })
      | in_default w ↦
          let l : length xs ≤ i = grind (arith, w.in_default.ensures.lookup) in
          rw w.new-is (record {
            scope = same;
            list =
                walk_all (targets os) old xs (n - (i + 1)) (i + 1) (omega arith)
                ∙ sym (walk_all (targets os) old xs (n - i) i l) ∙ c.loop-place.invariant.list;
          })
    ]

pub returns : goal.returns
returns g c =
    let os : List Object = g.S.Scope.objects c.args.scope.now in
    let old : List ℕ = g.S.Scope.order c.args.scope.now in
    let from : List ℕ = c.args.from.now in
    let xs : List ℕ = c.loop-place.new.list.items in
    let i : ℕ = c.loop-place.place in
    let lawful = subst (λ s. LawfulOrder (g.S.Scope.objects s) xs) c.loop-place.invariant.scope c.loop-place.new.lawful in
    let few : length xs ≤ length os = distinct_length (length os) xs lawful.once lawful.known in
    let count : c.count-place-end.result ≡ length os = c.count-place-end.ensures ∙ ap length c.catalogue.ensures in
    let whole : xs ≡ new_list os old from = sym (walk_all (targets os) old xs (length os - i) i (omega arith)) ∙ c.loop-place.invariant.list in
    record {
      list = whole;
      lawful = lawful;
      apart = λ x m. (spreads (targets os) old from (length os) (targets_bounded os) c.requires).apart x (subst (In x) whole m);
    }
