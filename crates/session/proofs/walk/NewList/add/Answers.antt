use Rattle.std.proofs.Common.{◌≡◌, ℕ, false, List, arith}
use Rattle.graph.specs.Graph.{among}
use Rattle.scope.proofs.Changes.{lawful_push, room_left}
use Rattle.session.proofs.walk.NewList.add.Goals as goal

pub push-requires : goal.push-requires
push-requires g c =
    let os = g.S.Scope.objects c.args.self.now.scope.now in
    let xs : List ℕ = c.args.self.now.list.items in
    let new : among c.args.object xs ≡ false = cc in
    (omega arith, room_left os xs c.args.object (g.S.Scope.kept c.args.self.now.scope.now) c.args.self.now.lawful c.requires new)

pub invariant_of-self : goal.invariant_of-self
invariant_of-self g c =
    let xs : List ℕ = c.args.self.now.list.items in
    let new : among c.args.object xs ≡ false = cc in
    record { lawful = lawful_push _ xs _ c.args.object c.args.self.now.lawful c.requires new c.push.ensures.items }
