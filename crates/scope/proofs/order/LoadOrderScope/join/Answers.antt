use Rattle.std.proofs.Common.{rules}
use Rattle.scope.proofs.Changes.{room_left, lawful_push, in_catalogue}
use Rattle.scope.proofs.order.LoadOrderScope.join.Goals as goal

pub append-requires : goal.append-requires
append-requires g c =
    room_left (g.C.Catalogue.meaning c.args.self.now.catalogue) c.args.self.now.objects.items c.args.object
    (g.C.Catalogue.kept c.args.self.now.catalogue) c.args.self.now.lawful (in_catalogue _ c.args.object c.in_ok-check_known.field-0 c.in_ok-check_known.ensures) (search (rules, c.if-contains.ensures.value))

pub invariant_of-self : goal.invariant_of-self
invariant_of-self g c =
    record {
      lawful =
          lawful_push _ _ _ c.args.object c.args.self.now.lawful (in_catalogue _ c.args.object c.in_ok-check_known.field-0 c.in_ok-check_known.ensures) (search (rules, c.if-contains.ensures.value))
          c.append.ensures;
    }
