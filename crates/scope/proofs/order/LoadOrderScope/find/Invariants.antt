use Rattle.std.proofs.Common.{◌≡◌, drop}
use Rattle.elf.specs.Names.{bytes_of}
use Rattle.scope.specs.Orders.{find}
use Rattle.scope.proofs.order.LoadOrderScope.find.Given as goal

-- what is left gives the answer
abbrev pub invariant-loop-object : goal.invariant-loop-object
invariant-loop-object g l =
    find (g.C.Catalogue.meaning l.fn.self.catalogue) (drop l.object-index l.fn.self.objects.items) l.wanted.name.now
    (bytes_of l.wanted.version)
    ≡ find (g.C.Catalogue.meaning l.fn.self.catalogue) l.fn.self.objects.items l.wanted.name.now (bytes_of l.wanted.version)
