-- What a session holds, as its calls see it.
use Rattle.std.specs.Prelude.{ℕ, Bool, true, false, List, [], length, replicate, Some, None, Option}
use Rattle.elf.specs.Meaning.{Object, Reference}
use Rattle.scope.specs.Orders.{Found}

-- A recorded binding: an object's reference and the definition that it took, none if it is absent.
pub record Binding : Type 0 where
  pub object : ℕ
  pub reference : Reference
  pub taken : Option Found

-- What linking brought about: the load order, the start order, and the bindings by load order and symbol.
pub record Linkage : Type 0 where
  pub loaded : List ℕ
  pub started : List ℕ
  pub bindings : List Binding

-- A session: its root, none in set-up; the preloads in the order named; what is linked; for each object the opens
-- that count; and how many opens were ever granted.
pub record State : Type 0 where
  pub root : Option ℕ
  pub preloads : List ℕ
  pub linkage : Linkage
  pub counts : List ℕ
  pub granted : ℕ

-- Nothing is loaded.
abbrev pub empty : Linkage
empty = record { loaded = []; started = []; bindings = [] }

-- A session right after its making.
abbrev pub initial : List Object → State
initial c = record { root = None; preloads = []; linkage = empty; counts = replicate (length c) 0; granted = 0 }

-- Is the session linked?
abbrev pub is_linked : State → Bool
is_linked s = elim s.root [ None ↦ false | Some r ↦ true ]
