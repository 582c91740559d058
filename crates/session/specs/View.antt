-- What a session's tables mean, seen through its catalogue and its scope's order.
use Rattle.std.specs.Prelude.{◌≡◌, ℕ, List, map, length, replicate, None, Ok, Err, Result}
use Rattle.elf.specs.declared.refusal.Refusal.{Refusal}
use Rattle.elf.specs.Meaning.{Object, reference_at}
use Rattle.session.specs.State.{Binding, State, empty}
use Rattle.session.specs.declared.table.Row.{Row}
use Rattle.session.specs.declared.table.Tables.{Tables}

-- The binding that a row records.
abbrev pub binding_of : List Object → Row → Binding
binding_of c r = record { object = r.object; reference = reference_at c r.object r.place; taken = r.taken }

-- The bindings recorded.
abbrev pub recorded : List Object → List Row → List Binding
recorded c rows = map (binding_of c) rows

-- A session in set-up or linked; no open is counted, since no session takes opens yet.
abbrev pub view : List Object → List ℕ → Tables → State
view c order t =
    record {
      root = t.root;
      preloads = t.preloads.items;
      linkage = record { loaded = order; started = t.started.items; bindings = recorded c t.bindings };
      counts = replicate (length c) 0;
      granted = 0;
    }

-- A session as its callers see it: its scope, the objects of the scope's catalogue, and its state.
pub record Session (S : Type 0) : Type 0 where
  pub scope : S
  pub objects : List Object
  pub state : State

abbrev pub session_of : {S : Type 0} → S → List Object → List ℕ → Tables → Session S
session_of scope c order t = record { scope = scope; objects = c; state = view c order t }

-- What holds of every session: its objects and its load order are those of its scope, and no open is counted.
pub record Shows {S : Type 0} (c : List Object) (order : List ℕ) (s : Session S) : Type 0 where
  pub objects : s.objects ≡ c
  pub loaded : s.state.linkage.loaded ≡ order
  pub counts : s.state.counts ≡ replicate (length c) 0
  pub granted : s.state.granted ≡ 0

-- What holds of a session in set-up until a try at linking is granted: nothing is loaded, started or bound.
pub record InSetup (s : State) : Type 0 where
  pub root : s.root ≡ None
  pub linkage : s.linkage ≡ empty

-- The answer of a preload or a try at linking, which grants no number.
abbrev pub bare : Result (Unit {0}) Refusal → Result ℕ Refusal
bare (Ok u) = Ok 0
bare (Err r) = Err r
