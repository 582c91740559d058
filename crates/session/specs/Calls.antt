-- The session's calls: when each refuses, what it answers, and what the session is afterwards.
use Rattle.std.specs.Prelude.{ℕ, zero, suc, ◌+◌, ◌-◌, cond, List, [], ◌∷◌, ◌++◌, length, set, Some, None, filter, Option, Result, ◌==◌, nat_le, slice_index, slice_set}
use Rattle.elf.specs.declared.refusal.Limit.TheVariants.{Preloads}
use Rattle.elf.specs.declared.refusal.Refusal.{Refusal}
use Rattle.elf.specs.declared.refusal.Refusal.TheVariants.{Twice, TooMany, NotThere, OpensUsedUp}
use Rattle.graph.specs.Graph.{among}
use Rattle.elf.specs.Names.{only_if, somes}
use Rattle.elf.specs.Meaning.{Object}
use Rattle.elf.specs.Refusals.{first_refusal, answer, after}
use Rattle.scope.specs.Orders.{unknown}
use Rattle.session.specs.State.{Linkage, State}
use Rattle.session.specs.Walks.{new_list, reached, start_order}
use Rattle.session.specs.Binding.{bindings_of_all}
use Rattle.session.specs.Checks.{batch_refusal}

-- A call's outcome: the number it answers or its refusal, and the session afterwards.
pub record Outcome : Type 0 where
  pub answered : Result ℕ Refusal
  pub next : State

-- A call answers a number and leaves a new session, or refuses and leaves the session as it was.
abbrev pub outcome : Option Refusal → State → ℕ → State → Outcome
outcome r was n next = record { answered = answer r n; next = after r was next }

-- The linkage with new objects behind the others, started from some.
abbrev pub load_new : List Object → Linkage → List ℕ → List ℕ → Linkage
load_new c s new from =
    record {
      loaded = s.loaded ++ new;
      started = s.started ++ start_order c new from;
      bindings = s.bindings ++ bindings_of_all c (s.loaded ++ new) new;
    }

-- Preload refuses an unknown object, one named before, and a fifth.
abbrev pub preload_refusal : List Object → State → ℕ → Option Refusal
preload_refusal c s o =
    first_refusal
    (unknown c o
    ∷ (only_if (among o s.preloads) (Twice o)
    ∷ (only_if (nat_le 4 (length s.preloads)) (TooMany o Preloads) ∷ [])))

-- Preload names one more object.
abbrev pub preload : List Object → State → ℕ → Outcome
preload c s o =
    outcome (preload_refusal c s o) s 0
    (record {
      root = s.root;
      preloads = s.preloads ++ (o ∷ []);
      linkage = s.linkage;
      counts = s.counts;
      granted = s.granted;
    })

-- The list of a link: the root, the preloads, then needed targets in turn.
abbrev pub link_list : List Object → State → ℕ → List ℕ
link_list c s o = new_list c s.linkage.loaded (o ∷ s.preloads)

-- A try at linking refuses an unknown root, and a list that fails a check.
abbrev pub link_refusal : List Object → State → ℕ → Option Refusal
link_refusal c s o = first_refusal (unknown c o ∷ (batch_refusal c s.linkage.loaded (link_list c s o) ∷ []))

-- A session linked at a root: the list is loaded; the preloads start in turn, then the root.
abbrev pub linked_at : List Object → State → ℕ → State
linked_at c s o =
    record {
      root = Some o;
      preloads = s.preloads;
      linkage = load_new c s.linkage (link_list c s o) (s.preloads ++ (o ∷ []));
      counts = s.counts;
      granted = s.granted;
    }

-- A try at linking.
abbrev pub link : List Object → State → ℕ → Outcome
link c s o = outcome (link_refusal c s o) s 0 (linked_at c s o)

-- The opens counted for an object.
abbrev pub count : State → ℕ → ℕ
count s o = slice_index s.counts o

-- The list of an open; it is empty if the object is loaded already.
abbrev pub open_list : List Object → State → ℕ → List ℕ
open_list c s o = new_list c s.linkage.loaded (o ∷ [])

-- Open refuses an unknown object, any after 65,535 granted opens, and, if the object is not loaded, a list that fails
-- a check.
abbrev pub open_refusal : List Object → State → ℕ → Option Refusal
open_refusal c s o =
    first_refusal
    (unknown c o
    ∷ (only_if (nat_le 65535 s.granted) (OpensUsedUp o)
    ∷ (cond (among o s.linkage.loaded) None (batch_refusal c s.linkage.loaded (open_list c s o)) ∷ [])))

-- Open counts the object once more, loads what is new and answers how many.
abbrev pub open_object : List Object → State → ℕ → Outcome
open_object c s o =
    outcome (open_refusal c s o) s (length (open_list c s o))
    (record {
      root = s.root;
      preloads = s.preloads;
      linkage = load_new c s.linkage (open_list c s o) (o ∷ []);
      counts = slice_set s.counts o (count s o + 1);
      granted = s.granted + 1;
    })

-- The objects of which an open is counted, numbered from k.
abbrev pub open_from : ℕ → List ℕ → List ℕ
open_from k [] = []
open_from k (zero ∷ ns) = open_from (suc k) ns
open_from k (suc n ∷ ns) = k ∷ open_from (suc k) ns

-- The anchors, which keep what they reach loaded: the root, the preloads and the open objects.
abbrev pub anchors : Option ℕ → List ℕ → List ℕ → List ℕ
anchors root preloads counts = somes (root ∷ []) ++ (preloads ++ open_from 0 counts)

-- The linkage with only the objects among some.
abbrev pub kept_on : List ℕ → Linkage → Linkage
kept_on os s =
    record {
      loaded = filter (λ o. among o os) s.loaded;
      started = filter (λ o. among o os) s.started;
      bindings = filter (λ b. among b.object os) s.bindings;
    }

-- Close refuses an unknown object, and one of which no open is counted.
abbrev pub close_refusal : List Object → State → ℕ → Option Refusal
close_refusal c s o = first_refusal (unknown c o ∷ (only_if (count s o == 0) (NotThere o) ∷ []))

-- Close takes one open of an object away; the loaded objects that are no longer reached leave, and it answers how many.
-- Taking a trial back closes its object.
abbrev pub close_object : List Object → State → ℕ → Outcome
close_object c s o =
    let counts : List ℕ = set s.counts o (count s o - 1) in
    let left : Linkage =
    kept_on (reached c s.linkage.bindings (anchors s.root s.preloads counts)) s.linkage in
    outcome (close_refusal c s o) s (length s.linkage.loaded - length left.loaded)
    (record { root = s.root; preloads = s.preloads; linkage = left; counts = counts; granted = s.granted })
