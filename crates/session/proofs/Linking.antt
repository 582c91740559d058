-- A session before and after a try at linking.
use Rattle.std.proofs.Common.{◌≡◌, ℕ, List, [], ◌∷◌, ◌++◌, length, Some, None, Ok, Err, sym, ap, ◌∙◌, arith}
use Rattle.std.specs.Option.{option_or}
use lib.ListN.{length-map}
use Rattle.elf.specs.declared.refusal.Refusal.{Refusal}
use Rattle.elf.specs.Names.{first}
use Rattle.elf.specs.Refusals.{answer, after}
use Rattle.elf.specs.Meaning.{Object}
use Rattle.scope.specs.Orders.{unknown}
use Rattle.session.specs.State.{State}
use Rattle.session.specs.Walks.{start_order}
use Rattle.session.specs.Binding.{bindings_of_all}
use Rattle.session.specs.Checks.{batch_refusal, no_target, no_version, many_bindings}
use Rattle.session.specs.Calls.{link, link_list, link_refusal, linked_at, load_new}
use Rattle.session.specs.View.{view, recorded, binding_of, InSetup}
use Rattle.session.specs.declared.table.Tables.{Tables}
use Rattle.session.proofs.Checking.{option_or-none, neither}
use Rattle.session.proofs.Firsts.{granted, refused}

-- nothing is recorded in set-up
pub none_recorded : (c : List Object) (order : List ℕ) (t : Tables) → InSetup (view c order t) → length t.bindings ≡ 0
none_recorded c order t h = omega (arith, ap (λ l. length l.bindings) h.linkage, length-map t.bindings (binding_of c))

-- the room that the check of the limit leaves
pub many_fits : (c : List Object) (order new : List ℕ) → batch_refusal c order new ≡ None → many_bindings c 4096 (order ++ new) ≡ None
many_fits c order new e =
    let a = neither (first (no_target c) new) _ e in
    let b = neither (first (no_version c (order ++ new)) new) _ a.1 in
    (neither (many_bindings c 4096 (order ++ new)) _ b.1).0

module _ (c : List Object) (order list : List ℕ) (t : Tables) (root : ℕ) (here : unknown c root ≡ None)
    (lists : list ≡ link_list c (view c order t) root) where
  refusal_is : link_refusal c (view c order t) root ≡ batch_refusal c order list
  refusal_is =
      ap (λ u. option_or u (option_or (batch_refusal c order (link_list c (view c order t) root)) None)) here
      ∙ option_or-none (batch_refusal c order (link_list c (view c order t) root))
      ∙ ap (batch_refusal c order) (sym lists)

  module _ (order' : List ℕ) (left : order' ≡ after (batch_refusal c order list) order (order ++ list)) where
    -- a refused try leaves all as it was
    pub link_refused : (e : Refusal) → Err e ≡ answer {A = Unit {0}} (batch_refusal c order list) tt →
        (Err e ≡ (link c (view c order t) root).answered) × (view c order' t ≡ (link c (view c order t) root).next)
    link_refused e h =
        let b : batch_refusal c order list ≡ Some e = refused _ e h in
        let k : link_refusal c (view c order t) root ≡ Some e = refusal_is ∙ b in
        let same : order' ≡ order = left ∙ ap (λ r. after r order (order ++ list)) b in (
          sym (ap (λ r. answer r 0) k),
          ap (λ o. view c o t) same ∙ sym (ap (λ r. after r (view c order t) (linked_at c (view c order t) root)) k),
        )

    -- a granted try links
    pub link_granted : (t' : Tables) → InSetup (view c order t) → Ok tt ≡ answer {A = Unit {0}} (batch_refusal c order list) tt →
        t'.root ≡ Some root → t'.preloads ≡ t.preloads →
        t'.started.items ≡ start_order c list (t.preloads.items ++ (root ∷ [])) →
        recorded c t'.bindings ≡ recorded c t.bindings ++ bindings_of_all c order' list →
        (Ok 0 ≡ (link c (view c order t) root).answered) × (view c order' t' ≡ (link c (view c order t) root).next)
    link_granted t' h g r p s b =
        let n : batch_refusal c order list ≡ None = granted _ tt g in
        let k : link_refusal c (view c order t) root ≡ None = refusal_is ∙ n in
        let loaded : order' ≡ order ++ list = left ∙ ap (λ e. after e order (order ++ list)) n in
        let started : t'.started.items ≡ t.started.items ++ start_order c list (t.preloads.items ++ (root ∷ [])) =
        s ∙ ap (λ xs. xs ++ start_order c list (t.preloads.items ++ (root ∷ []))) (sym (ap (λ l. l.started) h.linkage)) in
        let bound : recorded c t'.bindings ≡ recorded c t.bindings ++ bindings_of_all c (order ++ list) list =
        b ∙ ap (λ o. recorded c t.bindings ++ bindings_of_all c o list) loaded in
        let whole : view c order' t' ≡ linked_with list =
        λ i. record {
          root = r i;
          preloads = (p i).items;
          linkage = record { loaded = loaded i; started = started i; bindings = bound i };
          counts = (view c order t).counts;
          granted = 0;
        } in (
          sym (ap (λ e. answer e 0) k),
          whole ∙ ap linked_with lists
              ∙ sym (ap (λ e. after e (view c order t) (linked_at c (view c order t) root)) k),
        )
      where
        linked_with : List ℕ → State
        linked_with xs =
            record {
              root = Some root;
              preloads = t.preloads.items;
              linkage = load_new c (view c order t).linkage xs (t.preloads.items ++ (root ∷ []));
              counts = (view c order t).counts;
              granted = 0;
            }
