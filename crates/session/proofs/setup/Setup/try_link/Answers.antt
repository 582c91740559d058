use Rattle.std.proofs.Common.{◌≡◌, ℕ, ◌+◌, ◌≤◌, List, [], ◌∷◌, ◌++◌, Some, None, Ok, Err, sym, refl, ap, ◌∙◌, subst, ap₂, arith}
use Rattle.std.proofs.lemmas.Result.{err_from_is_err_and}
use Rattle.elf.specs.Meaning.{Object}
use Rattle.elf.specs.Refusals.{answer}
use Rattle.scope.specs.Orders.{LawfulOrder, unknown}
use Rattle.session.specs.Binding.{bindings_of_all}
use Rattle.session.specs.Calls.{link, link_list}
use Rattle.session.specs.Checks.{batch_refusal, references_of_all}
use Rattle.session.specs.View.{view, recorded, bare, InSetup, Shows}
use Rattle.session.specs.Walks.{new_list, start_order}
use Rattle.session.specs.declared.table.Tables.{Tables}
use Rattle.session.proofs.Firsts.{granted}
use Rattle.session.proofs.Linking.{link_refused, link_granted, many_fits, none_recorded}
use Rattle.session.proofs.Rooms.{both_fit}
use Rattle.session.proofs.setup.Setup.try_link.Goals as goal

pub returns-in_err-load : goal.returns-in_err-load
returns-in_err-load g c =
    let os : List Object = g.S.Scope.objects c.self.inside.scope in
    let order : List ℕ = g.S.Scope.order c.self.inside.scope in
    let list : List ℕ = c.deref-3.result.now in
    let t : Tables = c.self.inside.tables in
    let here : unknown os c.args.root ≡ None = granted _ _ (c.in_ok-check_known.ensures ∙ ap (λ (cs : List Object). answer {A = Unit {0}} (unknown cs c.args.root) tt) c.catalogue.ensures) in
    let from : c.deref-2.result.now ≡ c.args.root ∷ t.preloads.items =
    c.deref-2.ensures.0 ∙ c.chained.ensures ∙ ap (λ (ps : List ℕ). c.args.root ∷ ps) c.deref.ensures.0 in
    let lists : list ≡ link_list os (view os order t) c.args.root =
    c.deref-3.ensures.0 ∙ c.new_list-list.ensures.list ∙ ap (new_list os order) from in
    let p = err_from_is_err_and c.from_residual-in_err-load.result c.from_residual-in_err-load.ensures.1 in
    let said : Err p.0 ≡ answer {A = Unit {0}} (batch_refusal os order list) tt = ap Err p.2 ∙ c.in_err-load.ensures.answer in
    let order' : List ℕ = g.S.Scope.order c.load.new.scope in
    let done =
    subst (λ v. (Err p.0 ≡ (link v.objects v.state c.args.root).answered) × (view os order' t ≡ (link v.objects v.state c.args.root).next))
    c.self.view_is (link_refused os order list t c.args.root here lists order' c.load.ensures.order p.0 said) in
    record {
      objects = c.load.ensures.objects ∙ ap (λ v. v.objects) c.self.view_is;
      scope = c.load.ensures.objects ∙ ap (λ v. g.S.Scope.objects v.scope) c.self.view_is;
      answer = ap bare p.1 ∙ done.0;
      next = ap (λ (cs : List Object). view cs order' t) c.load.ensures.objects ∙ done.1;
      was = subst (λ v. Shows (g.S.Scope.objects v.scope) (g.S.Scope.order v.scope) v) c.self.view_is (record { objects = refl; loaded = refl; counts = refl; granted = refl });
      shown = record { objects = refl; loaded = refl; counts = refl; granted = refl };
      preloads = subst (λ (cs : List Object). LawfulOrder cs t.preloads.items) (sym c.load.ensures.objects) c.self.invariant.0;
      few = c.self.invariant.1;
    }

pub bind_all-requires : goal.bind_all-requires
bind_all-requires g c =
    let os : List Object = g.S.Scope.objects c.self.inside.scope in
    let order : List ℕ = g.S.Scope.order c.self.inside.scope in
    let list : List ℕ = c.deref-3.result.now in
    let n : batch_refusal os order list ≡ None = granted _ _ c.in_ok-load.ensures.answer in
    let few : references_of_all os order + references_of_all os list ≤ 4096 = both_fit os order list (many_fits os order list n) in
    let same : references_of_all (g.S.Scope.objects c.load.new.scope) c.deref-4.result.now ≡ references_of_all os list =
    ap₂ references_of_all c.load.ensures.objects (c.deref-4.ensures.0 ∙ sym c.deref-3.ensures.0) in
    let none = none_recorded os order c.self.inside.tables (subst (λ v. InSetup v.state) (sym c.self.view_is) c.requires) in
    omega (arith, few, same, none)

pub returns : goal.returns
returns g c =
    let os : List Object = g.S.Scope.objects c.self.inside.scope in
    let order : List ℕ = g.S.Scope.order c.self.inside.scope in
    let list : List ℕ = c.deref-3.result.now in
    let t : Tables = c.self.inside.tables in
    let here : unknown os c.args.root ≡ None = granted _ _ (c.in_ok-check_known.ensures ∙ ap (λ (cs : List Object). answer {A = Unit {0}} (unknown cs c.args.root) tt) c.catalogue.ensures) in
    let from : c.deref-2.result.now ≡ c.args.root ∷ t.preloads.items =
    c.deref-2.ensures.0 ∙ c.chained.ensures ∙ ap (λ (ps : List ℕ). c.args.root ∷ ps) c.deref.ensures.0 in
    let lists : list ≡ link_list os (view os order t) c.args.root =
    c.deref-3.ensures.0 ∙ c.new_list-list.ensures.list ∙ ap (new_list os order) from in
    let order' : List ℕ = g.S.Scope.order c.bind_all.new.scope in
    let kept : g.S.Scope.objects c.bind_all.new.scope ≡ os = c.bind_all.ensures.objects ∙ c.load.ensures.objects in
    let t' : Tables =
    record { root = Some c.args.root; preloads = t.preloads; started = c.start_order-self-inside.result; bindings = c.bind_all.new.rows } in
    let starts : List ℕ = t.preloads.items ++ (c.args.root ∷ []) in
    let same : c.deref-4.result.now ≡ list = c.deref-4.ensures.0 ∙ sym c.deref-3.ensures.0 in
    let started : t'.started.items ≡ start_order os list starts =
    c.start_order-self-inside.ensures.order ∙ (λ i. start_order (kept i) ((c.deref-6.ensures.0 ∙ sym c.deref-3.ensures.0) i)
    ((c.deref-7.ensures.0 ∙ c.chained-starts.ensures ∙ ap (λ (ps : List ℕ). ps ++ (c.args.root ∷ [])) c.deref-5.ensures.0) i)) in
    let bound : recorded os t'.bindings ≡ recorded os t.bindings ++ bindings_of_all os order' list =
    subst (λ (cs : List Object). recorded cs t'.bindings ≡ recorded cs t.bindings ++ bindings_of_all cs (g.S.Scope.order c.load.new.scope) list)
    c.load.ensures.objects
    (c.bind_all.ensures.rows
    ∙ ap (λ (xs : List ℕ). recorded (g.S.Scope.objects c.load.new.scope) t.bindings
    ++ bindings_of_all (g.S.Scope.objects c.load.new.scope) (g.S.Scope.order c.load.new.scope) xs) same)
    ∙ ap (λ (o : List ℕ). recorded os t.bindings ++ bindings_of_all os o list) (sym c.bind_all.ensures.order) in
    let done =
    subst (λ v. (Ok 0 ≡ (link v.objects v.state c.args.root).answered) × (view os order' t' ≡ (link v.objects v.state c.args.root).next))
    c.self.view_is
    (link_granted os order list t c.args.root here lists order' (c.bind_all.ensures.order ∙ c.load.ensures.order) t'
    (subst (λ v. InSetup v.state) (sym c.self.view_is) c.requires) c.in_ok-load.ensures.answer refl refl started bound) in
    record {
      objects = kept ∙ ap (λ v. v.objects) c.self.view_is;
      scope = kept ∙ ap (λ v. g.S.Scope.objects v.scope) c.self.view_is;
      answer = done.0;
      next = ap (λ (cs : List Object). view cs order' t') kept ∙ done.1;
      was = subst (λ v. Shows (g.S.Scope.objects v.scope) (g.S.Scope.order v.scope) v) c.self.view_is (record { objects = refl; loaded = refl; counts = refl; granted = refl });
      shown = record { objects = refl; loaded = refl; counts = refl; granted = refl };
      preloads = subst (λ (cs : List Object). LawfulOrder cs t.preloads.items) (sym kept) c.self.invariant.0;
      few = c.self.invariant.1;
    }
