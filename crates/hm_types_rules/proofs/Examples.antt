-- Typing, tried on small forms.
use Rattle.std.proofs.Common.{◌≡◌, [], ◌∷◌, Some, None, refl, sym, ap, subst, ◌∙◌}
use mathlib.Core.Bool.{true≢false}
use Rattle.std.specs.FinSet.{contains, from_list, contains-from_list}
use Rattle.std.proofs.lemmas.List.Elements.{All-head}
use Rattle.std.proofs.lemmas.Option.{same_Some}
use Rattle.hm_tree.specs.Names.{Name}
use Rattle.hm_tree.proofs.NameSets.{tied_self}
use Rattle.hm_tree.proofs.Sorted.{name_total}
use Rattle.hm_schema.specs.declared.node.Shape.{Shape}
use Rattle.hm_schema.specs.Values.{NodeOver}
use Rattle.hm_terms.specs.Lenses.{Lens, DefinitionValue, identity, sequence, hoist, plunge}
use Rattle.hm_terms.specs.Programs.{ProgramValue}
use Rattle.hm_schema.specs.OneName.{alone}
use Rattle.hm_schema.proofs.OneName.{in_alone}
use Rattle.hm_schema_lists.specs.Plain.{exact_shape, edge_node}
use Rattle.hm_schema.proofs.Elements.{all_one}
use Rattle.hm_types_forms.specs.Forms.{Form, Label, label_of, form, formed}
use Rattle.hm_types_forms.specs.SameForms.{IsSame}
use Rattle.hm_types_rules.specs.Typing.{Classes, Types, Goes, goes_identity, goes_sequence, goes_hoist, goes_plunge, IsAlone, IsPlain}
use Rattle.hm_types_rules.specs.Faults.{Faults, fault_hoist, at}
use Rattle.hm_types_rules.specs.Programs.{IsTypedDefinition, types_of}
use Rattle.hm_types_forms.proofs.MemberNodes.{node_formed}
use Rattle.hm_types_rules.proofs.Determined.{node_one}
use Rattle.hm_types_rules.proofs.Once.{goes_once}

module _ (T : Types) (m : Name) (u : Form) where
  -- `hoist(m)` where m alone is required
  hoist_goes : Goes T (hoist m) (formed (edge_node m u)) u
  hoist_goes = goes_hoist (node_formed (edge_node m u) tt) (record {
    shapes = all_one (λ a. a ≡ exact_shape (alone m)) (exact_shape (alone m)) refl;
    plain = refl;
  }) (rw (tied_self m) refl)

  -- `plunge(m);hoist(m)`
  plunge_and_hoist : Goes T (sequence (plunge m) (hoist m)) u u
  plunge_and_hoist = goes_sequence (goes_plunge refl) hoist_goes

  -- a node where m may be there
  optional_shape : Shape
  optional_shape = record { required = from_list []; optional = alone m; least = 0; most = Some 0 }

  optional_node : NodeOver Form
  optional_node = record { shapes = optional_shape ∷ []; children = (m, u) ∷ []; other = None; twins = [] }

  isn't_alone : IsAlone m optional_node → ⊥
  unfolding optional_node optional_shape
  isn't_alone h = true≢false (sym (in_alone m m ∙ tied_self m)
      ∙ sym (ap (λ (a : Shape). contains a.required m) (All-head (λ a. a ≡ exact_shape (alone m)) optional_shape [] h.shapes))
      ∙ contains-from_list name_total [] m)

  -- `hoist(m)` there
  hoist_of_an_optional_name : Faults T (hoist m) 1 (formed optional_node) (at 1 4)
  unfolding optional_node
  hoist_of_an_optional_name = fault_hoist (λ w is one. isn't_alone
      (subst (IsAlone m) (node_one (formed optional_node) w optional_node is (node_formed optional_node tt)) one))

  -- a node with twins, which is no source of a lens on its children
  twin_node : Name → NodeOver Form
  twin_node n = record { shapes = []; children = []; other = None; twins = (m, n) ∷ [] }

  isn't_plain : (n : Name) (a : Label) → IsPlain (formed (twin_node n)) a → ⊥
  unfolding twin_node
  isn't_plain n a h =
      let same : label_of (twin_node n) ≡ a = same_Some (label_of (twin_node n)) a h.is in
      let none : (m, n) ∷ [] ≡ [] = ap (λ (l : Label). l.twins) same ∙ h.plain in
      let bad : ⊥ = cc in
      bad

-- a definition whose body is `id`
module _ (texts : Classes) (p : ProgramValue) (d : DefinitionValue) (is : d.body ≡ identity) where
  -- it is typed only where the view that it declares is the same as its source
  the_declared_view : IsTypedDefinition texts p d → IsSame (form p.options.types d.source) (form p.options.types d.view)
  the_declared_view h =
      let source : Form = form p.options.types d.source in
      let own : Goes (types_of texts p) d.body source source = subst (λ (l : Lens). Goes (types_of texts p) l source source) (sym is) goes_identity in
      subst (λ (v : Form). IsSame v (form p.options.types d.view)) (goes_once (types_of texts p) h.goes own) h.same
