-- Calls of definitions, by the nodes that these are declared with.
use Rattle.std.proofs.Common.{◌≡◌, ◌<◌, ℕ, length, get_or, Some, sym, ap, subst, ◌∙◌}
use Rattle.std.specs.Option.{option_map}
use Rattle.std.specs.FinMap.{find}
use Rattle.std.proofs.lemmas.Option.{same_Some, none-some}
use Rattle.hm_tree.specs.Names.{Name, name_cmp}
use Rattle.hm_tree.specs.Edges.{IsPlaceOf, IsGapFor}
use Rattle.hm_schema.specs.declared.node.NodeId.{NodeId}
use Rattle.hm_schema.proofs.NamesOf.{found_value}
use Rattle.hm_terms.specs.Lenses.{call}
use Rattle.hm_types_forms.specs.Forms.{Form, form}
use Rattle.hm_types_forms.specs.SameForms.{IsSame}
use Rattle.hm_types_rules.specs.Typing.{Types, goes_call}
use Rattle.hm_types_rules.specs.Faults.{at, Faults, fault_call}
use Rattle.hm_types_table.specs.Tables.{Nodes}
use Rattle.hm_types_terms.specs.Courses.{Scope, AreTypes, AreDeclared, IsView}

module _ (nodes : Nodes) (scope : Scope) (d : AreDeclared nodes scope) (name : Name) (i : NodeId) where
  pub call_missing : (gap : ℕ) → IsGapFor name scope.declared gap → (n : ℕ) (types : Types) → AreTypes nodes scope types
      → Faults types (call name) n (form nodes i) (at n 15)
  call_missing gap g n types t = fault_call (λ x v e. absurd (none-some (x, v) (sym (t.is name ∙ ap (option_map {U = Form × Form} (λ (d : NodeId × NodeId). (form nodes d.0, form nodes d.1))) g.absent) ∙ e)))

  module _ (p : ℕ) (h : IsPlaceOf name scope.declared p) (x : Name × (NodeId × NodeId)) where
    abbrev pub e : Name × (NodeId × NodeId)
    e = get_or scope.declared p x

    found : find name_cmp name scope.declared ≡ Some e.1
    found = h.found x

    pub source_in_range : e.1.0.place < length nodes
    source_in_range = found_value (λ (k : Name) (d : NodeId × NodeId). d.0.place < length nodes) scope.declared d.sources name e.1 found

    types_are : (types : Types) → AreTypes nodes scope types → types.declared name ≡ Some (form nodes e.1.0, form nodes e.1.1)
    types_are types t = t.is name ∙ ap (option_map {U = Form × Form} (λ (d : NodeId × NodeId). (form nodes d.0, form nodes d.1))) found

    pub call_view : IsSame (form nodes i) (form nodes e.1.0) → IsView scope nodes nodes (call name) i e.1.1
    call_view s = record {
      in_range = found_value (λ (k : Name) (d : NodeId × NodeId). d.1.place < length nodes) scope.declared d.views name e.1 found;
      goes = λ types t. goes_call (types_are types t) s;
    }

    pub call_other : (IsSame (form nodes i) (form nodes e.1.0) → ⊥) → (n : ℕ) (types : Types) → AreTypes nodes scope types
        → Faults types (call name) n (form nodes i) (at n 15)
    call_other f n types t = fault_call (λ x v is s.
        f (subst (IsSame (form nodes i)) (ap (λ (p : Form × Form). p.0) (same_Some (x, v) (form nodes e.1.0, form nodes e.1.1) (sym is ∙ types_are types t))) s))
