-- Bodies of definitions, and what is declared of them.
use Rattle.std.proofs.Common.{◌<◌, length, sym, subst}
use Rattle.hm_schema.specs.declared.node.NodeId.{NodeId}
use Rattle.hm_terms.specs.Lenses.{Lens}
use Rattle.hm_types_forms.specs.Forms.{form}
use Rattle.hm_types_forms.specs.SameForms.{IsSame}
use Rattle.hm_types_rules.specs.Faults.{at}
use Rattle.hm_types_table.specs.Tables.{Nodes, AreFormed, Extends}
use Rattle.hm_types_terms.specs.Courses.{Scope, IsView}
use Rattle.hm_types_terms.specs.Bodies.{IsTypedBody, IsMistypedBody, elsewhere}
use Rattle.hm_types_terms.proofs.Growing.{same_form}

module _ (old new : Nodes) (h : AreFormed old) (e : Extends old new) (scope : Scope) (l : Lens) (i j : NodeId) (lt : j.place < length old) (found : NodeId)
    (v : IsView scope old new l i found) where
  pub typed_body : IsSame (form new found) (form new j) → IsTypedBody scope old l i j
  typed_body s types t = record { view = form new found; goes = v.goes types t; same = subst (IsSame (form new found)) (same_form old new h e j lt) s }

  pub astray_body : (IsSame (form new found) (form new j) → ⊥) → IsMistypedBody scope old l i j (at 1 15)
  astray_body f types t = elsewhere (v.goes types t) (λ s. f (subst (IsSame (form new found)) (sym (same_form old new h e j lt)) s))
