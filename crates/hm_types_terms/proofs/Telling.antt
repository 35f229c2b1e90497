-- What is told of a lens inside is told of the lens.
use Rattle.std.proofs.Common.{◌≡◌, ℕ, refl, sym, subst}
use Rattle.hm_schema.specs.declared.node.NodeId.{NodeId}
use Rattle.hm_terms.specs.Lenses.{Lens}
use Rattle.hm_types_rules.specs.Faults.{At, at}
use Rattle.hm_types_table.specs.Tables.{Nodes}
use Rattle.hm_types_terms.specs.declared.course.Course.{Course}
use Rattle.hm_types_terms.specs.Courses.{scope_of, IsAt}
use Rattle.hm_types_terms.specs.declared.fault.TypeFault.{TypeFault}
use Rattle.hm_types_terms.specs.declared.fault.TypeFault.TheVariants.{Mistyped, UnknownLens, Unguarded, TwinLeft, Memory}
use Rattle.hm_types_terms.specs.Told.{IsTold}

pub told_so : (number : ℕ) (F G : At → Type 0) → ((a : At) → F a → G a) → (e : TypeFault) → IsTold number F e → IsTold number G e
told_so number F G f (Mistyped definition term rule) t = (t.0, f (at term rule) t.1)
told_so number F G f (UnknownLens name) t = absurd t
told_so number F G f (Unguarded name) t = absurd t
told_so number F G f (TwinLeft definition term) t = absurd t
told_so number F G f Memory t = tt

-- a condition of a rule that isn't met
pub told_unmet : (number term rule : ℕ) (F : At → Type 0) (e : TypeFault) → e ≡ Mistyped number term rule → F (at term rule) → IsTold number F e
told_unmet number term rule F e is f = subst (IsTold number F) (sym is) (refl, f)

pub told_at : (c : Course) (nodes : Nodes) (l : Lens) (n : ℕ) (i : NodeId) (rule : ℕ) (e : TypeFault) → e ≡ Mistyped c.definition n rule
    → IsAt (scope_of c) nodes l n i (at n rule) → IsTold c.definition (IsAt (scope_of c) nodes l n i) e
told_at c nodes l n i rule e is f = told_unmet c.definition n rule (IsAt (scope_of c) nodes l n i) e is f
