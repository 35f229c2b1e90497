-- Bodies of definitions between nodes of a table.
use Rattle.hm_schema.specs.declared.node.NodeId.{NodeId}
use Rattle.hm_terms.specs.Lenses.{Lens, Lenses, among}
use Rattle.hm_terms.specs.WellFormedPrograms.{StandsIn, HasOnce, row_names}
use Rattle.hm_types_forms.specs.Forms.{Form, form}
use Rattle.hm_types_forms.specs.SameForms.{IsSame}
use Rattle.hm_types_rules.specs.Typing.{Types, Goes}
use Rattle.hm_types_rules.specs.Faults.{At, at, Faults}
use Rattle.hm_types_table.specs.Tables.{Nodes}
use Rattle.hm_types_terms.specs.Courses.{Scope, AreTypes}

-- no name has two lenses side by side
abbrev pub HasDistinctRows : Lens → Type 0
HasDistinctRows l = (ls : Lenses) → StandsIn (among ls) l → HasOnce (row_names ls)

-- a lens goes from a form to one that is the same as another
pub record GoesTo (types : Types) (l : Lens) (u v : Form) : Type 0 where
  pub view : Form
  pub goes : Goes types l u view
  pub same : IsSame view v

-- it goes nowhere, or to another form
pub data GoesAstray (types : Types) (l : Lens) (u v : Form) : At → Type 0 where
  nowhere : {a : At} → Faults types l 1 u a → GoesAstray types l u v a
  elsewhere : {x : Form} → Goes types l u x → ¬ (IsSame x v) → GoesAstray types l u v (at 1 15)

abbrev pub IsTypedBody : Scope → Nodes → Lens → NodeId → NodeId → Type 0
IsTypedBody scope nodes l i j = (types : Types) → AreTypes nodes scope types → GoesTo types l (form nodes i) (form nodes j)

abbrev pub IsMistypedBody : Scope → Nodes → Lens → NodeId → NodeId → At → Type 0
IsMistypedBody scope nodes l i j a = (types : Types) → AreTypes nodes scope types → GoesAstray types l (form nodes i) (form nodes j) a
