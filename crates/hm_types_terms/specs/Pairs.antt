-- Two lenses inside one, each of which is checked at a node of its own.
use Rattle.std.specs.Prelude.{◌⊎◌, ◌<◌, ◌+◌, ◌++◌, ℕ, length}
use Rattle.hm_schema.specs.declared.node.NodeId.{NodeId}
use Rattle.hm_terms.specs.Lenses.{Lens}
use Rattle.hm_types_forms.specs.Forms.{Form, form}
use Rattle.hm_types_forms.specs.Sound.{IsSound}
use Rattle.hm_types_rules.specs.Typing.{Types, Goes}
use Rattle.hm_types_rules.specs.Faults.{At, Faults, size_of}
use Rattle.hm_types_table.specs.Tables.{Nodes}
use Rattle.hm_types_terms.specs.declared.course.Course.{Course}
use Rattle.hm_types_terms.specs.declared.memo.Memo.{Memo}
use Rattle.hm_types_terms.specs.Numbers.{parts_of, StandFrom}
use Rattle.hm_types_terms.specs.Courses.{Scope, AreTypes, lenses_in, IsView, IsReady}

pub record ArePairReady (c : Course) (nodes : Nodes) (known : Memo) (l k : Lens) (n : ℕ) (p q : NodeId) : Type 0 where
  pub first : IsReady c nodes known (parts_of l) (n + 1) p
  pub stand : StandFrom (lenses_in c) (n + 1) (parts_of l ++ parts_of k)
  pub in_range : q.place < length nodes
  pub sound : IsSound (form nodes q)

pub record ArePairViews (scope : Scope) (old new : Nodes) (l k : Lens) (p q x y : NodeId) : Type 0 where
  pub first : IsView scope old new l p x
  pub second : IsView scope old new k q y

-- the first has no view, or the first has one and the second none
abbrev pub IsPairAt : Scope → Nodes → Lens → Lens → ℕ → NodeId → NodeId → At → Type 0
IsPairAt scope nodes l k n p q a = (types : Types) → AreTypes nodes scope types
    → Faults types l (n + 1) (form nodes p) a
    ⊎ ((x : Form) × (Goes types l (form nodes p) x × Faults types k (n + 1 + size_of l) (form nodes q) a))
