-- What is remembered: the views of lenses, by their places, at nodes.
use Rattle.std.specs.Prelude.{◌≡◌, ◌⊎◌, ℕ, List, Option, Some, slice_get}
use Rattle.hm_schema.specs.declared.node.NodeId.{NodeId}
use Rattle.hm_types_terms.specs.declared.memo.Known.{Known}
use Rattle.hm_types_terms.specs.declared.memo.Memo.{Memo}

abbrev pub known : ℕ → NodeId → NodeId → Known
known n i j = record { lens = n; at = i.place; view = j }

-- a slot has this
pub record HasKnown (slots : List (Option Known)) (x : Known) : Type 0 where
  pub slot : ℕ
  pub is : slice_get slots slot ≡ Some (Some x)

-- the view of a lens at a node is remembered
abbrev pub Knows : Memo → ℕ → NodeId → NodeId → Type 0
Knows memo n i j = HasKnown memo.slots.items (known n i j)

-- slots have nothing but what others have
pub record AreAmong (new old : List (Option Known)) : Type 0 where
  pub each : (k : ℕ) (x : Known) → slice_get new k ≡ Some (Some x) → HasKnown old x

-- they have nothing but what they had, and one thing more
pub record AreKept (old new : List (Option Known)) (y : Known) : Type 0 where
  pub each : (k : ℕ) (x : Known) → slice_get new k ≡ Some (Some x) → HasKnown old x ⊎ (x ≡ y)

-- nothing is remembered but what was, and one view
pub record Remembers (old new : Memo) (n : ℕ) (i j : NodeId) : Type 0 where
  pub each : (m : ℕ) (k v : NodeId) → Knows new m k v → Knows old m k v ⊎ ((m ≡ n) × (k ≡ i) × (v ≡ j))
