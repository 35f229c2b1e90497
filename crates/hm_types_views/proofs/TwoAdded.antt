-- Two nodes that are added: each stands for the form of its node over those of what it leads to in the table from before.
use Rattle.std.proofs.Common.{◌≡◌, ℕ, ◌<◌, IsTrue, List, [], ◌∷◌, ◌++◌, length, slice_get, Some, All, sym, ap, ◌∙◌, arith, length-append}
use Rattle.hm_tree.specs.Names.{Name}
use Rattle.hm_schema.specs.declared.node.NodeId.{NodeId}
use Rattle.hm_schema.specs.declared.node.Shape.{Shape}
use Rattle.hm_schema.specs.Values.{NodeValue, is_listed}
use Rattle.hm_schema.specs.WellFormed.{IsWellFormedNode, IsWellFormedShape}
use Rattle.hm_schema.specs.Shapes.{shaped}
use Rattle.hm_types_forms.specs.Forms.{form, formed}
use Rattle.hm_types_table.specs.Tables.{Nodes, AreFormed, Extends, opened}
use Rattle.hm_types_table.proofs.Grown.{extends_then, extends_at, extends_length, opened_extends, form_extends, well_more}
use Rattle.hm_types_table.proofs.Forms.{form_added}

pub add_grows : (old new : Nodes) (x : NodeValue) → new ≡ old ++ x ∷ [] → Extends old new
add_grows old new x is = record { more = x ∷ []; is = is }

pub add_length : (old new : Nodes) (x : NodeValue) → new ≡ old ++ x ∷ [] → length old < length new
add_length old new x is = omega (arith, ap length is, length-append old (x ∷ []))

-- a node that can be added to a table can be added where it has grown by another one
module _ (old mid : Nodes) (x : NodeValue) (is : mid ≡ old ++ x ∷ []) (i : NodeId) (lt : i.place < length old) where
  pub still_at : (n : NodeValue) → slice_get mid i.place ≡ Some n → slice_get old i.place ≡ Some n
  still_at n e = sym (extends_at old mid i.place (add_grows old mid x is) lt) ∙ e

  pub still_well : (y : NodeValue) → IsWellFormedNode (length old) y → IsWellFormedNode (length mid) y
  still_well y = well_more (length old) (length mid) y (extends_length old mid (add_grows old mid x is))

module _ (old mid new : Nodes) (h : AreFormed old) (hm : AreFormed mid) (x y : NodeValue) (wx : IsWellFormedNode (length old) x)
    (wy : IsWellFormedNode (length old) y) (is : mid ≡ old ++ x ∷ []) (again : new ≡ mid ++ y ∷ []) where
  pub both_extend : Extends old new
  both_extend = extends_then old mid new (add_grows old mid x is) (add_grows mid new y again)

  pub first_form : (j : NodeId) → j.place ≡ length old → form new j ≡ formed (opened old x)
  first_form j at =
      let more = add_length old mid x is in
      form_extends mid new hm (add_grows mid new y again) j (omega (arith, at)) ∙ form_added old mid h x wx is j at

  pub second_form : (j : NodeId) → j.place ≡ length mid → form new j ≡ formed (opened old y)
  second_form j at = form_added mid new hm y (well_more (length old) (length mid) y (extends_length old mid (add_grows old mid x is)) wy) again j at
      ∙ ap formed (opened_extends old mid h (add_grows old mid x is) y wy)

-- ---- a node with other shapes and other twins

pub shaped_well : (count : ℕ) (n : NodeValue) (shapes : List Shape) (twins : List (Name × Name)) → IsWellFormedNode count n
    → All (IsWellFormedShape (shaped n shapes twins)) shapes → 0 < length shapes
    → All (λ t. IsTrue (is_listed n t.0) × IsTrue (is_listed n t.1)) twins → IsWellFormedNode count (shaped n shapes twins)
shaped_well count n shapes twins w all some listed = record {
  ascending = w.ascending;
  children = w.children;
  other = w.other;
  shapes = all;
  some_shape = some;
  twins = listed;
}

-- the node by equal parts
pub shaped_is : (n m : NodeValue) (shapes others : List Shape) (twins more : List (Name × Name)) → n ≡ m → shapes ≡ others → twins ≡ more
    → shaped n shapes twins ≡ shaped m others more
shaped_is n m shapes others twins more e f g = λ i. shaped (e i) (f i) (g i)
