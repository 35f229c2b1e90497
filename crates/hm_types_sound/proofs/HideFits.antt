-- Two names that lead to the same, of which the second is hidden: the lens that merges them fits the trees of its source and of its
-- view.
use Rattle.std.proofs.Common.{◌<◌, length, All}
use Rattle.std.specs.Str.{IsUtf8}
use Rattle.hm_tree.specs.Names.{Name}
use Rattle.hm_tree.specs.Nodes.{Tree}
use Rattle.hm_schema.specs.Values.{NodeOver}
use Rattle.hm_schema.specs.WellFormed.{IsWellFormedShape}
use Rattle.hm_schema.specs.Standing.{Stands, Alike}
use Rattle.hm_types_nodes.specs.Copying.{CanHide, hidden_node}
use Rattle.hm_types_nodes.proofs.Hiding.{down, shown, up}
use Rattle.hm_terms.specs.Lenses.{merge, Setting}
use Rattle.hm_terms.specs.Fitting.{Fits}
use Rattle.hm_terms_laws.proofs.Merge.{fits_merge}

module _ {I : Type 0} (R : I → I → Type 0) (m n : Name) (w : NodeOver I) (can : CanHide R m n w) (well : All (IsWellFormedShape w) w.shapes)
    (some : 0 < length w.shapes) (In : I → Tree → Type 0) (same : (i j : I) → R i j → Alike (In i) (In j)) where
  pub hide_fits : (S : Setting) → IsUtf8 n → Fits S (merge m n) (Stands In w) (Stands In (hidden_node n w))
  hide_fits S text =
      fits_merge S m n text (Stands In w) (Stands In (hidden_node n w)) can.apart (down R m n w can well some In same)
      (shown R m n w can well some In same) (up R m n w can well some In same text)
