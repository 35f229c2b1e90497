-- A child copied under another name: the lens fits the trees of its source and of its view.
use Rattle.std.proofs.Common.{◌<◌, length, All}
use Rattle.std.specs.Str.{IsUtf8}
use Rattle.hm_tree.specs.Names.{Name}
use Rattle.hm_tree.specs.Nodes.{Tree}
use Rattle.hm_schema.specs.Values.{NodeOver}
use Rattle.hm_schema.specs.WellFormed.{IsWellFormedShape}
use Rattle.hm_schema.specs.Standing.{Stands}
use Rattle.hm_types_nodes.specs.Copying.{CanCopy, IsCopied}
use Rattle.hm_types_nodes.proofs.Copying.{down, up, back, twin}
use Rattle.hm_terms.specs.Lenses.{copy, Setting}
use Rattle.hm_terms.specs.Fitting.{Fits}
use Rattle.hm_terms_laws.proofs.Copy.{fits_copy}

module _ {I : Type 0} (m n : Name) (w v : NodeOver I) (can : CanCopy m n w) (is : IsCopied m n w v) (well : All (IsWellFormedShape w) w.shapes)
    (some : 0 < length w.shapes) (In : I → Tree → Type 0) where
  pub copy_fits : (S : Setting) → IsUtf8 n → Fits S (copy m n) (Stands In w) (Stands In v)
  copy_fits S text =
      fits_copy S m n text (Stands In w) (Stands In v) (down m n w v can is well some In) (up m n w v can is well some In text)
      (back m n w v can is well some In) (twin m n w v can is well some In)
