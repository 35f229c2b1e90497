-- A lens that fits its trees and views may run on them.
use Rattle.std.specs.Prelude.{Option, IfSome}
use Rattle.hm_tree.specs.Nodes.{Tree}
use Rattle.hm_terms.specs.Lenses.{Lens, Setting}
use Rattle.hm_terms.specs.Fitting.{Fits}
use Rattle.hm_eval_terms.specs.Conditions.{IsShown, IsPut}

module _ (S : Setting) (l : Lens) (C A : Tree → Type 0) (fits : Fits S l C A) where
  pub fits_shown : (c : Tree) → C c → IsShown S l c
  fits_shown c member = let one = fits.shows c member in record { tree = one.tree; is = one.is }

  pub fits_put : (v : Tree) (b : Option Tree) → A v → IfSome b C → IsPut S l v b
  fits_put v b member before = let one = fits.puts v b member before in record { tree = one.tree; is = one.is }
