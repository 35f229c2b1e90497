-- When a lens fits a set of trees and a set of views: it is total on them, and meets the laws (TOPLAS 2007, section 3).
use Rattle.std.specs.Prelude.{◌≡◌, IfSome, Option, Some}
use Rattle.hm_tree.specs.Nodes.{Tree}
use Rattle.hm_terms.specs.Lenses.{Lens, Setting}
use Rattle.hm_terms.specs.Shown.{Shows}
use Rattle.hm_terms.specs.Put.{Puts}
use Rattle.hm_terms.specs.Kept.{Keeps}

-- exactly one tree is such a one, and it is in a set
pub record IsOne (In : Tree → Type 0) (Is : Tree → Type 0) : Type 0 where
  pub tree : Tree
  pub is : Is tree
  pub inside : In tree
  pub only : (other : Tree) → Is other → other ≡ tree

-- each tree of C has one view, and it is of A; each view of A is put as one tree, and it is of C, with each tree of C from
-- before and with none; what is shown of a tree and put back gives that tree; what is put shows the view; and what isn't
-- shown is kept
pub record Fits (S : Setting) (l : Lens) (C A : Tree → Type 0) : Type 0 where
  pub shows : (c : Tree) → C c → IsOne A (Shows S l c)
  pub puts : (v : Tree) (b : Option Tree) → A v → IfSome b C → IsOne C (Puts S l v b)
  pub get_put : (c v : Tree) → C c → Shows S l c v → Puts S l v (Some c) c
  pub put_get : (v : Tree) (b : Option Tree) (c : Tree) → A v → IfSome b C → Puts S l v b c → Shows S l c v
  pub keeps : (v b c : Tree) → A v → C b → Puts S l v (Some b) c → Keeps S l b c
