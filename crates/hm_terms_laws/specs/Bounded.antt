-- When a lens fits up to a depth of the trees, which is what calls of a definition within itself need.
use Rattle.std.specs.Prelude.{ℕ, ◌≤◌, IfSome, Option, Some}
use Rattle.hm_tree.specs.Nodes.{Tree, depth}
use Rattle.hm_terms.specs.Lenses.{Lens, Setting}
use Rattle.hm_terms.specs.Shown.{Shows}
use Rattle.hm_terms.specs.Put.{Puts}
use Rattle.hm_terms.specs.Kept.{Keeps}
use Rattle.hm_terms.specs.Fitting.{IsOne}

-- as `Fits` says it, of a bounded depth: of the concrete tree where a lens shows, of the view where it puts
pub record FitsTo (n : ℕ) (S : Setting) (l : Lens) (C A : Tree → Type 0) : Type 0 where
  pub shows : (c : Tree) → depth c ≤ n → C c → IsOne A (Shows S l c)
  pub puts : (v : Tree) (b : Option Tree) → depth v ≤ n → A v → IfSome b C → IsOne C (Puts S l v b)
  pub get_put : (c v : Tree) → depth c ≤ n → C c → Shows S l c v → Puts S l v (Some c) c
  pub put_get : (v : Tree) (b : Option Tree) (c : Tree) → depth v ≤ n → A v → IfSome b C → Puts S l v b c → Shows S l c v
  pub keeps : (v b c : Tree) → depth v ≤ n → A v → C b → Puts S l v (Some b) c → Keeps S l b c
