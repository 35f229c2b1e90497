-- When a lens may run.
use Rattle.std.specs.Prelude.{◌≡◌, not, Option, Some, None}
use Rattle.std.specs.Option.{option_map}
use Rattle.std.specs.FinSet.{contains}
use Rattle.hm_tree.specs.Parts.{part}
use Rattle.hm_schema.specs.Values.{Names}
use Rattle.hm_tree.specs.Nodes.{Tree}
use Rattle.hm_terms.specs.Lenses.{Lens, Setting}
use Rattle.hm_terms.specs.Shown.{Shows}
use Rattle.hm_terms.specs.Put.{Puts, ShowsBefore}

-- a lens shows something of a tree
pub record IsShown (S : Setting) (l : Lens) (c : Tree) : Type 0 where
  pub tree : Tree
  pub is : Shows S l c tree

-- a lens puts something of a view, with a tree from before or with none
pub record IsPut (S : Setting) (l : Lens) (v : Tree) (b : Option Tree) : Type 0 where
  pub tree : Tree
  pub is : Puts S l v b tree

-- a lens shows something of the tree from before, if there is one
pub record IsShownBefore (S : Setting) (l : Lens) (b : Option Tree) : Type 0 where
  pub tree : Option Tree
  pub is : ShowsBefore S l b tree

-- a lens puts what was shown of the tree from before back as that tree; or there is neither
pub data GivesBack (S : Setting) (l : Lens) : Option Tree → Option Tree → Type 0 where
  neither : GivesBack S l None None
  given_back : {v b : Tree} → Puts S l v (Some b) b → GivesBack S l (Some v) (Some b)

-- the edges of a tree from before whose names are in a set, and the others
pub record IsSplitBefore (P : Names) (b : Option Tree) (parts : Option Tree × Option Tree) : Type 0 where
  pub inside : parts.0 ≡ option_map (part (contains P)) b
  pub outside : parts.1 ≡ option_map (part (λ n. not (contains P n))) b
