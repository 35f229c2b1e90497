-- When a result is safe, by what the new archive has at the root.
use Rattle.std.specs.Prelude.{◌≡◌, ◌⊎◌, [], ◌∷◌, Option, Some, None}
use Rattle.hm_tree.specs.Names.{Name}
use Rattle.hm_tree.specs.Nodes.{Tree, below}
use Rattle.hm_tree.specs.Archives.{Archive, under}
use Rattle.hm_tree.specs.States.{state, at_path, IsWithin, Has}
use Rattle.hm_safety.specs.Changes.{Clash}
use Rattle.hm_outcome.specs.Trios.{Trio, views}
use Rattle.hm_certify.specs.Steps.{step}

-- missing: nothing is left, and what one side alone had is within the old archive
pub record IsGone (before : Trio) (left right : Option Tree) : Type 0 where
  pub left_gone : left ≡ None
  pub right_gone : right ≡ None
  pub alone : (before.left ≡ None) ⊎ (before.right ≡ None)
  pub within_left : IsWithin before.left before.archive
  pub within_right : IsWithin before.right before.archive

-- marked: both sides stay, and both are there or they clash
pub record IsStop (before : Trio) (left right : Option Tree) : Type 0 where
  pub left_stays : left ≡ before.left
  pub right_stays : right ≡ before.right
  pub stops : (Has (state before.left) [] × Has (state before.right) []) ⊎ Clash (views before) []

-- present: both sides were there, or one of them alone, unknown to the archive
abbrev pub MayStand : Trio → Type 0
MayStand before = (Has (state before.left) [] × Has (state before.right) [])
    ⊎ ((before.archive ≡ None) × (Has (state before.left) [] ⊎ Has (state before.right) []))

-- what stood under a name that the new archive lacks is gone
abbrev pub GoesUnder : Trio → Archive → Tree → Tree → Name → Type 0
GoesUnder before archive left right k = under k archive ≡ None → IsGone (step k before) (below k left) (below k right)

-- the same of each name that a side has
abbrev pub EachGoes : Trio → Archive → Tree → Tree → Option Tree → Type 0
EachGoes before archive left right side = (k : Name) (c : Tree) → at_path side (k ∷ []) ≡ Some c → GoesUnder before archive left right k
