-- When a result of reconciling is safe (after JCSS 2007, section 3).
use Rattle.std.specs.Prelude.{◌≡◌, ◌≢◌, ◌⊎◌, [], ◌++◌}
use Rattle.hm_tree.specs.declared.archive.State.TheVariants.{Marked}
use Rattle.hm_tree.specs.States.{Path, View, Has}
use Rattle.hm_safety.specs.Views.{Views}
use Rattle.hm_safety.specs.Changes.{HasChanged, Clash}

-- a mark with none above it
pub record IsTopmostMark (archive : View) (p : Path) : Type 0 where
  pub marked : archive p ≡ Marked
  pub topmost : (q r : Path) → p ≡ q ++ r → r ≢ [] → archive q ≢ Marked

-- five conditions at each path, of which three are said once for each side; a state at a path says nothing of what is below it
pub record IsSafe (before after : Views) : Type 0 where
  -- keep: where a side had changed, its state stays
  pub keeps_left : (p : Path) → HasChanged before.archive before.left p → after.left p ≡ before.left p
  pub keeps_right : (p : Path) → HasChanged before.archive before.right p → after.right p ≡ before.right p
  -- nothing made up: where the state of a side is another one, it is that of the other side from before
  pub left_from_right : (p : Path) → after.left p ≢ before.left p → after.left p ≡ before.right p
  pub right_from_left : (p : Path) → after.right p ≢ before.right p → after.right p ≡ before.left p
  -- agree or stop: the new archive has a mark, or it and both new sides have the same state
  pub agrees_or_stops : (p : Path) → (after.archive p ≡ Marked) ⊎ ((after.archive p ≡ after.left p) × (after.archive p ≡ after.right p))
  -- a stop leaves things: where the new archive is marked, the states of both sides stay
  pub stop_leaves_left : (p : Path) → after.archive p ≡ Marked → after.left p ≡ before.left p
  pub stop_leaves_right : (p : Path) → after.archive p ≡ Marked → after.right p ≡ before.right p
  -- stop only there: a topmost mark of the new archive stands where both sides had the path, or at a clash. It follows that what
  -- one side alone had is taken over or taken out, unless it clashes or stands below a mark
  pub stops_at : (p : Path) → IsTopmostMark after.archive p → (Has before.left p × Has before.right p) ⊎ Clash before p
