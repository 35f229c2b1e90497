-- What has changed since the archive was written, and where the two sides clash (JCSS 2007, section 3).
use Rattle.std.specs.Prelude.{◌≢◌, ◌⊎◌, ◌++◌}
use Rattle.hm_tree.specs.declared.archive.State.TheVariants.{Missing, Present}
use Rattle.hm_tree.specs.States.{Path, View, Has, Lacks}
use Rattle.hm_safety.specs.Views.{Views, Agree}

-- a replica has changed at a path where its state there and the archive's don't agree, whatever stands below; at a mark of the
-- archive and below it all has changed, on both sides
abbrev pub HasChanged : View → View → Path → Type 0
HasChanged archive replica p = ¬ (Agree (archive p) (replica p))

-- at p or below it the replica has a path at which the archive is missing or marked
abbrev pub HasNews : View → View → Path → Type 0
HasNews archive replica p = (r : Path) × Has replica (p ++ r) × (archive (p ++ r) ≢ Present)

-- one side lacks p, which the archive has or marks, while the other, the keeper, has news there or below, which would be lost
pub record IsLost (archive keeper other : View) (p : Path) : Type 0 where
  pub has : Has keeper p
  pub lacks : Lacks other p
  pub known : archive p ≢ Missing
  pub news : HasNews archive keeper p

abbrev pub Clash : Views → Path → Type 0
Clash v p = IsLost v.archive v.left v.right p ⊎ IsLost v.archive v.right v.left p
