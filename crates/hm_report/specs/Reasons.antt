-- What shows why the two sides couldn't be brought to agree at a path.
use Rattle.std.specs.Prelude.{◌≡◌, ◌≢◌, ◌⊎◌, ◌++◌}
use Rattle.hm_tree.specs.declared.archive.State.TheVariants.{Present, Marked}
use Rattle.hm_tree.specs.States.{Path, View, Has}
use Rattle.hm_safety.specs.Views.{Views}
use Rattle.hm_safety.specs.Changes.{IsLost}
use Rattle.hm_schema.specs.declared.node.NodeId.{NodeId}
use Rattle.hm_tree.specs.PathOrder.{IsFirst}
use Rattle.hm_schema.specs.Values.{Names, SchemaValue}
use Rattle.hm_outcome.specs.Trios.{Differ}
use Rattle.hm_outcome.specs.Contested.{AreRefused}
use Rattle.hm_report.specs.declared.conflict.Why.{Why}
use Rattle.hm_report.specs.declared.conflict.Why.TheVariants as why

-- a path that a side has and at which the archive isn't present
pub record IsNews (archive keeper : View) (p : Path) : Type 0 where
  pub has : Has keeper p
  pub news : archive p ≢ Present

-- q is the first path, in the order of paths, at p or below it, that is news
pub record IsFirstNews (archive keeper : View) (p q : Path) : Type 0 where
  pub below : Path
  pub is : q ≡ p ++ below
  pub first : IsFirst (λ r. IsNews archive keeper (p ++ r)) below

-- one side deleted p, and q is the first path of the other's news there
pub record LosesFirst (archive keeper other : View) (p q : Path) : Type 0 where
  pub lost : IsLost archive keeper other p
  pub first : IsFirstNews archive keeper p q

pub data ShowsWhy (s : SchemaValue) (i : NodeId) (v : Views) (p : Path) : Why → Type 0 where
  -- an earlier mark, where the sides still differ
  earlier : v.archive p ≡ Marked → Differ v p → ShowsWhy s i v p why.Earlier
  -- one side deleted it, and the other has changed it
  lost : {q : Path} → v.archive p ≡ Present → LosesFirst v.archive v.left v.right p q ⊎ LosesFirst v.archive v.right v.left p q
      → ShowsWhy s i v p (why.Lost q)
  -- names that can't stand together
  refused : {left right : Names} → AreRefused s i v p left right → ShowsWhy s i v p (why.Names left right)
