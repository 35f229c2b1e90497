-- What is said of a contested path, at whatever node of whatever schema it is contested.
use Rattle.std.specs.Prelude.{List, All, map}
use Rattle.hm_tree.specs.States.{Path, View}
use Rattle.hm_safety.specs.Views.{Views}
use Rattle.hm_safety.specs.Safety.{IsTopmostMark}
use Rattle.hm_schema.specs.declared.node.NodeId.{NodeId}
use Rattle.hm_schema.specs.Values.{SchemaValue}
use Rattle.hm_outcome.specs.Contested.{IsContested}
use Rattle.hm_outcome.specs.TopmostMarks.{AreTopmostMarks}
use Rattle.hm_report.specs.declared.conflict.Conflict.{Conflict}
use Rattle.hm_report.specs.declared.conflict.Why.{Why}
use Rattle.hm_report.specs.Reasons.{ShowsWhy}

pub record IsContestedSomewhere (v : Views) (p : Path) : Type 0 where
  pub schema : SchemaValue
  pub node : NodeId
  pub contested : IsContested schema node v p

abbrev pub ShowsWherever : Views → Path → Why → Type 0
ShowsWherever v p why = (s : SchemaValue) (i : NodeId) → IsContested s i v p → ShowsWhy s i v p why

-- the topmost marks of an archive stand where it is contested
abbrev pub AreMarksContested : Views → View → Type 0
AreMarksContested v archive = (p : Path) → IsTopmostMark archive p → IsContestedSomewhere v p

-- one conflict for each topmost mark of an archive and no other, each of which shows why
pub record ShowConflicts (v : Views) (archive : View) (conflicts : List Conflict) : Type 0 where
  pub at_marks : AreTopmostMarks archive (map (λ c. c.path) conflicts)
  pub each : All (λ c. ShowsWherever v c.path c.why) conflicts
