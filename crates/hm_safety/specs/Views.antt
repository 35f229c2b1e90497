-- An archive and two replicas as views, and when two states agree (JCSS 2007, section 2).
use Rattle.hm_tree.specs.declared.archive.State.{State}
use Rattle.hm_tree.specs.declared.archive.State.TheVariants.{Missing, Present}
use Rattle.hm_tree.specs.States.{View}

-- an archive and two replicas, before a reconciling or after it
pub record Views : Type 0 where
  pub archive : View
  pub left : View
  pub right : View

-- two states agree where both are present or both are missing; a mark agrees with nothing
pub data Agree : State → State → Type 0 where
  both_present : Agree Present Present
  both_missing : Agree Missing Missing
