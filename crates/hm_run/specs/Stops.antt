-- The same run again, over what a run that stopped has left.
use Rattle.std.specs.Prelude.{◌≡◌, ℕ, List, Option, Some}
use Rattle.hm_tree.specs.Names.{Name}
use Rattle.hm_outside.specs.Contents.{Contents}
use Rattle.hm_report.specs.declared.conflict.Conflict.{Conflict}
use Rattle.hm_run_files.specs.Steps.{WhereTold}
use Rattle.hm_run_handed.specs.Handed.{Handed}
use Rattle.hm_run_sync.specs.Verdict.{Plan, HasConflicts}
use Rattle.hm_stops.specs.Stopped.{conflicts_again}
use Rattle.hm_run.specs.Endings.{IsPlan, stop_state}

-- over the contents in which the first n files of a plan are new there is a plan again, so nothing is refused; the archive and the
-- views become what they were to become, and the files what they were to be; and the conflicts are those at the same paths, for the
-- same reasons while the archive is the old one, and else each as an earlier one, and no others
pub record IsPlannedAgain (h : Handed) (words : List Name) (c : Contents) (plan : Plan) (n : ℕ) : Type 0 where
  pub again : Plan
  pub planned : IsPlan h words (stop_state c plan n) again
  pub becomes : again.after ≡ plan.after
  pub ends : stop_state (stop_state c plan n) again 3 ≡ stop_state c plan 3
  pub remain : (conflicts : List Conflict) → HasConflicts plan.before plan.after conflicts
      → HasConflicts again.before again.after (conflicts_again n conflicts)
  pub only : (conflicts others : List Conflict) → HasConflicts plan.before plan.after conflicts → HasConflicts again.before again.after others
      → others ≡ conflicts_again n conflicts

-- a plan is carried out as far as some file, and from there, as from any other, the same run comes to the same end
pub record MayGoOn (h : Handed) (words : List Name) (c : Contents) (left : Option Contents) (plan : Plan) : Type 0 where
  pub files : ℕ
  pub is : left ≡ Some (stop_state c plan files)
  pub again : (n : ℕ) → IsPlannedAgain h words c plan n

-- wherever a run that has a plan stops, it may go on
abbrev pub ComesToOneEnd : Handed → List Name → Option Contents → Option Contents → Type 0
ComesToOneEnd h words told left = WhereTold told (λ c. (plan : Plan) → IsPlan h words c plan → MayGoOn h words c left plan)
