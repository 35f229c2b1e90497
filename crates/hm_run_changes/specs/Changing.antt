-- What is told of a plan: the changes of both views, entry by entry, and the conflicts that remain.
use Rattle.std.specs.Prelude.{◌≡◌, ℕ, Bool, true, false, cond, ◌||◌, nat_lt, List, [], length, Option, Some, None, Result, Ok}
use Rattle.hm_tree.specs.Names.{Name}
use Rattle.hm_tree.specs.Nodes.{Tree}
use Rattle.hm_tree.specs.Archives.{Archive}
use Rattle.hm_tree.specs.States.{state}
use Rattle.hm_changes.specs.declared.change.Change.{Change}
use Rattle.hm_changes.specs.declared.change.Turn.TheVariants.{Deleted}
use Rattle.hm_changes.specs.Changes.{AreChanges}
use Rattle.hm_changes.specs.Numbers.{entries_of}
use Rattle.hm_changes_alike.specs.Alikes.{Renewal, AreAlikes}
use Rattle.hm_changes_report.specs.Text.{SideValue, ChangesValue, changes_text}
use Rattle.hm_report.specs.declared.conflict.Conflict.{Conflict}
use Rattle.hm_run_files.specs.declared.stop.Refusal.{Refusal}
use Rattle.hm_run_files.specs.Steps.{Then}
use Rattle.hm_run_effects.specs.Effects.{Effect}
use Rattle.hm_run_handed.specs.Handed.{Handed}
use Rattle.hm_run_sync.specs.Reads.{Before}
use Rattle.hm_run_sync.specs.Verdict.{Synced, PlansFrom, HasConflicts, Becomes, conflicts_status, count_of}
use Rattle.hm_run.specs.Commands.{new_names}

-- the changes from one view to another, and how many entries the first one has
pub record AreSideChanges (old new : Tree) (s : SideValue) : Type 0 where
  pub changes : AreChanges (state (Some old)) (state (Some new)) s.changes
  pub entries : s.entries ≡ count_of old

abbrev pub holds_nothing : Archive → Bool
holds_nothing None = true
holds_nothing (Some o) = false

-- an old view and a new one
abbrev pub renewal : Tree → Tree → Renewal
renewal old new = record { old = state (Some old); new = state (Some new) }

-- whether the archive held nothing, what each side's new view has and its old one lacks or the other way round, the names
-- below one parent that are alike, of which one comes or goes, and the conflicts that remain
pub record AreToldOf (before : Before) (after : Synced) (t : ChangesValue) : Type 0 where
  pub first : t.first ≡ holds_nothing before.archive
  pub view : t.view ≡ before.replicas.left.view
  pub left : AreSideChanges before.replicas.left.view after.left t.left
  pub right : AreSideChanges before.replicas.right.view after.right t.right
  pub alike : AreAlikes (renewal before.replicas.left.view after.left) (renewal before.replicas.right.view after.right) t.alike
  pub remain : HasConflicts before after t.conflicts

-- ---- what is said of it

-- more entries of a side go than may
abbrev pub deletes_over : ℕ → List Change → Bool
deletes_over most changes = nat_lt most (entries_of Deleted changes)

abbrev pub is_over : Option ℕ → ChangesValue → Bool
is_over None t = false
is_over (Some most) t = deletes_over most t.left.changes || deletes_over most t.right.changes

-- 7 where more entries of a side go than may; else whether conflicts remain
abbrev pub changes_status : Option ℕ → ChangesValue → ℕ
changes_status most t = cond (is_over most t) 7 (conflicts_status (length t.conflicts))

-- nothing is written
abbrev pub told_effect : Option ℕ → ChangesValue → Effect
told_effect most t = record { news = []; status = changes_status most t; text = changes_text t }

-- what is told of the old and the new views of both sides
pub record IsToldOf (most : Option ℕ) (first : Bool) (left new_left right new_right : Tree) (conflicts : List Conflict) (effect : Effect) : Type 0 where
  pub changes : ChangesValue
  pub of_first : changes.first ≡ first
  pub of_view : changes.view ≡ left
  pub of_left : AreSideChanges left new_left changes.left
  pub of_right : AreSideChanges right new_right changes.right
  pub of_alike : AreAlikes (renewal left new_left) (renewal right new_right) changes.alike
  pub of_conflicts : changes.conflicts ≡ conflicts
  pub is : effect ≡ told_effect most changes

-- what was read becomes something, of which the changes are told
pub record IsTold (most : Option ℕ) (before : Before) (effect : Effect) : Type 0 where
  pub after : Synced
  pub becomes : Becomes before after
  pub changes : ChangesValue
  pub are : AreToldOf before after changes
  pub is : effect ≡ told_effect most changes

-- the plan of six files, and what is told of it
unfoldable pub FindsChanges : Handed → Option ℕ → List Name → List (List ℕ) → Result Effect Refusal → Type 0
FindsChanges h most files all =
    Then (PlansFrom h (new_names files) all) (λ plan r. (t : ChangesValue) × AreToldOf plan.before plan.after t × (r ≡ Ok (told_effect most t)))
