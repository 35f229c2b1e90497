-- What is told of what was read, by what that becomes.
use Rattle.std.proofs.Common.{◌≡◌, Bool, List, [], Some, sym, subst, ◌∙◌}
use Rattle.hm_tree.specs.Archives.{recorded}
use Rattle.hm_outcome.proofs.OneSided.{as_left, as_right}
use Rattle.hm_outcome.specs.Trios.{views, AreMembers}
use Rattle.hm_report.specs.declared.conflict.Conflict.{Conflict}
use Rattle.hm_run_effects.specs.Effects.{Effect}
use Rattle.hm_run_sync.specs.Reads.{Before}
use Rattle.hm_run_sync.specs.Verdict.{Synced, Becomes, HasConflicts, all_as, old_trio}
use Rattle.hm_run_sync.proofs.Making.{no_conflicts}
use Rattle.hm_run_changes.specs.Changing.{IsToldOf, IsTold, holds_nothing}
use Rattle.std.specs.Prelude.{ℕ, Option}

module _ (most : Option ℕ) (before : Before) where
  -- what was read becomes this, of which the changes are told
  pub told : (after : Synced) (effect : Effect) (conflicts : List Conflict) → Becomes before after → HasConflicts before after conflicts
      → (first : Bool) → first ≡ holds_nothing before.archive
      → IsToldOf most first before.replicas.left.view after.left before.replicas.right.view after.right conflicts effect → IsTold most before effect
  told after effect conflicts becomes remain first nothing t = record {
    after = after;
    becomes = becomes;
    changes = t.changes;
    are = record {
      first = t.of_first ∙ nothing;
      view = t.of_view;
      left = t.of_left;
      right = t.of_right;
      alike = t.of_alike;
      remain = subst (HasConflicts before after) (sym t.of_conflicts) remain;
    };
    is = t.is;
  }

  module _ (members : AreMembers before.schema before.schema.root (views (old_trio before))) (first : Bool) (nothing : first ≡ holds_nothing before.archive) (effect : Effect)
      (none : List Conflict) (empty : none ≡ []) where
    -- where the archive holds a view, all become as the other one
    pub told_right : before.archive ≡ Some (recorded before.replicas.left.view)
        → IsToldOf most first before.replicas.left.view before.replicas.right.view before.replicas.right.view before.replicas.right.view none effect
        → IsTold most before effect
    told_right holds t = told (all_as before.replicas.right.view) effect none
        (rw holds (as_right before.schema before.schema.root before.replicas.left.view before.replicas.right.view members.right))
        (subst (HasConflicts before (all_as before.replicas.right.view)) (sym empty) (no_conflicts before before.replicas.right.view)) first nothing t

    pub told_left : before.archive ≡ Some (recorded before.replicas.right.view)
        → IsToldOf most first before.replicas.left.view before.replicas.left.view before.replicas.right.view before.replicas.left.view none effect
        → IsTold most before effect
    told_left holds t = told (all_as before.replicas.left.view) effect none
        (rw holds (as_left before.schema before.schema.root before.replicas.left.view before.replicas.right.view members.left))
        (subst (HasConflicts before (all_as before.replicas.left.view)) (sym empty) (no_conflicts before before.replicas.left.view)) first nothing t
