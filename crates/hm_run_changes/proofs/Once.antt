-- There is one verdict on words and contents, and one account of the changes of a plan.
use Rattle.std.proofs.Common.{◌≡◌, ◌∙◌, List, ℕ, Ok, sym}
use Rattle.std.specs.Prelude.{Option, Some}
use Rattle.hm_tree.specs.Names.{Name}
use Rattle.hm_tree.specs.Nodes.{Tree}
use Rattle.hm_tree.specs.States.{state}
use Rattle.hm_outcome.specs.Trios.{views}
use Rattle.hm_report.proofs.Once.{conflicts_once}
use Rattle.hm_outside.specs.Contents.{Contents}
use Rattle.hm_changes_report.specs.Text.{SideValue, ChangesValue}
use Rattle.hm_run_files.specs.Steps.{FindsOne}
use Rattle.hm_run_files.proofs.Steps.{then_once, equals_once}
use Rattle.hm_run_effects.proofs.Acting.{effect_once}
use Rattle.hm_run_handed.specs.Handed.{Handed}
use Rattle.hm_run_sync.specs.Reads.{Before}
use Rattle.hm_run_sync.specs.Verdict.{Synced, old_trio}
use Rattle.hm_run_sync.proofs.Once.{plan_once}
use Rattle.hm_run.specs.Commands.{new_names}
use Rattle.hm_run_changes.specs.Changing.{AreSideChanges, AreToldOf, FindsChanges, told_effect}
use Rattle.hm_run_changes.specs.Endings.{Verdict, plan_files}
use Rattle.hm_run_changes.proofs.ChangesOnce.{changes_once, alikes_once}

side_once : (old new : Tree) (s u : SideValue) → AreSideChanges old new s → AreSideChanges old new u → s ≡ u
side_once old new s u one other =
    let same = changes_once (state (Some old)) (state (Some new)) s.changes u.changes one.changes other.changes in
    let number = one.entries ∙ sym other.entries in
    λ i. record { changes = same i; entries = number i }

pub told_once : (before : Before) (after : Synced) (t u : ChangesValue) → AreToldOf before after t → AreToldOf before after u → t ≡ u
told_once before after t u one other =
    let first = one.first ∙ sym other.first in
    let left = side_once _ _ t.left u.left one.left other.left in
    let right = side_once _ _ t.right u.right one.right other.right in
    let alike = alikes_once _ _ t.alike u.alike one.alike other.alike in
    let view = one.view ∙ sym other.view in
    let conflicts = conflicts_once before.schema before.schema.root (views (old_trio before)) (state after.archive) t.conflicts u.conflicts one.remain other.remain in
    λ i. record {
      first = first i;
      view = view i;
      left = left i;
      right = right i;
      alike = alike i;
      conflicts = conflicts i;
    }

finding_once : (h : Handed) (most : Option ℕ) (files : List Name) (all : List (List ℕ)) → FindsOne (FindsChanges h most files all)
unfolding FindsChanges
finding_once h most files all =
    then_once _ _ (plan_once h (new_names files) all) (λ plan r s one other.
    one.2 ∙ (λ i. Ok (told_effect most (told_once plan.before plan.after one.0 other.0 one.1 other.1 i))) ∙ sym other.2)

pub verdict_once : (h : Handed) (c : Contents) (words : List Name) → FindsOne (Verdict h c words)
unfolding Verdict
verdict_once h c words =
    then_once _ _ (equals_once _) (λ asked. effect_once (FindsChanges h asked.most asked.files) (plan_files asked) c (λ all. finding_once h asked.most asked.files all))
