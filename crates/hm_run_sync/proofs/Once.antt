-- A reader finds one result at the most, and so does a run.
use Rattle.std.proofs.Common.{◌≡◌, ℕ, List, Result, sym, ◌∙◌, ap}
use Rattle.hm_tree.specs.States.{state}
use Rattle.hm_tree_text.specs.Reads.{ReadsArchive}
use Rattle.hm_tree_text.proofs.Laws.{archive_reads_once}
use Rattle.hm_schema.specs.Values.{SchemaValue}
use Rattle.hm_schema_text.specs.SchemaFiles.{ReadsSchema}
use Rattle.hm_schema_text.proofs.Laws.{schema_reads_once}
use Rattle.hm_outcome.specs.Trios.{Trio, views}
use Rattle.hm_outcome.proofs.Best.{outcome_once}
use Rattle.hm_report.specs.declared.conflict.Conflict.{Conflict}
use Rattle.hm_report.proofs.Once.{conflicts_once}
use Rattle.hm_run_files.specs.declared.slot.Slot.{Slot}
use Rattle.hm_run_files.specs.declared.slot.Slot.TheVariants as slot
use Rattle.hm_run_files.specs.declared.stop.Refusal.{Refusal}
use Rattle.hm_run_files.specs.Steps.{FindsOne}
use Rattle.hm_run_files.proofs.Steps.{sides_once, equals_once, told_once, then_once, then_once_of}
use Rattle.hm_run_sides.proofs.Laws.{side_once, view_once, opens_once, closes_once}
use Rattle.hm_run_handed.specs.Handed.{Handed}
use Rattle.hm_run_sync.specs.Reads.{Sides, Before, OpensView, OpensSides, OpensReplicas, ReadsBehind, ReadsSix, ReadsAll, AreOpened, schema_stop, archive_stop}
use Rattle.hm_run_sync.specs.Verdict.{Synced, NewNames, Closes, Plans, PlansFrom, Becomes, HasConflicts, Reconciles, old_trio, new_trio}
use Rattle.hm_run_sync.proofs.Opened.{AreServed, served, all_opened}

-- ---- what was read

module _ (h : Handed) where
  opened_view_once : (s : SchemaValue) (at : Slot) (bytes : List ℕ) → FindsOne (OpensView h s at bytes)
  unfolding OpensView
  opened_view_once s at bytes =
      then_once _ _ (side_once h at bytes) (λ side.
      then_once _ _ (view_once at s side.typed.view) (λ same x y e f. e.0 ∙ sym f.0))

  sides_found_once : (s : SchemaValue) (left right : List ℕ) → FindsOne (OpensSides h s left right)
  unfolding OpensSides
  sides_found_once s left right =
      then_once _ _ (opened_view_once s slot.LensA left) (λ a. then_once _ _ (opened_view_once s slot.LensB right) (λ b. equals_once _))

  replicas_once : (s : SchemaValue) (sides : Sides) → AreServed h s sides → (left right : List ℕ) → FindsOne (OpensReplicas h sides left right)
  unfolding OpensReplicas
  replicas_once s sides of left right =
      then_once _ _ (opens_once h sides.left of.left.is_side slot.A left) (λ a.
      then_once _ _ (opens_once h sides.right of.right.is_side slot.B right) (λ b. equals_once _))

  six_once : (schema lens_a lens_b archive left right : List ℕ) → FindsOne (ReadsSix h schema lens_a lens_b archive left right)
  unfolding ReadsSix ReadsBehind
  six_once schema lens_a lens_b archive left right =
      then_once _ _ (told_once schema_stop (ReadsSchema schema) (schema_reads_once schema)) (λ s.
      then_once_of _ _ (sides_found_once s lens_a lens_b) (λ sides opens.
      then_once _ _ (told_once archive_stop (ReadsArchive archive) (archive_reads_once archive)) (λ o.
      then_once _ _ (replicas_once s sides (served h s lens_a lens_b sides opens) left right) (λ replicas. equals_once _))))

-- ---- the plan

pub becomes_once : (before : Before) (one other : Synced) → Becomes before one → Becomes before other → one ≡ other
becomes_once before one other h k =
    let e = outcome_once before.schema before.schema.root (old_trio before) (new_trio one) (new_trio other) h k in
    let left : one.left ≡ other.left = let l = ap (λ (t : Trio). t.left) e in cc in
    let right : one.right ≡ other.right = let r = ap (λ (t : Trio). t.right) e in cc in
    λ i. record { archive = (e i).archive; left = left i; right = right i }

module _ (h : Handed) (before : Before) (of : AreOpened h before) (after : Synced) (becomes : Becomes before after) where
  closed_once : FindsOne (Closes h before.sides before.replicas after)
  unfolding Closes
  closed_once =
      then_once _ _ (closes_once h before.sides.left of.serves_left.is_side before.replicas.left after.left
      (of.serves_left.members.into after.left becomes.safe.members.left) slot.A) (λ left.
      then_once _ _ (closes_once h before.sides.right of.serves_right.is_side before.replicas.right after.right
      (of.serves_right.members.into after.right becomes.safe.members.right) slot.B) (λ right.
      then_once _ _ (equals_once _) (λ fits. equals_once _)))

plans_once : (h : Handed) (files : NewNames) (before : Before) → AreOpened h before → FindsOne (Plans h files before)
unfolding Plans
plans_once h files before of =
    then_once_of _ _ (sides_once (Reconciles before) (becomes_once before) (λ x f h k. k) (λ f g h k. absurd h)) (λ after becomes.
    then_once _ _ (closed_once h before of after becomes) (λ texts.
    then_once _ _ (equals_once _) (λ sizes. equals_once _)))

all_once : (h : Handed) (all : List (List ℕ)) → FindsOne (ReadsAll h all)
unfolding ReadsAll
all_once h all = six_once h _ _ _ _ _ _

-- of files of these bytes there is one plan at the most
pub plan_once : (h : Handed) (files : NewNames) (all : List (List ℕ)) → FindsOne (PlansFrom h files all)
unfolding PlansFrom
plan_once h files all = then_once_of _ _ (all_once h all) (λ before reads. plans_once h files before (all_opened h all before reads))

-- of the conflicts that remain there is one list, and so is what is told of them
pub told_once_of : (before : Before) (after : Synced) {B : Type 0} (tell : List Conflict → Result B Refusal)
    → FindsOne (λ r. (conflicts : List Conflict) × HasConflicts before after conflicts × (r ≡ tell conflicts))
told_once_of before after tell r s h k =
    h.2 ∙ ap tell (conflicts_once before.schema before.schema.root (views (old_trio before)) (state after.archive) h.0 k.0 h.1 k.1) ∙ sym k.2
