-- The new files, from what the reconciling gave.
use Rattle.std.proofs.Common.{◌≡◌, ◌≢◌, ◌≤◌, ℕ, List, [], Some, Vec, Global, Result, Ok, Err, refl, sym, ap, subst, ◌∙◌, arith}
use Rattle.std.specs.List.Sorted.{IsStrictlySortedBy}
use Rattle.hm_tree.specs.declared.archive.State.TheVariants.{Marked}
use Rattle.hm_tree.specs.Nodes.{Tree, depth}
use Rattle.hm_tree.specs.Archives.{Archive, depth_here, recorded}
use Rattle.hm_tree.specs.States.{Path, state}
use Rattle.hm_tree.proofs.States.{state_unmarked, state-recorded}
use Rattle.hm_tree_text.specs.Text.{tree_text, archive_text}
use Rattle.hm_schema.specs.Values.{SchemaValue}
use Rattle.hm_safety.proofs.Shallow.{archive_shallow}
use Rattle.hm_outcome.specs.Trios.{given}
use Rattle.hm_outcome.proofs.OneSided.{as_left, as_right}
use Rattle.hm_report.specs.declared.outcome.Outcome.{Outcome}
use Rattle.hm_reconcile.specs.Reconciled.{IsReconciled}
use Rattle.hm_run_files.specs.declared.slot.Slot.{Slot}
use Rattle.hm_run_files.specs.declared.slot.Slot.TheVariants.{A as ASlot, B as BSlot}
use Rattle.hm_run_files.specs.declared.stop.Refusal.{Refusal}
use Rattle.hm_replica.specs.Replicas.{ReplicaValue}
use Rattle.hm_run_sides.proofs.Laws.{stays_on}
use Rattle.hm_run_sides.specs.SideReplicas.{ClosesOn}
use Rattle.std.specs.Prelude.{IfOk}
use Rattle.hm_report.specs.declared.conflict.Conflict.{Conflict}
use Rattle.hm_run_files.specs.declared.stop.Stop.{Stop}
use Rattle.hm_run_files.specs.Steps.{Computes, stops, goes_on}
use Rattle.hm_run_files.proofs.Steps.{computes_stop}
use Rattle.hm_schema.specs.Membership.{IsMemberTree}
use Rattle.hm_run_sides.specs.Sides.{SideValue, seen}
use Rattle.hm_run_sync.specs.declared.closing.NewTexts.{NewTexts}
use Rattle.hm_run_sync.specs.declared.closing.OneSided.{OneSided}
use Rattle.hm_run_sync.specs.declared.closing.Summary.{Summary}
use Rattle.hm_run_handed.specs.Handed.{Handed}
use Rattle.hm_run_sync.specs.Reads.{Sides, Replicas, Before, MayClose, AreOpened}
use Rattle.hm_run_sync.specs.Verdict.{Synced, Becomes, HasConflicts, all_as, archive_fits, Texts, Closes, OneSidedTexts, ClosesAs, Sums, count_of, outcome_of, new_texts, one_sided_texts, old_trio, MakesTexts}

-- each side is closed, and the archive isn't too deep
pub closed : (h : Handed) (sides : Sides) (replicas : Replicas) (after : Synced) (new : Texts)
    → ClosesOn h sides.left replicas.left after.left ASlot (Ok new.left)
    → ClosesOn h sides.right replicas.right after.right BSlot (Ok new.right)
    → ◌≡◌ {A = Result (Unit {0}) Refusal} (Ok tt) (archive_fits after.archive) → new.archive ≡ archive_text after.archive
    → Closes h sides replicas after (Ok new)
unfolding Closes
closed h sides replicas after new left right fits archive =
    goes_on left (goes_on right (goes_on fits (λ i. Ok (record { archive = archive i; left = new.left; right = new.right }))))

-- a replica whose view stays keeps its bytes
pub stays_closed : (h : Handed) (side : SideValue) (r : ReplicaValue) (at : Slot) → MayClose h side r r.view
    → ClosesOn h side r r.view at (Ok r.bytes)
stays_closed h side r at may = stays_on h side may.is_side r may.on_side may.member at

-- an archive that holds a view is spelled as that
pub view_text : (v : Tree) → tree_text v ≡ archive_text (Some (recorded v))
unfolding recorded
view_text v = refl

module _ (h : Handed) (before : Before) (after : Synced) (conflicts : List Conflict) (becomes : Becomes before after)
    (remain : HasConflicts before after conflicts) where
  pub made : (r : Result NewTexts Stop) → Computes (Closes h before.sides before.replicas after) (seen new_texts r)
      → IfOk r (λ f. Sums after conflicts f.summary) → Computes (MakesTexts h before) r
  made (Ok f) closes sums =
      let left = subst (HasConflicts before after) (sym sums.are) remain in
      (record { after = after; becomes = becomes; closes = closes.0; sums = record { remain = left; left = sums.left; right = sums.right } }, refl)
  made (Err stop) closes sums =
      computes_stop (MakesTexts h before) (λ refusal. Closes h before.sides before.replicas after (Err refusal)) stop (Err stop) refl closes
      (λ refusal f. record { after = after; becomes = becomes; closes = f })

pub made_of : (h : Handed) (before : Before) (outcome : Outcome) → IsReconciled before.schema (old_trio before) outcome
    → (r : Result NewTexts Stop) → Computes (Closes h before.sides before.replicas (outcome_of outcome)) (seen new_texts r)
    → IfOk r (λ f. Sums (outcome_of outcome) outcome.conflicts.items f.summary) → Computes (MakesTexts h before) r
made_of h before outcome now = made h before (outcome_of outcome) outcome.conflicts.items now.outcome now.conflicts

-- where all three become as one view there is no mark, and so no conflict
pub no_conflicts : (before : Before) (t : Tree) → HasConflicts before (all_as t) []
unfolding IsStrictlySortedBy
no_conflicts before t =
    let unmarked : (p : Path) → state (Some (recorded t)) p ≢ Marked = λ p m. state_unmarked (Some t) p (sym (state-recorded t p) ∙ m) in record {
      at_marks = record {
        ascending = tt;
        each = λ p. ((λ c. absurd (let lt = c.1 in omega arith)), (λ top. absurd (unmarked p top.marked)));
      };
      each = λ i c within. absurd (let lt = within in omega arith);
    }

-- the replica whose view all become as keeps its bytes, and the other one is closed before it or behind it
abbrev right_kept : OneSidedTexts → Texts
right_kept t = record { archive = t.archive; left = t.made; right = t.kept }

abbrev left_kept : OneSidedTexts → Texts
left_kept t = record { archive = t.archive; left = t.kept; right = t.made }

closed_as_right : (h : Handed) (sides : Sides) (replicas : Replicas) → MayClose h sides.right replicas.right replicas.right.view
    → (r : Result OneSidedTexts Refusal) → ClosesAs h ASlot sides.left replicas.left replicas.right r
    → Closes h sides replicas (all_as replicas.right.view) (seen right_kept r)
unfolding ClosesAs Closes
closed_as_right h sides replicas may _ (stops f) = stops f
closed_as_right h sides replicas may _ (goes_on f (stops g)) = goes_on f (goes_on (stays_closed h sides.right replicas.right BSlot may) (stops g))
closed_as_right h sides replicas may r (goes_on f (goes_on g e)) =
    goes_on f (goes_on (stays_closed h sides.right replicas.right BSlot may) (goes_on g (ap (seen right_kept) e)))

closed_as_left : (h : Handed) (sides : Sides) (replicas : Replicas) → MayClose h sides.left replicas.left replicas.left.view
    → (r : Result OneSidedTexts Refusal) → ClosesAs h BSlot sides.right replicas.right replicas.left r
    → Closes h sides replicas (all_as replicas.left.view) (seen left_kept r)
unfolding ClosesAs Closes
closed_as_left h sides replicas may _ (stops f) = goes_on (stays_closed h sides.left replicas.left ASlot may) (stops f)
closed_as_left h sides replicas may _ (goes_on f (stops g)) = goes_on (stays_closed h sides.left replicas.left ASlot may) (goes_on f (stops g))
closed_as_left h sides replicas may r (goes_on f (goes_on g e)) =
    goes_on (stays_closed h sides.left replicas.left ASlot may) (goes_on f (goes_on g (ap (seen left_kept) e)))

module _ (h : Handed) (before : Before) (t : Tree) (becomes : Becomes before (all_as t)) (finds : Result OneSidedTexts Refusal → Type 0)
    (see : OneSidedTexts → Texts) (closed : (r : Result OneSidedTexts Refusal) → finds r → Closes h before.sides before.replicas (all_as t) (seen see r))
    (put : OneSided → NewTexts) (same : (o : OneSided) → new_texts (put o) ≡ see (one_sided_texts o))
    (sums : (o : OneSided) → o.count ≡ count_of t → Sums (all_as t) [] (put o).summary) where
  made_as : (r : Result OneSided Stop) → Computes finds (seen one_sided_texts r) → IfOk r (λ o. o.count ≡ count_of t) → Computes (MakesTexts h before) (seen put r)
  made_as (Ok o) closes counts =
      made h before (all_as t) [] becomes (no_conflicts before t) (Ok (put o))
      (subst (λ x. Closes h before.sides before.replicas (all_as t) (Ok x)) (sym (same o)) (closed (Ok (one_sided_texts o)) closes.0), refl)
      (sums o counts)
  made_as (Err stop) closes counts =
      made h before (all_as t) [] becomes (no_conflicts before t) (Err stop)
      (computes_stop (Closes h before.sides before.replicas (all_as t)) (λ refusal. finds (Err refusal)) stop (Err stop) refl closes (λ refusal f. closed (Err refusal) f))
      tt

-- without conflicts, and with as many edges on both sides
abbrev summary_of : Vec Conflict Global → OneSided → Summary
summary_of none o = record { conflicts = none; left = o.count; right = o.count }

module _ (h : Handed) (before : Before) (opened : AreOpened h before) where
  pub may_close_left : (t : Tree) → IsMemberTree before.schema t → MayClose h before.sides.left before.replicas.left t
  may_close_left t member = record {
    is_side = opened.serves_left.is_side;
    on_side = opened.left;
    member = opened.serves_left.members.into t member;
  }

  pub may_close_right : (t : Tree) → IsMemberTree before.schema t → MayClose h before.sides.right before.replicas.right t
  may_close_right t member = record {
    is_side = opened.serves_right.is_side;
    on_side = opened.right;
    member = opened.serves_right.members.into t member;
  }

  -- the archive holds the left view, so all become as the right one; or the other way round
  pub made_as_right : before.archive ≡ Some (recorded before.replicas.left.view) → (r : Result OneSided Stop)
      → Computes (ClosesAs h ASlot before.sides.left before.replicas.left before.replicas.right) (seen one_sided_texts r)
      → IfOk r (λ o. o.count ≡ count_of before.replicas.right.view) → (none : Vec Conflict Global) → none.items ≡ []
      → Computes (MakesTexts h before) (seen (λ (o : OneSided). record { archive = o.archive; left = o.made; right = o.kept; summary = summary_of none o }) r)
  made_as_right holds r closes counts none empty =
      made_as h before before.replicas.right.view
      (rw holds (as_right before.schema before.schema.root before.replicas.left.view before.replicas.right.view opened.member_right))
      (ClosesAs h ASlot before.sides.left before.replicas.left before.replicas.right) right_kept
      (closed_as_right h before.sides before.replicas (may_close_right before.replicas.right.view opened.member_right))
      (λ (o : OneSided). record { archive = o.archive; left = o.made; right = o.kept; summary = summary_of none o }) (λ o. refl)
      (λ o same. record { are = empty; left = same; right = same }) r closes counts

  pub made_as_left : before.archive ≡ Some (recorded before.replicas.right.view) → (r : Result OneSided Stop)
      → Computes (ClosesAs h BSlot before.sides.right before.replicas.right before.replicas.left) (seen one_sided_texts r)
      → IfOk r (λ o. o.count ≡ count_of before.replicas.left.view) → (none : Vec Conflict Global) → none.items ≡ []
      → Computes (MakesTexts h before) (seen (λ (o : OneSided). record { archive = o.archive; left = o.kept; right = o.made; summary = summary_of none o }) r)
  made_as_left holds r closes counts none empty =
      made_as h before before.replicas.left.view
      (rw holds (as_left before.schema before.schema.root before.replicas.left.view before.replicas.right.view opened.member_left))
      (ClosesAs h BSlot before.sides.right before.replicas.right before.replicas.left) left_kept
      (closed_as_left h before.sides before.replicas (may_close_left before.replicas.left.view opened.member_left))
      (λ (o : OneSided). record { archive = o.archive; left = o.kept; right = o.made; summary = summary_of none o }) (λ o. refl)
      (λ o same. record { are = empty; left = same; right = same }) r closes counts

-- no archive is deeper than the deeper of the views was
pub archive_bound : (s : SchemaValue) (o : Archive) (left right : Tree) (outcome : Outcome) (n : ℕ) → IsReconciled s (given o left right) outcome
    → depth left ≤ n → depth right ≤ n → depth_here outcome.archive ≤ n
archive_bound s o left right outcome n reconciled =
    archive_shallow o outcome.archive left right outcome.left outcome.right n reconciled.outcome.safe.safe
