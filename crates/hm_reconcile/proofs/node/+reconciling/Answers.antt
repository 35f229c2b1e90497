use Rattle.std.proofs.Common.{◌<◌, arith, Some, sym, ap, subst, ◌∙◌, refl}
use Rattle.std.proofs.lemmas.Result.{IfOk-weaker}
use Rattle.hm_tree.specs.Archives.{recorded}
use Rattle.hm_schema.specs.declared.node.NodeId.{NodeId}
use Rattle.hm_schema.specs.Values.{SchemaValue}
use Rattle.hm_outcome.specs.Trios.{Trio, given, views, AreMembers}
use Rattle.hm_outcome.specs.Outcomes.{IsOutcome}
use Rattle.hm_reconcile.specs.Sides.{outcome_of, sides_of, Settles}
use Rattle.hm_reconcile.specs.Holding.{Holds}
use Rattle.hm_outcome.specs.Sides.{on_left, on_right}
use Rattle.hm_reconcile.proofs.Nodes.{comes_to, equal_outcome, stopped_outcome, has_node, members_at, size_falls, settled_here}
use Rattle.hm_reconcile.proofs.Falling.{side_size}
use Rattle.hm_reconcile.proofs.Held.{holds_agreed, holds_all}
use Rattle.hm_reconcile.proofs.Fronts.{given_away}
use Rattle.hm_reconcile.proofs.Passing.{left_here, right_here, in_either}
use Rattle.hm_reconcile.proofs.Steps.{under_way_start, old_here, nothing_made, nothing_held, under_way_next, outcome_whole, held_whole}
use Rattle.hm_reconcile.proofs.node.+reconciling.Goals as goal

-- ---- a name that one side alone has

pub at_name-returns-in-Some-None-clause-outcome : goal.at_name-returns-in-Some-None-clause-outcome
at_name-returns-in-Some-None-clause-outcome t c =
    rw (c.in-Some-None.is-0, c.in-Some-None.is-1)
    (IfOk-weaker _ (λ r. Settles c.in-Some-None.left (on_left c.args.archive c.in-Some-None.left) (sides_of r))
    (λ r. IsOutcome c.args.schema.now c.args.id (on_left c.args.archive c.in-Some-None.left) (sides_of r))
    (λ r settles. settles c.args.schema.now c.args.id (rw c.in-Some-None.is-0 at c.requires.members.left)) c.left_alone.ensures.outcome)

pub at_name-returns-in-None-Some-clause-outcome : goal.at_name-returns-in-None-Some-clause-outcome
at_name-returns-in-None-Some-clause-outcome t c =
    rw (c.in-None-Some.is-0, c.in-None-Some.is-1)
    (IfOk-weaker _ (λ r. Settles c.in-None-Some.right (on_right c.args.archive c.in-None-Some.right) (sides_of r))
    (λ r. IsOutcome c.args.schema.now c.args.id (on_right c.args.archive c.in-None-Some.right) (sides_of r))
    (λ r settles. settles c.args.schema.now c.args.id (rw c.in-None-Some.is-1 at c.requires.members.right)) c.right_alone.ensures.outcome)

-- ---- a node of both

pub at_node-returns-in-Marked : goal.at_node-returns-in-Marked
at_node-returns-in-Marked t c = record {
  outcome = IfOk-weaker _ (λ o. (s : SchemaValue) (i : NodeId) → AreMembers s i (views (given c.args.archive c.args.left c.args.right))
      → IsOutcome s i (given c.args.archive c.args.left c.args.right) (outcome_of o))
      (λ o. IsOutcome c.args.schema.now c.args.id (given c.args.archive c.args.left c.args.right) (outcome_of o))
      (λ o settles. settles c.args.schema.now c.args.id c.requires.members) c.at_mark.ensures.outcome;
  held = c.at_mark.ensures.held;
}

pub at_node-returns-then-same : goal.at_node-returns-then-same
at_node-returns-then-same t c = record {
  outcome =
      comes_to c.args.schema.now c.args.id (given c.args.archive c.args.left c.args.right)
      (given (Some (recorded c.args.left)) c.args.left c.args.left) c.agreed.result c.agreed.ensures.outcome
      (equal_outcome c.args.schema.now c.args.id c.args.archive c.args.left c.args.right c.requires.members (c.if-same.ensures.0 refl));
  held = holds_agreed c.args.archive c.args.left c.agreed.result c.agreed.ensures.outcome;
}

pub at_node-returns-then-not-branch : goal.at_node-returns-then-not-branch
at_node-returns-then-not-branch t c = record {
  outcome =
      subst (IsOutcome c.args.schema.now c.args.id (given c.args.archive c.args.left c.args.right)) (sym c.stopped.ensures.outcome)
      (stopped_outcome c.args.schema.now c.args.id c.args.archive c.args.left c.args.right c.requires.members
      (c.in_ok-are_permitted.ensures.contested c.if-not-branch.true));
  held = holds_all c.args.archive c.stopped.result.archive c.stopped.result.held c.stopped.ensures.held;
}

-- ---- name by name

pub at_names-loop-taken-init : goal.at_names-loop-taken-init
at_names-loop-taken-init t c =
    under_way_start c.args.schema.now c.args.id c.args.archive c.args.left c.args.right _ _ _ (outcome_of c.in_ok-made.made) c.in_ok-made.made.held
    (c.from_vec-old_rest.ensures.items ∙ c.into_edges.ensures) (c.from_vec-left_rest.ensures.items ∙ c.into_edges-2.ensures)
    (c.from_vec-right_rest.ensures.items ∙ c.into_edges-3.ensures) c.in_ok-made.ensures.outcome c.in_ok-made.ensures.held

pub at_names-child-child-requires-clause-there : goal.at_names-child-child-requires-clause-there
at_names-child-child-requires-clause-there t c =
    has_node c.args.schema.now c.args.id c.args.archive c.args.left c.args.right c.requires.members c.in-Some.taken.name
    (in_either c.loop-taken.invariant.left (given_away _ _ c.in-Some.ensures))

pub at_names-at_name-requires : goal.at_names-at_name-requires
at_names-at_name-requires t c =
    let taken = given_away c.in-Some.taken.left c.in-Some.taken.right c.in-Some.ensures in
    let left = left_here c.loop-taken.invariant.left taken in
    let right = right_here c.loop-taken.invariant.left taken in (
      (let less = size_falls c.args.left c.in-Some.taken.name c.in-Some.taken.left 3 left (omega arith) in
          subst (λ z. side_size c.in-Some.taken.left 3 < z) c.decreases less),
      (
        c.child-child.ensures.in_range,
        (
          c.requires.no_twins,
          (
            taken.there,
            members_at c.args.schema.now c.args.id c.child-child.result c.args.archive
                c.take_under-under.result c.args.left c.args.right c.in-Some.taken.name c.in-Some.taken.left c.in-Some.taken.right c.requires.members
                c.child-child.ensures.child left right,
          ),
        ),
      ),
    )

pub at_names-put-requires-clause-fresh : goal.at_names-put-requires-clause-fresh
at_names-put-requires-clause-fresh t c = ap (λ (x : Trio). x.archive) (nothing_made c.loop-taken.invariant c.in-Some.ensures)

pub at_names-put-requires-clause-fresh_left : goal.at_names-put-requires-clause-fresh_left
at_names-put-requires-clause-fresh_left t c = ap (λ (x : Trio). x.left) (nothing_made c.loop-taken.invariant c.in-Some.ensures)

pub at_names-put-requires-clause-fresh_right : goal.at_names-put-requires-clause-fresh_right
at_names-put-requires-clause-fresh_right t c = ap (λ (x : Trio). x.right) (nothing_made c.loop-taken.invariant c.in-Some.ensures)

pub at_names-put-requires-clause-fresh_held : goal.at_names-put-requires-clause-fresh_held
at_names-put-requires-clause-fresh_held t c = nothing_held c.loop-taken.invariant c.in-Some.ensures

pub at_names-loop-taken-preserved : goal.at_names-loop-taken-preserved
at_names-loop-taken-preserved t c =
    let taken = given_away c.in-Some.taken.left c.in-Some.taken.right c.in-Some.ensures in
    let old = c.take_under-under.ensures.taken ∙ old_here c.loop-taken.invariant taken in
    under_way_next c.loop-taken.invariant taken c.take_under-under.new.rest.items (sides_of c.in_ok-here.here) c.in_ok-here.here.held
    (outcome_of c.put.new.made) c.put.new.made.held c.take_under-under.ensures.sorted c.take_under-under.ensures.later
    (settled_here c.args.schema.now c.args.id c.child-child.result c.args.archive c.take_under-under.result c.args.left c.args.right
    c.in-Some.taken.name c.in-Some.taken.left c.in-Some.taken.right (sides_of c.in_ok-here.here) c.child-child.ensures.child old
    (left_here c.loop-taken.invariant.left taken) (right_here c.loop-taken.invariant.left taken) c.in_ok-here.ensures.outcome)
    (subst (λ o. Holds o c.in_ok-here.here.archive c.in_ok-here.here.held) old c.in_ok-here.ensures.held)
    c.in_ok-put.ensures.outcome c.in_ok-put.ensures.held

pub at_names-returns-clause-outcome : goal.at_names-returns-clause-outcome
at_names-returns-clause-outcome t c =
    subst (IsOutcome c.args.schema.now c.args.id (given c.args.archive c.args.left c.args.right)) (sym c.without_nothing.ensures.outcome)
    (outcome_whole c.loop-taken.invariant c.in_default.ensures c.requires.members c.requires.unmarked c.requires.no_twins c.requires.permitted)

pub at_names-returns-clause-held : goal.at_names-returns-clause-held
at_names-returns-clause-held t c = c.without_nothing.ensures.held c.args.archive
    (held_whole c.loop-taken.invariant c.in_default.ensures c.requires.unmarked)
