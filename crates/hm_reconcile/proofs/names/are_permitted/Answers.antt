use Rattle.std.proofs.Common.{inl, inr, refl, sym, ◌∙◌}
use mathlib.Core.Bool.{true≢false}
use Rattle.hm_reconcile.proofs.Naming.{same_names_permitted, sets_permitted, sets_refused}
use Rattle.hm_reconcile.proofs.names.are_permitted.Goals.{then-permits_names, else-permits_names}
use Rattle.hm_reconcile.proofs.names.are_permitted.Goals as goal
use Rattle.hm_facts.proofs.Booleans.{refuted}

pub returns-then-have_same_names-clause-permitted :
    goal.returns-then-have_same_names-clause-permitted
returns-then-have_same_names-clause-permitted c = λ yes.
    same_names_permitted c.args.schema.now c.args.id c.args.archive.now c.args.left.now c.args.right.now c.requires.members
    (c.if-have_same_names.ensures.0 refl)

pub returns-clause-permitted : goal.returns-clause-permitted
returns-clause-permitted c = λ yes. elim c.if-permits_names.branch [
  | then-permits_names w ↦
      sets_permitted c.args.schema.now c.args.id c.args.archive.now c.args.left.now c.args.right.now c.in_ok-left.left c.in_ok-left.right
      c.in_ok-left.ensures.left c.in_ok-left.ensures.right
      (w.if-permits_names.ensures.0 refl) (w.permits_names-then-permits_names.ensures.0 (sym w.result-is ∙ yes))
  | else-permits_names w ↦ absurd (true≢false (sym yes ∙ w.result-is ∙ w.if-permits_names.false))
]

pub returns-clause-contested : goal.returns-clause-contested
returns-clause-contested c = λ refuses.
    sets_refused c.args.schema.now c.args.id c.args.archive.now c.args.left.now c.args.right.now c.in_ok-left.left c.in_ok-left.right
    c.in_ok-left.ensures.left c.in_ok-left.ensures.right c.requires.in_range c.requires.unmarked
    (elim c.if-permits_names.branch [
      | then-permits_names w ↦ inr
          (λ permitted. true≢false (sym (w.permits_names-then-permits_names.ensures.1 permitted) ∙ sym w.result-is ∙ refuses))
      | else-permits_names w ↦ inl (λ permitted. refuted (w.if-permits_names.ensures.1 permitted))
    ])
