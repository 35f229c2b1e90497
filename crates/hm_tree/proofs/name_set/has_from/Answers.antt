use Rattle.std.proofs.Common.{rules, arith}
use Rattle.hm_tree.proofs.Passed.{none_left, next_tells}
use Rattle.hm_tree.proofs.name_set.has_from.Goals.{then-loop-at-test+else-is_lt, else-loop-at-test}
use Rattle.hm_tree.proofs.name_set.has_from.Goals as goal

pub returns-then-at-names-clause-found : goal.returns-then-at-names-clause-found
returns-then-at-names-clause-found c =
    elim c.loop-at-test.branch [
      | then-loop-at-test+else-is_lt w ↦ next_tells _ _ _ c.requires.ascending c.loop-at.invariant _ _ c.same.result
          c.if-at-names.true c.index-names-at-then-at-names.is w.index-names-at.is (search rules) c.same.ensures
      | else-loop-at-test w ↦ absurd (omega (arith, c.if-at-names.true, w.loop-at-test.false))
    ]

pub returns-else-at-names-clause-found : goal.returns-else-at-names-clause-found
returns-else-at-names-clause-found c = none_left _ _ _ c.requires.ascending c.loop-at.invariant c.if-at-names.false _ (search rules)
