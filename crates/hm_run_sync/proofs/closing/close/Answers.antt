use Rattle.std.proofs.Common.{refl, rules}
use Rattle.hm_run_files.proofs.Steps.{then_go}
use Rattle.hm_run_sync.specs.Verdict.{Closes, new_texts}
use Rattle.hm_run_sides.proofs.Laws.{stopped_seen}
use Rattle.hm_run_sync.proofs.Making.{closed}
use Rattle.hm_run_sync.proofs.closing.close.Goals as goal

pub returns-in_err-left-clause-closes : goal.returns-in_err-left-clause-closes
unfolding Closes
returns-in_err-left-clause-closes g c = λ replicas bases.
    stopped_seen _ _ new_texts c.in_err-left.field-0.0 c.from_residual-in_err-left.result (search rules) (c.in_err-left.ensures replicas.left bases.left)

pub returns-in_err-right-clause-closes : goal.returns-in_err-right-clause-closes
unfolding Closes
returns-in_err-right-clause-closes g c = λ replicas bases.
    then_go _ _ _ _ (c.in_ok-left.ensures replicas.left bases.left).0
    (stopped_seen _ _ new_texts c.in_err-right.field-0.0 c.from_residual-in_err-right.result (search rules) (c.in_err-right.ensures replicas.right bases.right))

pub returns-in_err-fits-clause-closes : goal.returns-in_err-fits-clause-closes
unfolding Closes
returns-in_err-fits-clause-closes g c = λ replicas bases.
    then_go _ _ _ _ (c.in_ok-left.ensures replicas.left bases.left).0 (then_go _ _ _ _ (c.in_ok-right.ensures replicas.right bases.right).0
    (stopped_seen _ _ new_texts c.in_err-fits.field-0.0 c.from_residual-in_err-fits.result (search rules) c.in_err-fits.ensures))

pub returns-clause-closes : goal.returns-clause-closes
returns-clause-closes g c = λ replicas bases. (
  closed _ _ _ _ (record { archive = c.in_ok-archive.archive.items; left = c.in_ok-left.left.items; right = c.in_ok-right.right.items })
      (c.in_ok-left.ensures replicas.left bases.left).0 (c.in_ok-right.ensures replicas.right bases.right).0 c.in_ok-fits.ensures.0 c.in_ok-archive.ensures,
  refl,
)
