use Rattle.std.proofs.Common.{refl}
use Rattle.std.proofs.lemmas.Result.{IfOk-weaker}
use Rattle.hm_changes_report.specs.Text.{side_with}
use Rattle.hm_run_changes.proofs.tell.tell_views.Goals as goal

pub returns : goal.returns
returns c = IfOk-weaker c.output_of.result _ _ (λ output e. record {
  changes = record {
    first = c.args.first;
    view = c.args.left.old.now;
    left = side_with c.deref-3.result.now c.count.result;
    right = side_with c.deref-4.result.now c.count-2.result;
    alike = c.deref-5.result.now;
    conflicts = c.args.conflicts.now;
  };
  of_first = refl;
  of_view = refl;
  of_left = record { changes = rw c.deref-3.ensures.value c.in_ok-left_changes.ensures; entries = c.count.ensures };
  of_right = record { changes = rw c.deref-4.ensures.value c.in_ok-right_changes.ensures; entries = c.count-2.ensures };
  of_alike = rw c.deref-5.ensures.value c.in_ok-alike.ensures;
  of_conflicts = refl;
  is = e;
}) c.output_of.ensures
