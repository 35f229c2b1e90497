use Rattle.std.proofs.Common.{arith}
use Rattle.hm_changes_report.specs.Text.{place_text}
use Rattle.hm_changes_report.proofs.Places.{all_put}
use Rattle.hm_changes_report.proofs.text.put_alike.Goals as goal

pub returns : goal.returns
returns c = all_put _ _ _ _ c.args.alike.now.names c.loop-name.name-index (place_text c.args.view.now c.args.alike.now.parent)
    c.names-name-items.ensures.ascending c.names-name-items.ensures.same c.loop-name-test.false c.loop-name.invariant c.in_ok-push.ensures.items
