use Rattle.std.proofs.Common.{ap, map}
use Rattle.hm_changes.proofs.Adding.{all_added}
use Rattle.hm_changes.proofs.walk.changes_of.Goals as goal

pub returns : goal.returns
returns c = all_added _ _ _ _ _ (ap (map (λ n. n.now)) c.new-here.ensures.items) c.new-changes.ensures.items c.in_ok-append_changes.ensures.appended
