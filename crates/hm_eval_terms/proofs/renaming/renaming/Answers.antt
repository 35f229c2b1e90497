use Rattle.hm_eval_terms.proofs.Renamed.{renaming_is}
use Rattle.hm_eval_terms.proofs.renaming.renaming.Goals as goal

pub returns-in-Hoist-Plunge : goal.returns-in-Hoist-Plunge
returns-in-Hoist-Plunge c =
    renaming_is c.in-Fork.is c.deref.ensures c.deref-2.ensures c.in-Seq-Id.is-0 c.in-Seq-Id.is-1 c.deref-3.ensures c.deref-4.ensures
    c.in-Hoist-Plunge.is-0 c.in-Hoist-Plunge.is-1
