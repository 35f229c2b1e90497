use Rattle.hm_tree.proofs.Classed.{clean_from_kept, kept_from_clean}
use Rattle.hm_tree.proofs.cleaning.is_clean.Goals as goal

pub returns : goal.returns
returns c = (
  λ yes. clean_from_kept c.args.bytes.now (c.keeps_all.ensures.0 yes),
  λ clean. c.keeps_all.ensures.1 (kept_from_clean c.args.bytes.now clean),
)
