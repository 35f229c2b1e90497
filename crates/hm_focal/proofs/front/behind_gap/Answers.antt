use Rattle.hm_schema_lines.proofs.Laws.{gap_within}
use Rattle.hm_focal.proofs.Fronts.{gap_is}
use Rattle.hm_focal.proofs.front.behind_gap.Goals as goal

pub behind-requires : goal.behind-requires
behind-requires c = gap_within _ _ c.gap_length-length.ensures

pub returns : goal.returns
returns c = gap_is _ _ c.gap_length-length.ensures c.if-length-eq0.false _ c.behind.ensures
