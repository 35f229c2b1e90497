use Rattle.hm_schema_lines.proofs.Laws.{gap_within}
use Rattle.hm_focal_terms.proofs.front.unspaced.Goals as goal

pub behind-requires : goal.behind-requires
behind-requires c = gap_within _ _ c.gap_length.ensures
