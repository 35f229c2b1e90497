use Rattle.hm_lines_cards.proofs.Parts.{value_boundary}
use Rattle.hm_lines_cards.proofs.line.value_of.Goals as goal

pub split_at-requires : goal.split_at-requires
split_at-requires c = value_boundary c.args.line.now c.args.parts c.requires c.utf8.line
