use Rattle.std.proofs.Common.{sym, subst}
use Rattle.hm_text_kit.specs.WordTables.{IsTable}
use Rattle.hm_text_kit.proofs.YesAndNo.{is_table}
use Rattle.hm_text_kit.proofs.lenses.yes_no.Goals as goal

pub new-requires : goal.new-requires
new-requires c = subst IsTable (sym c.in_ok-yes_no_pairs.ensures) is_table
