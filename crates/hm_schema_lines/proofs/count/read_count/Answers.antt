use Rattle.hm_schema_lines.proofs.Counts.{within, no_dots, no_least, no_most}
use Rattle.hm_schema_lines.proofs.count.read_count.Goals as goal

pub split_at-requires : goal.split_at-requires
split_at-requires c = within _ _ c.digits_length.ensures

pub returns-in_default : goal.returns-in_default
returns-in_default c = no_dots _ _ c.digits_length.ensures _ c.split_at.ensures.back c.in_default.ensures.cases

pub returns-in_default-2 : goal.returns-in_default-2
returns-in_default-2 c = no_least _ _ c.digits_length.ensures _ c.split_at.ensures.front (rw c.in_default-2.is at c.in_ok-least.ensures)

pub returns-in-None : goal.returns-in-None
returns-in-None c = no_most _ _ c.digits_length.ensures _ _ c.split_at.ensures.back c.in-Some.ensures.cases.1
    (rw c.in-None.is at c.in_ok-most.ensures)
