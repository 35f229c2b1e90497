use Rattle.std.proofs.Common.{◌+◌, ◌*◌, ◌≤◌, length}
use Rattle.hm_focal_terms.proofs.Pairs.{ArePairsRead}
use Rattle.hm_focal_terms.proofs.reader.+reading.Given as goal

-- what is left grows shorter; on the same bytes a function calls those of lower numbers
abbrev pub decreases-read_behind_sign : goal.decreases-read_behind_sign
decreases-read_behind_sign l = 7 * length l.text.now + 1

abbrev pub decreases-read_in_parentheses : goal.decreases-read_in_parentheses
decreases-read_in_parentheses l = 7 * length l.text.now + 2

abbrev pub decreases-read_two_terms : goal.decreases-read_two_terms
decreases-read_two_terms l = 7 * length l.text.now + 2

abbrev pub decreases-read_fork : goal.decreases-read_fork
decreases-read_fork l = 7 * length l.text.now + 3

abbrev pub decreases-read_by_concrete : goal.decreases-read_by_concrete
decreases-read_by_concrete l = 7 * length l.text.now + 3

abbrev pub decreases-read_by_view : goal.decreases-read_by_view
decreases-read_by_view l = 7 * length l.text.now + 3

abbrev pub decreases-read_each : goal.decreases-read_each
decreases-read_each l = 7 * length l.text.now + 3

abbrev pub decreases-read_form : goal.decreases-read_form
decreases-read_form l = 7 * length l.text.now + 4

abbrev pub decreases-read_part : goal.decreases-read_part
decreases-read_part l = 7 * length l.text.now + 5

abbrev pub decreases-read_sequence : goal.decreases-read_sequence
decreases-read_sequence l = 7 * length l.text.now + 6

abbrev pub invariant-read_each-pairs : goal.invariant-read_each-pairs
invariant-read_each-pairs l = ArePairsRead l.initial.left l.terms.items l.names.items l.sign l.left × (length l.left ≤ length l.initial.left)

abbrev pub decreases-read_each-pairs : goal.decreases-read_each-pairs
decreases-read_each-pairs l = length l.left
