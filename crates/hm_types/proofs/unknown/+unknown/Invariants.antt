use Rattle.std.proofs.Common.{◌≡◌, ◌+◌, ◌*◌, drop}
use Rattle.hm_terms.specs.Programs.{lens_of, lenses_of}
use Rattle.hm_types_rules.specs.Faults.{size_of, size_of_all}
use Rattle.hm_types_rules.specs.TextNames.{text_names_of}
use Rattle.hm_types_terms.specs.Courses.{classes_of}
use Rattle.hm_types_terms.specs.TextTypes.{first_unknown}
use Rattle.hm_types.proofs.unknown.+unknown.Given as goal

abbrev pub decreases-unknown : goal.decreases-unknown
decreases-unknown l = 4 * size_of (lens_of l.term.now) + 1

abbrev pub decreases-unknown_of_two : goal.decreases-unknown_of_two
decreases-unknown_of_two l = 4 * (size_of (lens_of l.first.now) + size_of (lens_of l.second.now)) + 3

abbrev pub decreases-unknown_of_rows : goal.decreases-unknown_of_rows
decreases-unknown_of_rows l = 4 * size_of_all (lenses_of l.rows.now) + 3

-- none is in the first rows
abbrev pub invariant-unknown_of_rows-loop-row : goal.invariant-unknown_of_rows-loop-row
invariant-unknown_of_rows-loop-row l =
    first_unknown (classes_of l.texts) (text_names_of (lenses_of (drop l.row-index l.rows))) ≡ first_unknown (classes_of l.texts) (text_names_of (lenses_of l.rows))
