use Rattle.std.proofs.Common.{◌≡◌, ◌+◌, ◌*◌, ◌++◌, map, take}
use Rattle.hm_terms.specs.Programs.{lens_of, lenses_of}
use Rattle.hm_types_rules.specs.Faults.{size_of, size_of_all}
use Rattle.hm_types_rules.specs.Texts.{HaveTexts}
use Rattle.hm_types_terms.specs.Numbers.{parts_of_all}
use Rattle.hm_types_terms.specs.Parts.{part_of}
use Rattle.hm_types_terms.proofs.part.+parts.Given as goal

abbrev pub decreases-push_parts : goal.decreases-push_parts
decreases-push_parts l = 4 * size_of (lens_of l.term.now) + 2

abbrev pub decreases-push_inside : goal.decreases-push_inside
decreases-push_inside l = 4 * size_of (lens_of l.term.now) + 1

abbrev pub decreases-push_both : goal.decreases-push_both
decreases-push_both l = 4 * (size_of (lens_of l.first.now) + size_of (lens_of l.second.now)) + 3

abbrev pub decreases-push_rows : goal.decreases-push_rows
decreases-push_rows l = 4 * size_of_all (lenses_of l.rows.now) + 3

-- the lenses of the first rows are there
abbrev pub invariant-push_rows-loop-row : goal.invariant-push_rows-loop-row
invariant-push_rows-loop-row l = record {
  parts : l.parts.items ≡ l.fn.parts.items ++ map part_of (parts_of_all (lenses_of (take l.row-index l.rows)));
  texts : HaveTexts (lenses_of (take l.row-index l.rows));
}
