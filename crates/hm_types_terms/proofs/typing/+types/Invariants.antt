use Rattle.std.proofs.Common.{◌≡◌, ◌+◌, ◌*◌, take, drop, length, slice_get, Some}
use Rattle.hm_schema.specs.Values.{NodeValue}
use Rattle.hm_terms.specs.Programs.{lens_of, lenses_of}
use Rattle.hm_terms.specs.Lenses.{lens_at}
use Rattle.hm_types_forms.specs.Forms.{named, can_be}
use Rattle.hm_types_rules.specs.Faults.{size_of, size_of_all}
use Rattle.hm_types_terms.specs.Numbers.{StandFrom, parts_of_all}
use Rattle.hm_types_terms.specs.Courses.{scope_of, lenses_in, IsGrown}
use Rattle.hm_types_terms.specs.Below.{AreLed, where_it_can}
use Rattle.hm_types_terms.proofs.typing.+types.Given as goal

abbrev pub decreases-view : goal.decreases-view
decreases-view l = 4 * size_of (lens_of l.term.now) + 1

abbrev pub decreases-anew : goal.decreases-anew
decreases-anew l = 4 * size_of (lens_of l.term.now)

abbrev pub decreases-in_sequence : goal.decreases-in_sequence
decreases-in_sequence l = 4 * (size_of (lens_of l.first.now) + size_of (lens_of l.second.now)) + 3

abbrev pub decreases-both : goal.decreases-both
decreases-both l = 4 * (size_of (lens_of l.terms.now.first.now) + size_of (lens_of l.terms.now.second.now)) + 2

abbrev pub decreases-in_fork : goal.decreases-in_fork
decreases-in_fork l = 4 * (size_of (lens_of l.terms.now.first.now) + size_of (lens_of l.terms.now.second.now)) + 3

abbrev pub decreases-by_concrete : goal.decreases-by_concrete
decreases-by_concrete l = 4 * (size_of (lens_of l.terms.now.first.now) + size_of (lens_of l.terms.now.second.now)) + 3

abbrev pub decreases-by_view : goal.decreases-by_view
decreases-by_view l = 4 * (size_of (lens_of l.terms.now.first.now) + size_of (lens_of l.terms.now.second.now)) + 3

abbrev pub decreases-on_items : goal.decreases-on_items
decreases-on_items l = 4 * size_of (lens_of l.inner.now) + 3

abbrev pub decreases-on_each : goal.decreases-on_each
decreases-on_each l = 4 * size_of (lens_of l.inner.now) + 3

abbrev pub decreases-on_listed : goal.decreases-on_listed
decreases-on_listed l = 4 * size_of (lens_of l.inner.now) + 2

abbrev pub decreases-on_other : goal.decreases-on_other
decreases-on_other l = 4 * size_of (lens_of l.inner.now) + 2

abbrev pub decreases-on_named : goal.decreases-on_named
decreases-on_named l = 4 * size_of_all (lenses_of l.rows.now) + 3

-- the first names are led
abbrev pub invariant-on_each-loop-place : goal.invariant-on_each-loop-place
invariant-on_each-loop-place l = record {
  grown : IsGrown l.course l.fn.table l.table l.memo;
  led : (n : NodeValue) → slice_get l.fn.table l.at.place ≡ Some n
      → AreLed (scope_of l.course) l.fn.table l.table (λ k. where_it_can (can_be n (named k)) (lens_of l.inner)) n.children l.next.items;
  count : length l.next.items ≡ l.place;
}

-- the names of the first rows are led
abbrev pub invariant-on_named-loop-row : goal.invariant-on_named-loop-row
invariant-on_named-loop-row l = record {
  grown : IsGrown l.course l.fn.table l.table l.memo;
  number : l.number ≡ l.fn.number + 1 + size_of_all (lenses_of (take l.row-index l.rows));
  stand : StandFrom (lenses_in l.course) l.number (parts_of_all (lenses_of (drop l.row-index l.rows)));
  led : (n : NodeValue) → slice_get l.fn.table l.at.place ≡ Some n
      → AreLed (scope_of l.course) l.fn.table l.table (λ k. lens_at k (lenses_of (take l.row-index l.rows))) n.children l.next.items;
  count : (n : NodeValue) → slice_get l.fn.table l.at.place ≡ Some n → length l.next.items ≡ length n.children;
}
