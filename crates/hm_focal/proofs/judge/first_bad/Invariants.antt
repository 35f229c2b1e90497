use Rattle.std.proofs.Common.{◌≡◌, ℕ, ◌<◌, take, count_by}
use Rattle.hm_schema_lines.specs.Entries.{entry_values}
use Rattle.hm_schema_lines.specs.BadLines.{around}
use Rattle.hm_schema_lines.specs.Sections.{IsSection}
use Rattle.hm_schema_lines.specs.Counting.{IsBefore}
use Rattle.hm_focal.specs.OwnLines.{own_values, is_lens}
use Rattle.hm_focal.specs.BadLines.{IsBadLine}
use Rattle.hm_focal.proofs.judge.first_bad.Given as goal

abbrev pub invariant-loop-place : goal.invariant-loop-place
invariant-loop-place l = record {
  before : IsBefore (entry_values l.entries) l.place l.before;
  section : IsSection (around (entry_values l.entries) l.place) l.section;
  lenses : l.lenses_before ≡ count_by is_lens (take l.place (own_values l.own));
  good : (j : ℕ) → j < l.place → ¬ (IsBadLine (entry_values l.entries) (own_values l.own) j);
}
