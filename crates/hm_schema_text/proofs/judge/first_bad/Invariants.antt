use Rattle.std.proofs.Common.{ℕ, ◌<◌}
use Rattle.hm_schema_lines.specs.Entries.{entry_values}
use Rattle.hm_schema_lines.specs.BadLines.{around}
use Rattle.hm_schema_lines.specs.Sections.{IsSection}
use Rattle.hm_schema_lines.specs.Counting.{IsBefore}
use Rattle.hm_schema_text.specs.BadLines.{IsBadLine}
use Rattle.hm_schema_text.proofs.judge.first_bad.Given as goal

abbrev pub invariant-loop-place : goal.invariant-loop-place
invariant-loop-place l = record {
  before : IsBefore (entry_values l.entries) l.place l.before;
  section : IsSection (around (entry_values l.entries) l.place) l.section;
  good : (j : ℕ) → j < l.place → ¬ (IsBadLine l.bytes (entry_values l.entries) j);
}
