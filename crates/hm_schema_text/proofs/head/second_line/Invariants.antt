use Rattle.std.proofs.Common.{◌≡◌, ◌≤◌}
use Rattle.hm_schema_lines.specs.Entries.{entry_values}
use Rattle.hm_schema_lines.specs.BadLines.{lines_before}
use Rattle.hm_schema_text.proofs.head.second_line.Given as goal

abbrev pub invariant-loop-place : goal.invariant-loop-place
invariant-loop-place l = record {
  lines : l.lines ≡ lines_before (entry_values l.entries) l.place;
  few : l.lines ≤ 1;
}
