use Rattle.std.proofs.Common.{List, ◌++◌}
use Rattle.std.specs.List.{AllZip}
use Rattle.hm_schema_lines.specs.Entries.{EntryValue, IsEntry, entry_values}
use Rattle.hm_schema_lines.proofs.entry.read_entries.Given as goal

abbrev pub invariant-loop-line : goal.invariant-loop-line
invariant-loop-line l = (more : List EntryValue) → AllZip IsEntry l.line-iterator more
    → AllZip IsEntry l.initial.line-iterator (entry_values l.entries.items ++ more)
