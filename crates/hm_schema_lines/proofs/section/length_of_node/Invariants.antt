use Rattle.std.proofs.Common.{◌≡◌, ◌+◌, ◌-◌, ◌≤◌, length, drop, not}
use Rattle.std.specs.List.{prefix_len}
use Rattle.hm_schema_lines.specs.Entries.{entry_value}
use Rattle.hm_schema_lines.specs.BadLines.{begins_node}
use Rattle.hm_schema_lines.proofs.section.length_of_node.Given as goal

abbrev pub invariant-loop-length : goal.invariant-loop-length
invariant-loop-length l = record {
  within : l.length ≤ length l.entries;
  same : prefix_len (λ e. not (begins_node (entry_value e))) l.entries ≡ l.length + prefix_len (λ e. not (begins_node (entry_value e)))
      (drop l.length l.entries);
}

abbrev pub decreases-loop-length : goal.decreases-loop-length
decreases-loop-length l = length l.entries - l.length
