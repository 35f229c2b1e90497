use Rattle.std.proofs.Common.{◌≡◌, length}
use Rattle.hm_schema.specs.Numbering.{IsNumbering}
use Rattle.hm_schema.specs.Labels.{label_cmp}
use Rattle.hm_types_table.specs.Classes.{AreOutlines}
use Rattle.hm_types_table.proofs.graph.outlines_of.Given as goal

abbrev pub invariant-loop-place : goal.invariant-loop-place
invariant-loop-place l = record {
  size : length l.outlines.items ≡ l.place;
  outlines : AreOutlines l.numbers l.nodes l.outlines.items;
  numbering : IsNumbering label_cmp l.numbers;
}
