use Rattle.std.proofs.Common.{◌≡◌, take}
use Rattle.std.specs.Prelude.{All}
use Rattle.hm_lines_files.specs.Components.{components_of, HasKey, items_of}
use Rattle.hm_lines_files.specs.Lent.{pieces_of}
use Rattle.hm_lines_files.proofs.items.items.Given as goal

abbrev pub invariant-loop-place : goal.invariant-loop-place
invariant-loop-place l = record {
  are : l.items.items ≡ items_of l.key l.shown (components_of (pieces_of (take l.place l.pieces)));
  keyed : All (HasKey l.key) (components_of (pieces_of (take l.place l.pieces)));
}
