use Rattle.std.proofs.Common.{◌≡◌, false, drop}
use Rattle.hm_csv_fields.specs.Pieces.{pieces_behind}
use Rattle.hm_csv_fields.specs.Cutting.{joined}
use Rattle.hm_csv_fields.proofs.cutting.cut_each.Given as goal

abbrev pub invariant-loop-byte : goal.invariant-loop-byte
invariant-loop-byte l = joined l.cut (drop l.byte-index l.bytes) ≡ pieces_behind false l.bytes
