use Rattle.std.proofs.Common.{◌≡◌, take}
use Rattle.hm_csv_fields.specs.Pieces.{written}
use Rattle.hm_csv_fields.specs.Cutting.{lent}
use Rattle.hm_csv_fields.proofs.writing.write_pieces.Given as goal

abbrev pub invariant-loop-place : goal.invariant-loop-place
invariant-loop-place l = l.made.items ≡ written (take l.place (lent l.pieces))
