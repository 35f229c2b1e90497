use Rattle.std.proofs.Common.{◌≡◌, ◌++◌, take}
use Rattle.hm_csv_fields.specs.Pieces.{spelled}
use Rattle.hm_csv_fields.proofs.writing.append_spelled.Given as goal

abbrev pub invariant-loop-byte : goal.invariant-loop-byte
invariant-loop-byte l = l.made.items ≡ l.initial.made.items ++ spelled (take l.byte-index l.piece)
