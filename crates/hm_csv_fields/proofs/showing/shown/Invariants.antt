use Rattle.std.proofs.Common.{◌≡◌, take, map}
use Rattle.hm_csv_fields.specs.Cutting.{bytes_of}
use Rattle.hm_csv_fields.specs.Texts.{shown}
use Rattle.hm_csv_fields.proofs.showing.shown.Given as goal

abbrev pub invariant-loop-piece : goal.invariant-loop-piece
invariant-loop-piece l = l.texts.items ≡ shown (map bytes_of (take l.piece-index l.pieces))
