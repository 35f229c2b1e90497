use Rattle.std.proofs.Common.{◌≡◌, ◌++◌, take, map, filter}
use Rattle.hm_csv_fields.specs.Cutting.{bytes_of, lent, AreLentUtf8}
use Rattle.hm_csv_fields.specs.Texts.{stays}
use Rattle.hm_csv_fields.proofs.showing.append_staying.Given as goal

abbrev pub invariant-loop-piece : goal.invariant-loop-piece
invariant-loop-piece l = record {
  added : lent l.new.items ≡ lent l.initial.new.items ++ filter (stays l.set) (map bytes_of (take l.piece-index l.pieces));
  utf8 : AreLentUtf8 l.new.items;
}
