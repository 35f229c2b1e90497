use Rattle.std.proofs.Common.{◌≡◌, length, take}
use Rattle.std.specs.Prelude.{All}
use Rattle.hm_lines_cards.specs.Lent.{lent, plain}
use Rattle.hm_vcard.specs.Cards.{IsProperty}
use Rattle.hm_lines_files.specs.Lent.{texts}
use Rattle.hm_vcard.proofs.property.properties.Given as goal

abbrev pub invariant-loop-place : goal.invariant-loop-place
invariant-loop-place l = record {
  counted : length l.found.items ≡ l.place;
  front : plain (lent l.found.items) ≡ take l.place (texts l.lines);
  each : All IsProperty (lent l.found.items);
}
