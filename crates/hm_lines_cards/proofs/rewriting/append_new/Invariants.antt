use Rattle.std.proofs.Common.{◌≡◌, ◌++◌, take}
use Rattle.std.specs.List.{flat_map}
use Rattle.hm_lines_cards.specs.Rewriting.{lines_for}
use Rattle.hm_lines_cards.specs.Lent.{lent, all_bytes, plain}
use Rattle.hm_lines_cards.proofs.rewriting.append_new.Given as goal

abbrev pub invariant-loop-place : goal.invariant-loop-place
invariant-loop-place l =
    all_bytes l.new.items ≡ all_bytes l.initial.new.items ++ plain (flat_map (lines_for l.card (lent l.lines)) (take l.place l.properties))
