use Rattle.std.proofs.Common.{◌≡◌, ◌++◌, take}
use Rattle.hm_lines_cards.specs.Rewriting.{rewritten_from}
use Rattle.hm_lines_cards.specs.Lent.{lent, all_bytes, plain}
use Rattle.hm_lines_cards.proofs.rewriting.append_old.Given as goal

abbrev pub invariant-loop-place : goal.invariant-loop-place
invariant-loop-place l =
    all_bytes l.new.items ≡ all_bytes l.initial.new.items ++ plain (rewritten_from l.properties l.card (lent l.lines) 0 (take l.place (lent l.lines)))
