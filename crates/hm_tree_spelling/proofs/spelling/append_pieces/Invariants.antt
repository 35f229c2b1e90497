use Rattle.std.proofs.Common.{◌≡◌, ◌++◌, ◌∷◌, take}
use Rattle.hm_tree_spelling.specs.Spelling.{escaped}
use Rattle.hm_tree_spelling.proofs.spelling.append_pieces.Given as goal

abbrev pub invariant-loop-byte : goal.invariant-loop-byte
invariant-loop-byte l = l.out.items ≡ l.fn.out.items ++ 34 ∷ (escaped (take l.plain l.bytes) ++ escaped (take l.byte-index l.byte-items))
