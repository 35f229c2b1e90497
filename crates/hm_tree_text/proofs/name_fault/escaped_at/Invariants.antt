use Rattle.std.proofs.Common.{◌≡◌, ◌<◌, ◌++◌, ℕ, List}
use Rattle.hm_tree_spelling.specs.Spelling.{spelled_byte}
use Rattle.hm_tree_text.proofs.name_fault.escaped_at.Given as goal

abbrev pub invariant-loop-byte : goal.invariant-loop-byte
invariant-loop-byte l = (b : ℕ) (rest : List ℕ) → b < l.byte → ¬ (l.bytes ≡ spelled_byte b ++ rest)
