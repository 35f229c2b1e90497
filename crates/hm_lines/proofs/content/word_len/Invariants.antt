use Rattle.std.proofs.Common.{◌≡◌, ◌+◌, drop}
use Rattle.std.specs.List.{prefix_len}
use Rattle.hm_lines.specs.Content.{is_of_word}
use Rattle.hm_lines.proofs.content.word_len.Given as goal

abbrev pub invariant-loop-place : goal.invariant-loop-place
invariant-loop-place l = l.place + prefix_len is_of_word (drop l.place l.bytes) ≡ prefix_len is_of_word l.bytes
