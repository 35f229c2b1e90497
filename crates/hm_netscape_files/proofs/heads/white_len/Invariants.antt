use Rattle.std.proofs.Common.{◌≡◌, ◌+◌, drop}
use Rattle.hm_marks_tokens.specs.Attributes.{white_len}
use Rattle.hm_netscape_files.proofs.heads.white_len.Given as goal

abbrev pub invariant-loop-place : goal.invariant-loop-place
invariant-loop-place l = l.place + white_len (drop l.place l.bytes) ≡ white_len l.bytes
