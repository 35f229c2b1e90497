use Rattle.std.proofs.Common.{◌≡◌, ◌++◌, drop, false}
use Rattle.std.specs.List.{filter}
use Rattle.hm_tree.specs.Cleaned.{is_kept}
use Rattle.hm_tree.proofs.LineEnds.{line_ends}
use Rattle.hm_tree.proofs.cleaning.clean_bytes.Given as goal

abbrev pub invariant-loop-byte : goal.invariant-loop-byte
invariant-loop-byte l = l.kept.items ++ filter is_kept (line_ends l.behind_return (drop l.byte-index l.bytes)) ≡ filter is_kept
    (line_ends false l.bytes)
