use Rattle.std.proofs.Common.{◌≡◌, ◌++◌, drop}
use Rattle.hm_schema_writer.specs.Writing.{quoted, behind_spaces}
use Rattle.hm_schema_writer.proofs.writer.put_quoted.Given as goal

abbrev pub invariant-loop-name : goal.invariant-loop-name
invariant-loop-name l = l.text.items ++ behind_spaces (quoted (drop l.name-index l.names)) ≡ l.initial.text.items ++ behind_spaces (quoted l.names)
