use Rattle.std.proofs.Common.{◌≡◌, drop}
use Rattle.std.specs.List.{list_all}
use Rattle.hm_format.specs.Options.{is_declared}
use Rattle.hm_format.proofs.keys.are_declared.Given as goal

abbrev pub invariant-loop-name : goal.invariant-loop-name
invariant-loop-name l = list_all (is_declared l.initial.nodes) (drop l.name-index l.names) ≡ list_all (is_declared l.initial.nodes) l.names
