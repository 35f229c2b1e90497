use Rattle.std.proofs.Common.{option_copied, take}
use Rattle.std.specs.List.{All}
use Rattle.hm_certify.specs.Standing.{archive_or_none}
use Rattle.hm_certify.specs.Carrying.{IsJudged}
use Rattle.hm_certify.proofs.carried.all_judged.Given as goal

abbrev pub invariant-loop-name : goal.invariant-loop-name
invariant-loop-name l = All (IsJudged (archive_or_none (option_copied l.archive)) l.mine l.other l.names) (take l.name-index l.list)
