use Rattle.std.proofs.Common.{◌≡◌, take}
use Rattle.hm_certify.proofs.news.names_behind.Given as goal

abbrev pub invariant-loop-at : goal.invariant-loop-at
invariant-loop-at l = take l.at l.whole ≡ take l.at l.front
