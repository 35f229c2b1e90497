use Rattle.std.proofs.Common.{◌≡◌, drop, IsTrue, is_some}
use Rattle.hm_tree.specs.States.{at_path}
use Rattle.hm_tree.proofs.archive.Archive.at.Given as goal

abbrev pub invariant-loop-name : goal.invariant-loop-name
invariant-loop-name l = (at_path l.self l.name-items ≡ at_path l.here (drop l.name-index l.name-items)) × IsTrue (is_some l.here)
