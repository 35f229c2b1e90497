-- What stands at a path in an archive and two sides.
use Rattle.std.specs.Prelude.{Option, Some, None, option_copied}
use Rattle.hm_tree.specs.Archives.{Archive}
use Rattle.hm_outcome.specs.Trios.{Trio}
use Rattle.hm_certify.specs.declared.standing.Standing.{Standing}

-- where there is no archive it is missing
abbrev pub archive_or_none : Option Archive → Archive
archive_or_none None = None
archive_or_none (Some o) = o

abbrev pub trio_of : Standing → Trio
trio_of s = record { archive = archive_or_none (option_copied s.archive); left = option_copied s.left; right = option_copied s.right }
