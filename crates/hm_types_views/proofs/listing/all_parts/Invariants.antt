use Rattle.std.proofs.Common.{All, take}
use Rattle.hm_types_views.specs.Lists.{IsPart}
use Rattle.hm_types_views.proofs.listing.all_parts.Given as goal

abbrev pub invariant-loop-shape : goal.invariant-loop-shape
invariant-loop-shape l = All IsPart (take l.shape-index l.shapes)
