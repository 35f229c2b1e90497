use Rattle.std.proofs.Common.{sym, subst}
use Rattle.hm_types_views.specs.Lists.{IsPart}
use Rattle.hm_types_views.proofs.ListRead.{begins}
use Rattle.hm_types_views.proofs.listing.begins_empty.Goals as goal

pub returns : goal.returns
returns c = begins c.args.shapes.now c.index-shapes-0.result c.is_empty.result c.requires.some c.index-shapes-0.is
    (subst IsPart (sym c.index-shapes-0.is) (c.requires.parts 0 c.index-shapes-0.result c.requires.some)) c.is_empty.ensures
