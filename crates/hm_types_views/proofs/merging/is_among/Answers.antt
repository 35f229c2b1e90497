use Rattle.std.proofs.Common.{◌∙◌}
use Rattle.hm_types_views.proofs.MergedShapes.{searched}
use Rattle.hm_types_views.proofs.merging.is_among.Goals as goal

pub returns : goal.returns
returns c = c.is_ok.ensures.value
    ∙ searched c.args.shape.now c.args.others.now c.requires c.binary_search.result c.binary_search.ensures.bound c.binary_search.ensures.position
