use Rattle.std.proofs.Common.{ap, ◌∙◌}
use Rattle.std.specs.Ordering.{is_eq}
use Rattle.hm_format.proofs.Orders.{text_order}
use Rattle.hm_format.proofs.keys.same_text.Goals as goal

pub returns : goal.returns
returns c = c.is_eq.ensures ∙ ap is_eq (c.cmp.ensures ∙ text_order c.args.one.now c.args.two.now)
