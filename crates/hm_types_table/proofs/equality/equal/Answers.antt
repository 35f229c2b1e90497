use Rattle.std.proofs.Common.{refl, sym, ◌∙◌}
use mathlib.Core.Bool.{false≢true}
use Rattle.hm_types_table.proofs.EqualNodes.{equal_same, from_parts, ends_of, kinds_of}
use Rattle.hm_types_table.proofs.equality.equal.Goals as goal

pub returns-then-not-same : goal.returns-then-not-same
returns-then-not-same c = (
  λ t. absurd (false≢true t),
  λ e. c.if-not-same.ensures.1 (equal_same c.args.table.now c.args.one c.args.two e),
)

pub returns-then-lead_alike : goal.returns-then-lead_alike
returns-then-lead_alike c = (
  λ t. from_parts c.args.table.now c.args.one c.args.two c.at.result.0.now c.at-2.result.0.now c.at.result.1.now c.at-2.result.1.now
      c.at.ensures.node c.at-2.ensures.node (c.if-lead_alike.ensures.0 refl) (c.are_alike.ensures.0 t),
  λ e. c.are_alike.ensures.1 (kinds_of c.args.table.now c.args.one c.args.two c.at.result.0.now c.at-2.result.0.now c.at.result.1.now c.at-2.result.1.now
      c.at.ensures.node c.at-2.ensures.node c.at.ensures.count c.at-2.ensures.count e),
)

pub returns-else-lead_alike : goal.returns-else-lead_alike
returns-else-lead_alike c = (
  λ t. absurd (false≢true (sym c.if-lead_alike.false ∙ t)),
  λ e. c.lead_alike.ensures.1 (ends_of c.args.table.now c.args.one c.args.two c.at.result.0.now c.at-2.result.0.now c.at.result.1.now c.at-2.result.1.now
      c.at.ensures.node c.at-2.ensures.node c.at.ensures.count c.at-2.ensures.count e),
)
