use Rattle.std.proofs.Common.{sym, ◌∙◌}
use Rattle.hm_ical.proofs.LineKinds.{no_kind, barred_no}
use Rattle.hm_ical.proofs.line.kind_of.Goals as goal
use Rattle.hm_ical.proofs.line.kind_of.Goals.{in_default-parts-via-in-Some-parts+else-not-is_barred, in_default-parts-via-in_default-parts}

pub returns-in_default-parts : goal.returns-in_default-parts
returns-in_default-parts c = λ kind is.
    elim c.in_default-parts.branch [
      | in_default-parts-via-in-Some-parts+else-not-is_barred w ↦
          no_kind c.args.line.now c.in_default.ensures c.in_default-behind.ensures (barred_no c.args.line.now w.in-Some-parts.parts w.in-Some-parts.ensures.parts (sym w.is_barred.ensures ∙ w.if-not-is_barred.false)) kind is
      | in_default-parts-via-in_default-parts w ↦
          no_kind c.args.line.now c.in_default.ensures c.in_default-behind.ensures (λ parts p. w.in_default-parts.ensures.parts parts p.content) kind is
    ]
