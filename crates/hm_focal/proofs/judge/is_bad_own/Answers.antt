use Rattle.std.proofs.Common.{sym, subst}
use Rattle.std.specs.Prelude.{IsTrue, ◌↔◌}
use Rattle.hm_schema_lines.specs.Judging.{lines_of}
use Rattle.hm_focal.specs.declared.own.Own.{Own}
use Rattle.hm_focal.specs.declared.own.LensLine.{LensLine}
use Rattle.hm_focal.specs.OwnLines.{own_value, lens_value}
use Rattle.hm_focal.specs.Judging.{IsBadLens, IsBadOwn}
use Rattle.hm_focal.proofs.judge.is_bad_own.Goals as goal

pub returns-in-Lens : goal.returns-in-Lens
returns-in-Lens c =
    subst (λ (z : Own). IsTrue c.is_bad_lens.result ↔ IsBadOwn (lines_of c.args.line.now) c.args.lenses.now c.args.before (own_value z)) (sym c.in-Lens.is)
    (subst (λ (z : LensLine). IsTrue c.is_bad_lens.result ↔ IsBadLens (lines_of c.args.line.now) c.args.lenses.now c.args.before (lens_value z)) c.deref.ensures
    c.is_bad_lens.ensures)
