use Rattle.std.proofs.Common.{subst}
use Rattle.std.specs.Prelude.{MatchOption}
use Rattle.hm_lines.specs.declared.content.LineParts.{LineParts}
use Rattle.hm_lines.specs.Content.{IsContentLine}
use Rattle.hm_lines.proofs.ContentLines.{all_between}
use Rattle.hm_lines.proofs.content.parts.Goals as goal

pub returns-clause-parts : goal.returns-clause-parts
returns-clause-parts c =
    subst (λ l. MatchOption c.parts_of.result ((parts : LineParts) → ¬ (IsContentLine l parts)) (IsContentLine l)) c.as_bytes.ensures.value c.parts_of.ensures

pub returns-clause-characters : goal.returns-clause-characters
returns-clause-characters c = all_between c.args.line.now c.parts_of.result c.utf8.line (returns-clause-parts c)
