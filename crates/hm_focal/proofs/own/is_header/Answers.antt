use Rattle.std.proofs.Common.{sym, ◌∙◌, subst, refl}
use Rattle.hm_schema_lines.specs.Tokens.{Spaced}
use Rattle.hm_schema_lines.proofs.Laws.{spaced_one}
use Rattle.hm_focal.proofs.own.is_header.Goals as goal

pub returns-in-Some : goal.returns-in-Some
returns-in-Some c =
    let tokens = rw c.in-Some.is at c.in_ok-tokens.ensures in (
      λ yes. subst (λ ts. Spaced ts c.args.line.now) (sym c.from.ensures.0 ∙ c.are_header.ensures.0 yes) tokens,
      λ header. c.are_header.ensures.1 (c.from.ensures.0 ∙ spaced_one _ _ c.args.line.now c.args.line.now refl tokens header),
    )
