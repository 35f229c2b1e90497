use Rattle.std.proofs.Common.{sym, subst}
use Rattle.hm_schema_lines.specs.Tokens.{Spaced}
use Rattle.hm_schema_text.proofs.Judging.{root_is}
use Rattle.hm_schema_text.proofs.head.read_root.Goals as goal

pub returns-in-Some : goal.returns-in-Some
returns-in-Some c =
    let tokens = rw c.in-Some.is at c.in_ok-tokens.ensures in
    root_is c.args.line.now c.from.result.items (subst (λ ts. Spaced ts c.args.line.now) (sym c.from.ensures.0) tokens) c.behind_root.result
    c.behind_root.ensures
