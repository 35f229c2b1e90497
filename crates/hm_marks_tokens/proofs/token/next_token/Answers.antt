use Rattle.std.proofs.Common.{not, subst, sym, ◌∙◌, ap, ◌≤◌, length}
use Rattle.std.specs.Bool.{◌==◌}
use Rattle.std.proofs.lemmas.Bool.{ne_eqb}
use Rattle.std.proofs.lemmas.List.Sums.{prefix_len-le-length}
use Rattle.hm_marks_tokens.specs.Bytes.{less}
use Rattle.hm_marks_tokens.specs.Tokens.{text, begins_tag}
use Rattle.hm_marks_tokens.proofs.NextTokens.{text_next, next_shorter}
use Rattle.hm_marks_tokens.proofs.token.next_token.Goals as goal

pub split_at-requires : goal.split_at-requires
split_at-requires c = subst (λ n. n ≤ length c.args.bytes.now) (sym c.len_before.ensures) (prefix_len-le-length (λ b. not (b == less)) c.args.bytes.now)

pub returns-clause-token : goal.returns-clause-token
returns-clause-token c =
    text_next c.args.bytes.now c.split_at.result.0.now c.split_at.result.1.now c.split_at.ensures.by_index.0 (c.split_at.ensures.front_len ∙ c.len_before.ensures)
    (ap begins_tag c.in-Some.ensures.cases.0 ∙ ne_eqb c.in-Some.first.now 60 c.if-first-eq60.false)

pub returns-clause-shorter : goal.returns-clause-shorter
returns-clause-shorter c = next_shorter c.args.bytes.now (text c.split_at.result.0.now) c.split_at.result.1.now (returns-clause-token c)
