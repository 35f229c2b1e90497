use Rattle.std.proofs.Common.{subst, sym, ◌∙◌, ◌≤◌, length}
use Rattle.hm_marks_tokens.proofs.NextTokens.{inside_within, tag_next, none_open, whole_inside}
use Rattle.hm_marks_tokens.proofs.token.next_tag.Goals as goal

pub split_at-requires : goal.split_at-requires
split_at-requires c = subst (λ n. n ≤ length c.args.behind.now) (sym c.inside_len.ensures) (inside_within _ c.args.behind.now)

pub returns-in-None : goal.returns-in-None
returns-in-None c = none_open c.args.behind.now (whole_inside c.args.behind.now c.split_at.result.0.now c.split_at.result.1.now c.split_at.ensures.by_index.0 (c.split_at.ensures.front_len ∙ c.inside_len.ensures) c.in-None.ensures.cases)

pub returns-in-Some : goal.returns-in-Some
returns-in-Some c = tag_next c.args.behind.now c.split_at.result.0.now c.split_at.result.1.now _ c.in-Some.rest.now c.split_at.ensures.by_index.0 (c.split_at.ensures.front_len ∙ c.inside_len.ensures) c.in-Some.ensures.cases.0
