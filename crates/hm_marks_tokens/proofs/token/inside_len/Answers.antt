use Rattle.std.proofs.Common.{◌≡◌, ◌+◌, false, length, drop, ap, ◌∙◌, arith}
use Rattle.hm_marks_tokens.specs.Tokens.{inside_len}
use Rattle.hm_marks_tokens.proofs.QuotedRuns.{goes_on, ends}
use Rattle.hm_marks_tokens.proofs.token.inside_len.Goals as goal

pub loop-quoted-preserved : goal.loop-quoted-preserved
loop-quoted-preserved c =
    goes_on c.args.bytes.now c.loop-quoted.rest.now c.split_at.result.1.now c.loop-quoted.invariant
    (c.split_at.ensures.back ∙ ap (λ n. drop n c.loop-quoted.rest.now) c.unquoted_len.ensures.len) c.in-Some.quoted.now c.behind_quote-rest.result.now
    c.in-Some.ensures c.behind_quote-rest.ensures

-- the tag, and what is left
len : (c : goal.In-None) → inside_len false c.args.bytes.now + length c.split_at.result.1.now ≡ length c.args.bytes.now
len c =
    ends c.args.bytes.now c.loop-quoted.rest.now c.split_at.result.1.now c.loop-quoted.invariant
    (c.split_at.ensures.back ∙ ap (λ n. drop n c.loop-quoted.rest.now) c.unquoted_len.ensures.len) c.in-None.ensures

pub overflow_sub-result : goal.overflow_sub-result
overflow_sub-result c = let l = len c in omega (arith, l)

pub returns-in-None : goal.returns-in-None
returns-in-None c = let l = len c in omega (arith, l)
