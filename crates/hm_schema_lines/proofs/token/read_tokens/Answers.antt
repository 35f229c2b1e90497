use Rattle.std.proofs.Common.{arith}
use Rattle.std.proofs.lemmas.List.{drop_all}
use Rattle.hm_schema_lines.proofs.Tokens.{no_token, last_read, step_none, step_on, gap_within}
use Rattle.hm_schema_lines.proofs.token.read_tokens.Goals as goal

pub returns-in_default : goal.returns-in_default
returns-in_default c = no_token _ _ _ c.loop-tokens.invariant (rw c.in_default.is at c.in_ok-token.ensures)

pub returns-then-length-rest : goal.returns-then-length-rest
returns-then-length-rest c =
    let f = rw c.in-Some.is at c.in_ok-token.ensures in
    rw c.in_ok-push.ensures.items (last_read c.loop-tokens.rest.now c.in-Some.token c.in-Some.length f.0 f.2 f.3 _ _ c.loop-tokens.invariant
    (drop_all c.in-Some.length c.loop-tokens.rest.now (omega (arith, c.if-length-rest.true))))

pub returns-then-gap-eq0 : goal.returns-then-gap-eq0
returns-then-gap-eq0 c =
    step_none _ _ _ c.loop-tokens.invariant _ _ (rw c.in-Some.is at c.in_ok-token.ensures) _ c.behind-tail.ensures _ c.gap_length-gap.ensures
    c.if-gap-eq0.true c.if-length-rest.false

pub behind-rest-requires : goal.behind-rest-requires
behind-rest-requires c = gap_within _ _ c.gap_length-gap.ensures

pub loop-tokens-preserved : goal.loop-tokens-preserved
loop-tokens-preserved c =
    step_on _ _ _ c.loop-tokens.invariant _ _ (rw c.in-Some.is at c.in_ok-token.ensures) _ c.behind-tail.ensures _ c.gap_length-gap.ensures
    c.if-gap-eq0.false _ c.behind-rest.ensures _ c.in_ok-push.ensures.items
