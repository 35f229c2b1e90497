use Rattle.std.proofs.Common.{sym, ◌∙◌, ap, ◌&&◌, not, arith}
use Rattle.hm_marks_tokens.specs.Lent.{token_seen}
use Rattle.hm_marks_tokens.specs.Symbols.{is_skipped}
use Rattle.hm_marks_tokens.specs.Lent.{symbol_seen}
use Rattle.hm_marks_tokens.proofs.NextSymbols.{is_here, is_behind, none_behind}
use Rattle.hm_marks_tokens.proofs.symbol.next_symbol.Goals as goal

pub returns-then-not-is_passed-clause-symbol : goal.returns-then-not-is_passed-clause-symbol
returns-then-not-is_passed-clause-symbol c =
    c.loop-token.invariant.found (symbol_seen c.symbol_of-symbol.result) c.in-Some.behind.now
    (is_here c.args.titled c.loop-token.rest.now c.in-Some.behind.now (token_seen c.in-Some.token) c.in-Some.ensures.token (symbol_seen c.symbol_of-symbol.result)
    c.symbol_of-symbol.ensures (sym c.is_passed.ensures ∙ c.if-not-is_passed.true))

pub loop-token-preserved : goal.loop-token-preserved
loop-token-preserved c =
    let passed = ap (λ m. not c.args.titled && is_skipped m) (sym c.symbol_of-symbol.ensures) ∙ sym c.is_passed.ensures ∙ c.if-not-is_passed.false in
    record {
      within = omega (arith, c.in-Some.ensures.shorter);
      found = λ m rest is.
          c.loop-token.invariant.found m rest
          (is_behind c.args.titled c.loop-token.rest.now c.in-Some.behind.now (token_seen c.in-Some.token) c.in-Some.ensures.token passed m rest is);
      none = λ none.
          c.loop-token.invariant.none
          (none_behind c.args.titled c.loop-token.rest.now c.in-Some.behind.now (token_seen c.in-Some.token) c.in-Some.ensures.token passed none);
    }

pub returns-then-not-is_passed-clause-shorter : goal.returns-then-not-is_passed-clause-shorter
returns-then-not-is_passed-clause-shorter c = omega (arith, c.in-Some.ensures.shorter, c.loop-token.invariant.within)
