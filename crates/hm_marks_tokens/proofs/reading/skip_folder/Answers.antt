use Rattle.std.proofs.Common.{◌+◌, Bool, sym, subst, arith}
use Rattle.hm_marks_tokens.specs.Lent.{symbol_seen, state_seen}
use Rattle.hm_marks_tokens.specs.Symbols.{IsNextSymbol}
use Rattle.hm_marks_tokens.proofs.Steps.{has_more, has_folder}
use Rattle.hm_marks_tokens.proofs.reading.skip_folder.Goals as goal

pub returns-then-is_over-clause-folder : goal.returns-then-is_over-clause-folder
returns-then-is_over-clause-folder c =
    has_folder c.args.bytes.now (c.loop-symbol.number + 1) (state_seen c.in-Some-step.next) c.in-Some.behind.now
    (has_more c.args.bytes.now c.loop-symbol.number (state_seen c.loop-symbol.state) c.loop-symbol.rest.now c.loop-symbol.invariant.read
    (symbol_seen c.in-Some.symbol) c.in-Some.behind.now
    (subst (λ (b : Bool). IsNextSymbol b c.loop-symbol.rest.now (symbol_seen c.in-Some.symbol) c.in-Some.behind.now) c.in_title.ensures c.in-Some.ensures.symbol)
    (state_seen c.in-Some-step.next) (sym c.in-Some-step.ensures.value))
    (c.is_over.ensures.0 c.if-is_over.true)

pub loop-symbol-preserved : goal.loop-symbol-preserved
loop-symbol-preserved c = record {
  read =
      has_more c.args.bytes.now c.loop-symbol.number (state_seen c.loop-symbol.state) c.loop-symbol.rest.now c.loop-symbol.invariant.read
      (symbol_seen c.in-Some.symbol) c.in-Some.behind.now
      (subst (λ (b : Bool). IsNextSymbol b c.loop-symbol.rest.now (symbol_seen c.in-Some.symbol) c.in-Some.behind.now) c.in_title.ensures c.in-Some.ensures.symbol)
      (state_seen c.in-Some-step.next) (sym c.in-Some-step.ensures.value);
  goes = λ is. let t = c.is_over.ensures.1 is in let bad : ⊥ = cc in bad;
  few = omega (arith, c.loop-symbol.invariant.few, c.in-Some-step.ensures.few);
  room = omega (arith, c.loop-symbol.invariant.room, c.in-Some.ensures.shorter);
}
