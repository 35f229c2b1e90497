use Rattle.hm_marks_tokens.specs.Lent.{symbol_seen}
use Rattle.hm_marks_tokens.specs.Symbols as symbols
use Rattle.std.proofs.lemmas.Str.{IsUtf8-nil}
use Rattle.std.proofs.Common.{arith, false}
use Rattle.hm_netscape_entries.proofs.Cut.{symbol_utf8}
use Rattle.hm_netscape_entries.proofs.Nexts.{no_text, text_here, text_absent}
use Rattle.hm_netscape_entries.proofs.next.words_at.Goals as goal

pub returns-in-Words-clause-words : goal.returns-in-Words-clause-words
returns-in-Words-clause-words c = λ w m more rest other has.
    text_here c.args.bytes.now m more rest other c.in-Words.words.now c.in-Some.rest.now (rw c.in-Words.is at c.in-Some.ensures.symbol) w has

pub returns-in-Words-clause-utf8 : goal.returns-in-Words-clause-utf8
returns-in-Words-clause-utf8 c = λ utf8. symbol_utf8 false c.args.bytes.now (symbols.words c.in-Words.words.now) c.in-Some.rest.now (rw c.in-Words.is at c.in-Some.ensures.symbol) utf8

pub returns-in_default-symbol : goal.returns-in_default-symbol
returns-in_default-symbol c = record {
  words = λ w m more rest other has.
      text_absent c.args.bytes.now m more rest other (symbol_seen c.in-Some.symbol) c.in-Some.rest.now c.in-Some.ensures.symbol
      (no_text c.in-Some.symbol c.in_default-symbol.not-Words) w has;
  utf8 = λ utf8. (IsUtf8-nil, utf8);
  shorter = omega arith;
}
