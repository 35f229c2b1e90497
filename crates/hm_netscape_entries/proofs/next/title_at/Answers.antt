use Rattle.std.proofs.Common.{true}
use Rattle.std.proofs.lemmas.Str.{IsUtf8-nil}
use Rattle.hm_marks_tokens.specs.Lent.{symbol_seen}
use Rattle.hm_marks_tokens.specs.Symbols as symbols
use Rattle.hm_netscape_entries.proofs.Cut.{symbol_utf8}
use Rattle.hm_netscape_entries.proofs.Nexts.{no_text, title_here, title_cut, title_absent}
use Rattle.hm_netscape_entries.proofs.next.title_at.Goals as goal

pub returns-in_err-rest-in-Words-clause-title : goal.returns-in_err-rest-in-Words-clause-title
returns-in_err-rest-in-Words-clause-title c = λ title m more rest ends has.
    absurd (title_cut c.args.bytes.now m more rest ends c.in-Words.title.now c.in_ok-symbol.rest.now (rw c.in-Words.is at c.in_ok-symbol.ensures.symbol)
    c.in_err-rest-in-Words.ensures.symbol title has)

pub returns-in_ok-rest-in-Words-clause-title : goal.returns-in_ok-rest-in-Words-clause-title
returns-in_ok-rest-in-Words-clause-title c = λ title m more rest ends has.
    title_here c.args.bytes.now m more rest ends c.in-Words.title.now c.in_ok-symbol.rest.now (rw c.in-Words.is at c.in_ok-symbol.ensures.symbol)
    (symbol_seen c.in_ok-rest-in-Words.field-0-0) c.in_ok-rest-in-Words.rest.now c.in_ok-rest-in-Words.ensures.symbol title has

pub returns-in_ok-rest-in-Words-clause-utf8 : goal.returns-in_ok-rest-in-Words-clause-utf8
returns-in_ok-rest-in-Words-clause-utf8 c = λ utf8.
    let words = symbol_utf8 true c.args.bytes.now (symbols.words c.in-Words.title.now) c.in_ok-symbol.rest.now (rw c.in-Words.is at c.in_ok-symbol.ensures.symbol) utf8 in
    let last = symbol_utf8 true c.in_ok-symbol.rest.now (symbol_seen c.in_ok-rest-in-Words.field-0-0) c.in_ok-rest-in-Words.rest.now c.in_ok-rest-in-Words.ensures.symbol words.1 in
    (words.0, last.1)

pub returns-in_default : goal.returns-in_default
returns-in_default c = record {
  title = λ title m more rest ends has.
      title_absent c.args.bytes.now m more rest ends (symbol_seen c.in_ok-symbol.symbol) c.in_ok-symbol.rest.now c.in_ok-symbol.ensures.symbol
      (no_text c.in_ok-symbol.symbol c.in_default.not-Words) title has;
  utf8 = λ utf8. (IsUtf8-nil, (symbol_utf8 true c.args.bytes.now (symbol_seen c.in_ok-symbol.symbol) c.in_ok-symbol.rest.now c.in_ok-symbol.ensures.symbol utf8).1);
  shorter = c.in_ok-symbol.ensures.shorter;
}
