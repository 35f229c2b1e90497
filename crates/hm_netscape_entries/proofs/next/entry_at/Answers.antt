use Rattle.std.proofs.Common.{false}
use Rattle.hm_marks_tokens.specs.Lent.{symbol_seen}
use Rattle.hm_marks_tokens.specs.Symbols as symbols
use Rattle.hm_netscape_entries.proofs.Cut.{symbol_utf8}
use Rattle.hm_netscape_entries.proofs.Nexts.{no_end, no_entry, no_rule, end_begins, separator_begins, entry_begins, no_other, left_none}
use Rattle.hm_netscape_entries.proofs.next.entry_at.Goals as goal

pub returns-in_err-symbol-clause-next : goal.returns-in_err-symbol-clause-next
returns-in_err-symbol-clause-next c = λ d more rest left. absurd (left_none c.args.bytes.now more rest c.in_err-symbol.ensures.symbol d left)

pub returns-in-ListEnd-clause-next : goal.returns-in-ListEnd-clause-next
returns-in-ListEnd-clause-next c = λ d more rest left.
    end_begins c.args.bytes.now c.in_ok-symbol.rest.now more rest (rw c.in-ListEnd.is at c.in_ok-symbol.ensures.symbol) d left

pub returns-in-ListEnd-clause-utf8 : goal.returns-in-ListEnd-clause-utf8
returns-in-ListEnd-clause-utf8 c = λ utf8.
    (tt, (symbol_utf8 false c.args.bytes.now symbols.list_end c.in_ok-symbol.rest.now (rw c.in-ListEnd.is at c.in_ok-symbol.ensures.symbol) utf8).1)

pub returns-in-Rule-clause-next : goal.returns-in-Rule-clause-next
returns-in-Rule-clause-next c = λ d more rest left.
    separator_begins c.args.bytes.now c.in_ok-symbol.rest.now more rest c.in-Rule.attributes.now (rw c.in-Rule.is at c.in_ok-symbol.ensures.symbol) d left

pub returns-in-Rule-clause-utf8 : goal.returns-in-Rule-clause-utf8
returns-in-Rule-clause-utf8 c = λ utf8.
    symbol_utf8 false c.args.bytes.now (symbols.rule c.in-Rule.attributes.now) c.in_ok-symbol.rest.now (rw c.in-Rule.is at c.in_ok-symbol.ensures.symbol) utf8

pub returns-in-Entry-clause-next : goal.returns-in-Entry-clause-next
returns-in-Entry-clause-next c = λ d more rest left.
    let begun = entry_begins c.args.bytes.now c.in_ok-symbol.rest.now more rest (rw c.in-Entry.is at c.in_ok-symbol.ensures.symbol) d left in
    c.begun_at.ensures.next d more begun.0 rest begun.1.0 begun.1.1

pub returns-in-Entry-clause-utf8 : goal.returns-in-Entry-clause-utf8
returns-in-Entry-clause-utf8 c = λ utf8.
    c.begun_at.ensures.utf8
    (symbol_utf8 false c.args.bytes.now symbols.entry c.in_ok-symbol.rest.now (rw c.in-Entry.is at c.in_ok-symbol.ensures.symbol) utf8).1

pub returns-in_default : goal.returns-in_default
returns-in_default c = record {
  next = λ d more rest left.
      no_other c.args.bytes.now c.in_ok-symbol.rest.now more rest (symbol_seen c.in_ok-symbol.symbol) c.in_ok-symbol.ensures.symbol
      (no_end c.in_ok-symbol.symbol c.in_default.not-ListEnd) (no_rule c.in_ok-symbol.symbol c.in_default.not-Rule)
      (no_entry c.in_ok-symbol.symbol c.in_default.not-Entry) d left;
  utf8 = λ utf8. tt;
  shorter = tt;
}
