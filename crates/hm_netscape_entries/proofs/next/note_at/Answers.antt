use Rattle.std.proofs.Common.{arith, false}
use Rattle.hm_marks_tokens.specs.Lent.{symbol_seen}
use Rattle.hm_marks_tokens.specs.Symbols as symbols
use Rattle.hm_netscape_entries.proofs.Cut.{symbol_utf8}
use Rattle.hm_netscape_entries.proofs.Nexts.{no_note, note_here, note_absent}
use Rattle.hm_netscape_entries.proofs.next.note_at.Goals as goal

pub returns-in-Note-clause-note : goal.returns-in-Note-clause-note
returns-in-Note-clause-note c = λ note m more rest other has.
    note_here c.args.bytes.now m more rest other c.in-Some.rest.now (rw c.in-Note.is at c.in-Some.ensures.symbol) c.words_at.result.0.now
    c.words_at.result.1.now (λ w h. c.words_at.ensures.words w m more rest other.1 h) note has

pub returns-in-Note-clause-utf8 : goal.returns-in-Note-clause-utf8
returns-in-Note-clause-utf8 c = λ utf8.
    c.words_at.ensures.utf8 (symbol_utf8 false c.args.bytes.now symbols.note c.in-Some.rest.now (rw c.in-Note.is at c.in-Some.ensures.symbol) utf8).1

pub returns-in_default-symbol : goal.returns-in_default-symbol
returns-in_default-symbol c = record {
  note = λ note m more rest other has.
      note_absent c.args.bytes.now m more rest other (symbol_seen c.in-Some.symbol) c.in-Some.rest.now c.in-Some.ensures.symbol
      (no_note c.in-Some.symbol c.in_default-symbol.not-Note) note has;
  utf8 = λ utf8. (tt, utf8);
  shorter = omega arith;
}
