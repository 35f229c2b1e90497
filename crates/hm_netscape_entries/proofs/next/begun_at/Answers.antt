use Rattle.std.proofs.Common.{false}
use Rattle.hm_marks_tokens.specs.Lent.{symbol_seen}
use Rattle.hm_marks_tokens.specs.Symbols as symbols
use Rattle.hm_netscape_entries.proofs.Cut.{symbol_utf8}
use Rattle.hm_netscape_entries.proofs.Nexts.{no_link, no_heading, link_begins, folder_begins, no_tag, begun_none}
use Rattle.hm_netscape_entries.proofs.next.begun_at.Goals as goal

pub returns-in_err-symbol-clause-next : goal.returns-in_err-symbol-clause-next
returns-in_err-symbol-clause-next c = λ d more ms rest is has. absurd (begun_none c.args.bytes.now more ms rest has c.in_err-symbol.ensures.symbol d is)

pub returns-in-Link-clause-next : goal.returns-in-Link-clause-next
returns-in-Link-clause-next c = λ d more ms rest is has.
    link_begins c.args.bytes.now c.in_ok-symbol.rest.now more ms rest has c.in-Link.attributes.now c.link_at.result (rw c.in-Link.is at c.in_ok-symbol.ensures.symbol)
    c.link_at.ensures.next d is

pub returns-in-Link-clause-utf8 : goal.returns-in-Link-clause-utf8
returns-in-Link-clause-utf8 c = λ utf8.
    let two = symbol_utf8 false c.args.bytes.now (symbols.link c.in-Link.attributes.now) c.in_ok-symbol.rest.now (rw c.in-Link.is at c.in_ok-symbol.ensures.symbol) utf8 in
    c.link_at.ensures.utf8 two.0 two.1

pub returns-in-Heading-clause-next : goal.returns-in-Heading-clause-next
returns-in-Heading-clause-next c = λ d more ms rest is has.
    folder_begins c.args.bytes.now c.in_ok-symbol.rest.now more ms rest has c.in-Heading.attributes.now c.folder_at.result
    (rw c.in-Heading.is at c.in_ok-symbol.ensures.symbol) c.folder_at.ensures.next d is

pub returns-in-Heading-clause-utf8 : goal.returns-in-Heading-clause-utf8
returns-in-Heading-clause-utf8 c = λ utf8.
    let two = symbol_utf8 false c.args.bytes.now (symbols.heading c.in-Heading.attributes.now) c.in_ok-symbol.rest.now (rw c.in-Heading.is at c.in_ok-symbol.ensures.symbol) utf8 in
    c.folder_at.ensures.utf8 two.0 two.1

pub returns-in_default : goal.returns-in_default
returns-in_default c = record {
  next = λ d more ms rest is has.
      no_tag c.args.bytes.now c.in_ok-symbol.rest.now more ms rest has (symbol_seen c.in_ok-symbol.symbol) c.in_ok-symbol.ensures.symbol
      (no_link c.in_ok-symbol.symbol c.in_default.not-Link) (no_heading c.in_ok-symbol.symbol c.in_default.not-Heading) d is;
  utf8 = λ utf8. tt;
  shorter = tt;
}
