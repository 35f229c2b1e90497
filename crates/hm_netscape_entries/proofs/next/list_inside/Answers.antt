use Rattle.std.proofs.Common.{false, ◌++◌, ◌∷◌, []}
use Rattle.hm_marks_tokens.specs.Grammar.{contents_symbols}
use Rattle.hm_marks_tokens.specs.Lent.{symbol_seen}
use Rattle.hm_marks_tokens.specs.Symbols as symbols
use Rattle.hm_netscape_entries.proofs.Cut.{symbol_utf8}
use Rattle.hm_netscape_entries.proofs.Nexts.{found}
use Rattle.hm_netscape_entries.proofs.next.list_inside.Goals as goal

pub returns-clause-left : goal.returns-clause-left
returns-clause-left c = λ d rest is.
    (found false c.args.bytes.now (symbol_seen c.in-Some.field-0-0) c.in-Some.rest.now c.in-Some.ensures.symbol symbols.list
    (contents_symbols d ++ symbols.list_end ∷ []) rest is.has).has

pub returns-clause-utf8 : goal.returns-clause-utf8
returns-clause-utf8 c = λ utf8.
    (symbol_utf8 false c.args.bytes.now (symbol_seen c.in-Some.field-0-0) c.in-Some.rest.now c.in-Some.ensures.symbol utf8).1
