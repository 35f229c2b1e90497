use Rattle.std.proofs.Common.{false, ◌∷◌, ◌++◌, refl}
use Rattle.hm_marks_tokens.specs.Grammar.{note_symbols}
use Rattle.hm_marks_tokens.specs.Lent.{symbol_seen}
use Rattle.hm_marks_tokens.specs.Symbols as symbols
use Rattle.hm_netscape_entries.specs.Next.{a_folder}
use Rattle.hm_netscape_entries.proofs.Cut.{symbol_utf8}
use Rattle.hm_netscape_entries.proofs.Nexts.{list_clear, found}
use Rattle.hm_netscape_entries.proofs.next.folder_at.Goals as goal

pub returns-clause-next : goal.returns-clause-next
returns-clause-next c = λ title note more rest has.
    let titled = c.in_ok-title.ensures.title title symbols.heading_end (note_symbols note ++ symbols.list ∷ more) rest refl has in
    let noted = c.note_at.ensures.note note symbols.list more rest list_clear titled.1 in (
      λ i. a_folder (record { attributes = c.args.attributes.now; title = titled.0 i; note = noted.0 i }),
      (found false c.note_at.result.1.now (symbol_seen c.in_ok-rest.field-0-0) c.in_ok-rest.rest.now c.in_ok-rest.ensures.symbol symbols.list more rest noted.1).has,
    )

pub returns-clause-utf8 : goal.returns-clause-utf8
returns-clause-utf8 c = λ attributes utf8.
    let titled = c.in_ok-title.ensures.utf8 utf8 in
    let noted = c.note_at.ensures.utf8 titled.1 in (
      record { attributes = attributes; title = titled.0; note = noted.0 },
      (symbol_utf8 false c.note_at.result.1.now (symbol_seen c.in_ok-rest.field-0-0) c.in_ok-rest.rest.now c.in_ok-rest.ensures.symbol noted.1).1,
    )
