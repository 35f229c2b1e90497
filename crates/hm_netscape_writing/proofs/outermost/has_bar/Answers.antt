use Rattle.std.proofs.Common.{◌∷◌, ◌++◌, sym, ◌∙◌}
use Rattle.hm_marks_tokens.specs.Symbols as symbols
use Rattle.hm_marks_tokens.specs.Grammar.{contents_symbols}
use Rattle.hm_netscape_entries.specs.Next.{entry_seen}
use Rattle.hm_netscape_writing.proofs.BarLeft.{bar_behind, bar_passed}
use Rattle.hm_netscape_writing.proofs.Staying.{folder_next}
use Rattle.hm_netscape_writing.proofs.outermost.has_bar.Goals as goal

pub nesting_in-requires : goal.nesting_in-requires
nesting_in-requires c =
    let r = c.requires in
    let is = c.loop-attributes.invariant r.0 r.1.0 r.1.1.0 r.1.1.1 in
    let e = entry_seen c.in-Folder.attributes c.in-Folder.field-1 c.in-Folder.field-2 in
    let f = folder_next is.after e c.next_entry.result.1.now r.1.0 r.1.1.0 (rw c.in-Folder.is at (c.next_entry.ensures.next is.after r.1.0 r.1.1.0 is.left)) in
    (f.inside, (contents_symbols f.behind ++ symbols.list_end ∷ r.1.0, (r.1.1.0, f.left)))

pub loop-attributes-preserved-in-Folder : goal.loop-attributes-preserved-in-Folder
loop-attributes-preserved-in-Folder c = λ all more rest left.
    let is = c.loop-attributes.invariant all more rest left in
    let e = entry_seen c.in-Folder.attributes c.in-Folder.field-1 c.in-Folder.field-2 in
    let back = c.next_entry.result.1.now in
    let f = folder_next is.after e back more rest (rw c.in-Folder.is at (c.next_entry.ensures.next is.after more rest is.left)) in
    bar_behind all c.loop-attributes.rest.now back more rest is e f (sym c.is_toolbar.ensures ∙ c.if-is_toolbar.false) c.nesting_in.result.1.now
    (c.nesting_in.ensures.nesting f.inside (contents_symbols f.behind ++ symbols.list_end ∷ more) rest f.left).1

pub loop-attributes-preserved : goal.loop-attributes-preserved
loop-attributes-preserved c = λ all more rest left.
    let is = c.loop-attributes.invariant all more rest left in
    bar_passed all c.loop-attributes.rest.now c.next_entry.result.1.now more rest is c.next_entry.result.0 c.in_default.not-End c.in_default.not-Folder
    (c.next_entry.ensures.next is.after more rest is.left)
