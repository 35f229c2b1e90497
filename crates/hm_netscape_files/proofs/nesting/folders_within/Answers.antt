use Rattle.std.proofs.Common.{true, ℕ, sym, ◌∙◌, subst}
use Rattle.hm_netscape_entries.specs.Next.{entry_seen}
use Rattle.hm_netscape_files.specs.Opened.{folders_within}
use Rattle.hm_netscape_files.proofs.Outermost.{IsWithin, left_other, left_folder, in_folder, past_bar, past_folder}
use Rattle.hm_marks_tokens.proofs.Unambiguous.{ended}
use Rattle.hm_netscape_files.proofs.nesting.folders_within.Goals as goal

pub nesting_in-inside-requires : goal.nesting_in-inside-requires
nesting_in-inside-requires c =
    let r = c.requires in
    let whole = folders_within r.0 in
    let l = c.loop-attributes in
    let e = entry_seen c.in-Folder.attributes c.in-Folder.field-1 c.in-Folder.field-2 in
    let back = c.next_entry.result.1.now in
    let is = l.invariant r.0 r.1.0 r.1.1.0 r.1.1.1 in
    in_folder whole l.found l.deepest l.rest.now r.1.0 r.1.1.0 e back
    (left_folder whole l.found l.deepest l.rest.now r.1.0 r.1.1.0 e back is
    (rw c.in-Folder.is at (c.next_entry.ensures.next is.contents r.1.0 r.1.1.0 is.left)))

pub loop-attributes-preserved-then-is_bar : goal.loop-attributes-preserved-then-is_bar
loop-attributes-preserved-then-is_bar c = λ d more rest left.
    let whole = folders_within d in
    let l = c.loop-attributes in
    let e = entry_seen c.in-Folder.attributes c.in-Folder.field-1 c.in-Folder.field-2 in
    let back = c.next_entry.result.1.now in
    let is = l.invariant d more rest left in
    let f = left_folder whole l.found l.deepest l.rest.now more rest e back is (rw c.in-Folder.is at (c.next_entry.ensures.next is.contents more rest is.left)) in
    let inner = c.nesting_in-inside.ensures.nesting f.inside (ended f.behind more) rest f.left in
    subst (λ (n : ℕ). IsWithin whole true n c.nesting_in-inside.result.1.now more rest) (sym c.max-deepest.ensures)
    (past_bar whole l.found l.deepest l.rest.now more rest e back c.nesting_in-inside.result.1.now f c.nesting_in-inside.result.0 inner.0 inner.1
    (sym c.is_bar.ensures ∙ c.if-is_bar.true))

pub loop-attributes-preserved-else-is_bar : goal.loop-attributes-preserved-else-is_bar
loop-attributes-preserved-else-is_bar c = λ d more rest left.
    let whole = folders_within d in
    let l = c.loop-attributes in
    let e = entry_seen c.in-Folder.attributes c.in-Folder.field-1 c.in-Folder.field-2 in
    let back = c.next_entry.result.1.now in
    let is = l.invariant d more rest left in
    let f = left_folder whole l.found l.deepest l.rest.now more rest e back is (rw c.in-Folder.is at (c.next_entry.ensures.next is.contents more rest is.left)) in
    let inner = c.nesting_in-inside.ensures.nesting f.inside (ended f.behind more) rest f.left in
    subst (λ (n : ℕ). IsWithin whole l.found n c.nesting_in-inside.result.1.now more rest) (sym c.max-deepest-else-is_bar.ensures)
    (past_folder whole l.found l.deepest l.rest.now more rest e back c.nesting_in-inside.result.1.now f c.nesting_in-inside.result.0 inner.0 inner.1
    (sym c.is_bar.ensures ∙ c.if-is_bar.false))

pub loop-attributes-preserved : goal.loop-attributes-preserved
loop-attributes-preserved c = λ d more rest left.
    let l = c.loop-attributes in
    let is = l.invariant d more rest left in
    left_other (folders_within d) l.found l.deepest l.rest.now more rest c.next_entry.result.0 c.in_default.not-End c.in_default.not-Folder
    c.next_entry.result.1.now is (c.next_entry.ensures.next is.contents more rest is.left)
