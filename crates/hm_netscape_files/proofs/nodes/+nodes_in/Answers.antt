use Rattle.std.proofs.Common.{List, subst, sym, arith, map}
use Rattle.hm_marks_trees.specs.Nodes.{PlainItem, view, contents}
use Rattle.hm_netscape_entries.specs.Next.{entry_seen}
use Rattle.hm_netscape_files.specs.Shown.{shown_of}
use Rattle.hm_marks_tokens.proofs.Unambiguous.{ended}
use Rattle.hm_netscape_files.proofs.ShownSoFar.{IsShown, shown_end, shown_link, shown_separator, shown_folder, past_shown}
use Rattle.hm_netscape_files.proofs.nodes.+nodes_in.Goals as goal

pub returns-in-End-clause-nodes : goal.returns-in-End-clause-nodes
returns-in-End-clause-nodes t c = λ d more rest left.
    let is = c.loop-nodes.invariant.reads d more rest left in
    shown_end (shown_of d) (map view c.loop-nodes.nodes.items) c.next_entry.result.1.now more rest is.contents is.shown
    (rw c.in-End.is at (c.next_entry.ensures.next is.contents more rest is.left))

pub loop-nodes-preserved-in-Continue-1 : goal.loop-nodes-preserved-in-Continue-1
loop-nodes-preserved-in-Continue-1 t c = record {
  utf8 = (c.next_entry.ensures.utf8 c.loop-nodes.invariant.utf8).1;
  reads = λ d more rest left.
      let is = c.loop-nodes.invariant.reads d more rest left in
      subst (λ (items : List PlainItem). IsShown (shown_of d) items c.next_entry.result.1.now more rest) (sym c.in_ok-add_link-in-Link.ensures)
      (shown_link (shown_of d) (map view c.loop-nodes.nodes.items) c.next_entry.result.1.now more rest
      (entry_seen c.in-Link.attributes c.in-Link.title c.in-Link.field-2) is.contents is.shown
      (rw c.in-Link.is at (c.next_entry.ensures.next is.contents more rest is.left)));
  within = omega (arith, c.loop-nodes.invariant.within, c.next_entry.ensures.shorter);
}

pub loop-nodes-preserved-in-Continue-branch-3 : goal.loop-nodes-preserved-in-Continue-branch-3
loop-nodes-preserved-in-Continue-branch-3 t c = record {
  utf8 = c.in_ok-inside-in-Folder.ensures.utf8;
  reads = λ d more rest left.
      let is = c.loop-nodes.invariant.reads d more rest left in
      let items = map view c.loop-nodes.nodes.items in
      let back = c.next_entry.result.1.now in
      let e = entry_seen c.in-Folder.field-0 c.in-Folder.title c.in-Folder.field-2 in
      let f = shown_folder (shown_of d) items back more rest e is.contents is.shown (rw c.in-Folder.is at (c.next_entry.ensures.next is.contents more rest is.left)) in
      let inner = c.in_ok-inside-in-Folder.ensures.nodes f.inside (ended f.behind more) rest f.left in
      subst (λ (items : List PlainItem). IsShown (shown_of d) items c.in_ok-inside-in-Folder.behind.now more rest) (sym c.in_ok-add_folder-in-Folder.ensures)
      (past_shown (shown_of d) items back more rest e f (contents c.in_ok-inside-in-Folder.inside.items) c.in_ok-inside-in-Folder.behind.now inner.0 inner.1);
  within = omega (arith, c.loop-nodes.invariant.within, c.next_entry.ensures.shorter, c.in_ok-inside-in-Folder.ensures.shorter);
}

pub loop-nodes-preserved : goal.loop-nodes-preserved
loop-nodes-preserved t c = record {
  utf8 = (c.next_entry.ensures.utf8 c.loop-nodes.invariant.utf8).1;
  reads = λ d more rest left.
      let is = c.loop-nodes.invariant.reads d more rest left in
      shown_separator (shown_of d) (map view c.loop-nodes.nodes.items) c.next_entry.result.1.now more rest c.in-Separator.field-0.now is.contents is.shown
      (rw c.in-Separator.is at (c.next_entry.ensures.next is.contents more rest is.left));
  within = omega (arith, c.loop-nodes.invariant.within, c.next_entry.ensures.shorter);
}
