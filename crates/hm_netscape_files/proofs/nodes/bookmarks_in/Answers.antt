use Rattle.std.proofs.Common.{List, subst, sym, ◌∙◌, map}
use Rattle.std.proofs.lemmas.Bool.{true≢false}
use Rattle.hm_marks_trees.specs.Nodes.{PlainItem, view, contents}
use Rattle.hm_netscape_entries.specs.Next.{entry_seen}
use Rattle.hm_netscape_entries.specs.Toolbars.{bar_of, other_of}
use Rattle.hm_netscape_files.specs.Shown.{shown_of}
use Rattle.hm_marks_tokens.proofs.Unambiguous.{ended}
use Rattle.hm_netscape_files.proofs.ShownSoFar.{AreShown, bar_end, other_end, bar_link, bar_separator, bar_folder, past_bar, past_other}
use Rattle.hm_netscape_files.proofs.nodes.bookmarks_in.Goals as goal

pub returns-in-End-clause-bar : goal.returns-in-End-clause-bar
returns-in-End-clause-bar c = λ d more rest left.
    let is = c.loop-bar.invariant.reads d more rest left in
    bar_end (shown_of (bar_of d)) (shown_of (other_of d)) (contents c.loop-bar.bar.items) (map view c.loop-bar.other.items) c.next_entry.result.1.now more rest
    c.loop-bar.found is.contents c.loop-bar.invariant.none is.bar_is (rw c.in-End.is at (c.next_entry.ensures.next is.contents more rest is.left))

pub returns-in-End-clause-other : goal.returns-in-End-clause-other
returns-in-End-clause-other c = λ d more rest left.
    let is = c.loop-bar.invariant.reads d more rest left in
    other_end (shown_of (bar_of d)) (shown_of (other_of d)) (contents c.loop-bar.bar.items) (map view c.loop-bar.other.items) c.next_entry.result.1.now more rest
    c.loop-bar.found is.contents is.other_is (rw c.in-End.is at (c.next_entry.ensures.next is.contents more rest is.left))

pub loop-bar-preserved-in-Continue-1 : goal.loop-bar-preserved-in-Continue-1
loop-bar-preserved-in-Continue-1 c = record {
  utf8 = (c.next_entry.ensures.utf8 c.loop-bar.invariant.utf8).1;
  reads = λ d more rest left.
      let is = c.loop-bar.invariant.reads d more rest left in
      subst (λ (items : List PlainItem). AreShown (shown_of (bar_of d)) (shown_of (other_of d)) c.loop-bar.found (contents c.loop-bar.bar.items) items
      c.next_entry.result.1.now more rest) (sym c.in_ok-add_link-in-Link.ensures)
      (bar_link (shown_of (bar_of d)) (shown_of (other_of d)) (contents c.loop-bar.bar.items) (map view c.loop-bar.other.items) c.next_entry.result.1.now more rest
      c.loop-bar.found (entry_seen c.in-Link.attributes c.in-Link.title c.in-Link.field-2) is.contents is.bar_is is.other_is
      (rw c.in-Link.is at (c.next_entry.ensures.next is.contents more rest is.left)));
  none = c.loop-bar.invariant.none;
}

pub loop-bar-preserved-then-is_bar : goal.loop-bar-preserved-then-is_bar
loop-bar-preserved-then-is_bar c = record {
  utf8 = c.in_ok-inside-in-Folder.ensures.utf8;
  reads = λ d more rest left.
      let is = c.loop-bar.invariant.reads d more rest left in
      let bar = shown_of (bar_of d) in
      let other = shown_of (other_of d) in
      let now = contents c.loop-bar.bar.items in
      let items = map view c.loop-bar.other.items in
      let back = c.next_entry.result.1.now in
      let e = entry_seen c.in-Folder.attributes c.in-Folder.title c.in-Folder.field-2 in
      let f = bar_folder bar other now items back more rest c.loop-bar.found e is.contents is.bar_is is.other_is
      (rw c.in-Folder.is at (c.next_entry.ensures.next is.contents more rest is.left)) in
      let inner = c.in_ok-inside-in-Folder.ensures.nodes f.inside (ended f.behind more) rest f.left in
      past_bar bar other now items back more rest c.loop-bar.found e f (contents c.in_ok-inside-in-Folder.inside.items) c.in_ok-inside-in-Folder.behind.now
      inner.0 inner.1 (sym c.is_bar.ensures ∙ c.if-is_bar.true);
  none = λ e. absurd (true≢false e);
}

pub loop-bar-preserved-in-Continue-branch-3 : goal.loop-bar-preserved-in-Continue-branch-3
loop-bar-preserved-in-Continue-branch-3 c = record {
  utf8 = c.in_ok-inside-in-Folder.ensures.utf8;
  reads = λ d more rest left.
      let is = c.loop-bar.invariant.reads d more rest left in
      let bar = shown_of (bar_of d) in
      let other = shown_of (other_of d) in
      let now = contents c.loop-bar.bar.items in
      let items = map view c.loop-bar.other.items in
      let back = c.next_entry.result.1.now in
      let e = entry_seen c.in-Folder.attributes c.in-Folder.title c.in-Folder.field-2 in
      let f = bar_folder bar other now items back more rest c.loop-bar.found e is.contents is.bar_is is.other_is
      (rw c.in-Folder.is at (c.next_entry.ensures.next is.contents more rest is.left)) in
      let inner = c.in_ok-inside-in-Folder.ensures.nodes f.inside (ended f.behind more) rest f.left in
      subst (λ (items : List PlainItem). AreShown bar other c.loop-bar.found now items c.in_ok-inside-in-Folder.behind.now more rest)
      (sym c.in_ok-add_folder-in-Folder.ensures)
      (past_other bar other now items back more rest c.loop-bar.found e f (contents c.in_ok-inside-in-Folder.inside.items) c.in_ok-inside-in-Folder.behind.now
      inner.0 inner.1 (sym c.is_bar.ensures ∙ c.if-is_bar.false));
  none = c.loop-bar.invariant.none;
}

pub loop-bar-preserved : goal.loop-bar-preserved
loop-bar-preserved c = record {
  utf8 = (c.next_entry.ensures.utf8 c.loop-bar.invariant.utf8).1;
  reads = λ d more rest left.
      let is = c.loop-bar.invariant.reads d more rest left in
      bar_separator (shown_of (bar_of d)) (shown_of (other_of d)) (contents c.loop-bar.bar.items) (map view c.loop-bar.other.items) c.next_entry.result.1.now more rest
      c.loop-bar.found c.in-Separator.field-0.now is.contents is.bar_is is.other_is
      (rw c.in-Separator.is at (c.next_entry.ensures.next is.contents more rest is.left));
  none = c.loop-bar.invariant.none;
}
