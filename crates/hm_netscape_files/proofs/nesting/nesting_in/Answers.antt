use Rattle.std.proofs.Common.{◌+◌, ℕ, arith, sym, subst}
use Rattle.hm_netscape_entries.specs.Next.{entry_seen}
use Rattle.hm_marks_schema.specs.Nesting.{nesting}
use Rattle.hm_netscape_files.proofs.Open.{IsOpen, open_symbols, in_folder, is_open, closed_all, closed_one, opened_one, passed}
use Rattle.hm_netscape_files.proofs.nesting.nesting_in.Goals as goal

pub loop-within-init : goal.loop-within-init
loop-within-init c = record {
  stands = λ d more rest left. is_open d c.args.bytes.now more rest left;
  utf8 = λ u. u;
  room = omega arith;
  below = omega arith;
}

pub next_entry-requires : goal.next_entry-requires
next_entry-requires c =
    let r = c.requires in
    in_folder (nesting r.0) c.loop-within.within c.loop-within.deepest c.loop-within.rest.now r.1.0 r.1.1.0
    (c.loop-within.invariant.stands r.0 r.1.0 r.1.1.0 r.1.1.1)

pub returns-in-End-clause-nesting : goal.returns-in-End-clause-nesting
returns-in-End-clause-nesting c = λ d more rest left.
    let is = c.loop-within.invariant.stands d more rest left in
    closed_all (nesting d) c.loop-within.within c.loop-within.deepest c.loop-within.rest.now more rest c.next_entry.result.1.now is
    (rw c.in-End.is at (c.next_entry.ensures.next is.first (open_symbols is.others more) rest is.left)) c.if-within-eq0.true

pub returns-in-End-clause-utf8 : goal.returns-in-End-clause-utf8
returns-in-End-clause-utf8 c = λ u. (c.next_entry.ensures.utf8 (c.loop-within.invariant.utf8 u)).1

pub loop-within-preserved-in-End-2 : goal.loop-within-preserved-in-End-2
loop-within-preserved-in-End-2 c = record {
  stands = λ d more rest left.
      let is = c.loop-within.invariant.stands d more rest left in
      closed_one (nesting d) c.loop-within.within c.loop-within.deepest c.loop-within.rest.now more rest c.next_entry.result.1.now is
      (rw c.in-End-2.is at (c.next_entry.ensures.next is.first (open_symbols is.others more) rest is.left)) (omega arith);
  utf8 = λ u. (c.next_entry.ensures.utf8 (c.loop-within.invariant.utf8 u)).1;
  room = omega (arith, c.loop-within.invariant.room, c.next_entry.ensures.shorter);
  below = omega (arith, c.loop-within.invariant.below);
}

pub loop-within-preserved-in-Folder : goal.loop-within-preserved-in-Folder
loop-within-preserved-in-Folder c = record {
  stands = λ d more rest left.
      let is = c.loop-within.invariant.stands d more rest left in
      subst (λ (n : ℕ). IsOpen (nesting d) (c.loop-within.within + 1) n c.next_entry.result.1.now more rest) (sym c.max-deepest.ensures)
      (opened_one (nesting d) c.loop-within.within c.loop-within.deepest c.loop-within.rest.now more rest
      (entry_seen c.in-Folder.field-0 c.in-Folder.field-1 c.in-Folder.field-2) c.next_entry.result.1.now is
      (rw c.in-Folder.is at (c.next_entry.ensures.next is.first (open_symbols is.others more) rest is.left)));
  utf8 = λ u. (c.next_entry.ensures.utf8 (c.loop-within.invariant.utf8 u)).1;
  room = omega (arith, c.loop-within.invariant.room, c.loop-within.invariant.below, c.next_entry.ensures.shorter, c.max-deepest.ensures);
  below = omega (arith, c.max-deepest.ensures);
}

pub loop-within-preserved : goal.loop-within-preserved
loop-within-preserved c = record {
  stands = λ d more rest left.
      let is = c.loop-within.invariant.stands d more rest left in
      passed (nesting d) c.loop-within.within c.loop-within.deepest c.loop-within.rest.now more rest c.next_entry.result.0 c.in_default.not-End c.in_default.not-Folder
      c.next_entry.result.1.now is (c.next_entry.ensures.next is.first (open_symbols is.others more) rest is.left);
  utf8 = λ u. (c.next_entry.ensures.utf8 (c.loop-within.invariant.utf8 u)).1;
  room = omega (arith, c.loop-within.invariant.room, c.next_entry.ensures.shorter);
  below = c.loop-within.invariant.below;
}
