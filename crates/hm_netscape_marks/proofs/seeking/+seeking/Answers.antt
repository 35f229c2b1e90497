use Rattle.std.proofs.Common.{ℕ, false, refl, sym, ap, ◌∙◌, subst, arith}
use Rattle.std.proofs.lemmas.Result.{IfOk-weaker}
use Rattle.hm_marks.specs.Among.{HasLeft}
use Rattle.hm_marks.specs.Contents.{nothing, folder}
use Rattle.hm_marks_tokens.specs.Symbols.{HasSymbols}
use Rattle.hm_netscape_entries.specs.Entries.{html, text_of}
use Rattle.hm_netscape_entries.specs.Next.{entry_seen}
use Rattle.hm_netscape_marks.specs.Seeking.{IsLacking, IsPassed}
use Rattle.hm_netscape_marks.proofs.Passing.{option_weaker, link_passed, link_lacking, folder_passed, folder_lacking, rule_passed, inner_sought, more_ahead, none_ahead, too_few, ends_there}
use Rattle.hm_netscape_marks.proofs.seeking.+seeking.Goals as goal

-- ---- a folder

pub behind_folder-returns-in-End-clause-found : goal.behind_folder-returns-in-End-clause-found
behind_folder-returns-in-End-clause-found t c = λ all more rest left.
    let is = c.loop-next.invariant.ahead all more rest left in
    ends_there is.after c.next_entry.result.1.now more rest (rw c.in-End.is at (c.next_entry.ensures.next is.after more rest is.left))

pub behind_folder-returns-in-End-2-clause-found : goal.behind_folder-returns-in-End-2-clause-found
behind_folder-returns-in-End-2-clause-found t c = λ all more rest left.
    let is = c.loop-next.invariant.ahead all more rest left in
    too_few c.args.tree.now c.args.missing all c.loop-next.left c.loop-next.rest.now more rest is c.next_entry.result.1.now
    (rw c.in-End-2.is at (c.next_entry.ensures.next is.after more rest is.left)) (λ none. absurd (omega (arith, none, c.if-left-eq0.false)))

pub behind_folder-loop-next-preserved : goal.behind_folder-loop-next-preserved
behind_folder-loop-next-preserved t c = record {
  utf8 = rw c.in-Some.is at c.in_ok-passed-in_default.ensures.utf8;
  within = let shorter = rw c.in-Some.is at c.in_ok-passed-in_default.ensures.shorter in omega (arith, shorter, c.next_entry.ensures.shorter, c.loop-next.invariant.within);
  ahead = λ all more rest left.
      let is = c.loop-next.invariant.ahead all more rest left in
      more_ahead c.args.tree.now c.args.missing all c.loop-next.left c.loop-next.rest.now more rest is c.in-Some.passed.1 c.in-Some.passed.0.now
      (rw c.in-Some.is at (c.in_ok-passed-in_default.ensures.found is.after more rest (c.next_entry.ensures.next is.after more rest is.left)));
}

pub behind_folder-returns-in-None : goal.behind_folder-returns-in-None
behind_folder-returns-in-None t c = record {
  found = λ all more rest left.
      let is = c.loop-next.invariant.ahead all more rest left in
      none_ahead c.args.tree.now c.args.missing all c.loop-next.left c.loop-next.rest.now more rest is
      (rw c.in-None.is at (c.in_ok-passed-in_default.ensures.found is.after more rest (c.next_entry.ensures.next is.after more rest is.left)));
  utf8 = tt;
  shorter = tt;
}

-- ---- an entry

pub behind_entry-returns-in-Separator-clause-found : goal.behind_entry-returns-in-Separator-clause-found
behind_entry-returns-in-Separator-clause-found t c = λ all more rest begins.
    rule_passed c.args.tree.now c.args.missing c.in-Separator.field-0.now all c.args.behind.now more rest (rw c.in-Separator.is at begins)

pub behind_entry-returns-then-branch-clause-found : goal.behind_entry-returns-then-branch-clause-found
behind_entry-returns-then-branch-clause-found t c = λ all more rest begins.
    let e = entry_seen c.in-Link.attributes c.in-Link.title c.in-Link.field-2 in
    link_lacking c.args.tree.now c.args.missing e all c.args.behind.now more rest (rw c.in-Link.is at begins)
    (c.in_ok-lacks-in-Link.ensures c.if-branch.true e refl refl)

pub behind_entry-returns-else-branch-clause-found : goal.behind_entry-returns-else-branch-clause-found
behind_entry-returns-else-branch-clause-found t c = λ all more rest begins.
    let e = entry_seen c.in-Link.attributes c.in-Link.title c.in-Link.field-2 in
    subst (λ (n : ℕ). IsPassed c.args.tree.now c.args.missing all n c.args.behind.now more rest) (sym c.saturating_sub.ensures)
    (link_passed c.args.tree.now c.args.missing e all c.args.behind.now more rest (rw c.in-Link.is at begins))

pub behind_entry-returns-in-Some-clause-found : goal.behind_entry-returns-in-Some-clause-found
behind_entry-returns-in-Some-clause-found t c = λ all more rest begins.
    let e = entry_seen c.in-Folder.field-0 c.in-Folder.title c.in-Folder.field-2 in
    subst (λ (n : ℕ). IsPassed c.args.tree.now c.args.missing all n c.in-Some.rest.now more rest) (sym c.saturating_sub-in-Some.ensures)
    (folder_passed c.args.tree.now c.args.missing e all c.args.behind.now more rest (rw c.in-Folder.is at begins) c.in-Some.rest.now
    (λ inside ms left. rw c.in-Some.is at (c.in_ok-rest-in-Folder.ensures.found e inside ms rest refl left)))

pub behind_entry-returns-in-None-clause-found : goal.behind_entry-returns-in-None-clause-found
behind_entry-returns-in-None-clause-found t c = λ all more rest begins.
    let e = entry_seen c.in-Folder.field-0 c.in-Folder.title c.in-Folder.field-2 in
    folder_lacking c.args.tree.now c.args.missing e all c.args.behind.now more rest (rw c.in-Folder.is at begins)
    (λ inside ms left. rw c.in-None.is at (c.in_ok-rest-in-Folder.ensures.found e inside ms rest refl left))

-- ---- a folder in another one

pub behind_inner-returns-in-Only-clause-found : goal.behind_inner-returns-in-Only-clause-found
behind_inner-returns-in-Only-clause-found t c = IfOk-weaker c.behind_folder.result _ _ (λ found h e inside more rest title left.
    let is = rw c.in-Only.is at c.folder_at.ensures in
    let all = h inside more rest left in
    option_weaker found _ (IsLacking c.args.tree.now (folder e inside nothing)) (λ behind. HasSymbols false behind.now more rest)
    (λ other. inner_sought c.args.tree.now c.in_ok-key.key e (ap text_of title ∙ sym c.in_ok-key.ensures) c.in-Only.below.now is.1 inside
    (subst (λ (n : ℕ). HasLeft html c.in-Only.below.now n inside → ⊥) c.count.ensures other)) all) c.behind_folder.ensures.found
