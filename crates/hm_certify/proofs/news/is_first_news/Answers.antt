use Rattle.std.proofs.Common.{[], Option, Bor, option_copied, sym, ap, subst, arith}
use Rattle.hm_tree.specs.Archives.{Archive, under}
use Rattle.hm_tree.specs.States.{state}
use Rattle.hm_outcome.proofs.Marks.{has_and_lacks}
use Rattle.hm_certify.specs.Standing.{archive_or_none}
use Rattle.hm_certify.proofs.Verdicts.{says_no, not_so}
use Rattle.hm_certify.proofs.Steps.{child_found}
use Rattle.hm_certify.proofs.FirstNews.{NewsOn, on_end, on_above, on_before, on_down}
use Rattle.hm_certify.proofs.news.is_first_news.Goals as goal

abbrev known : Option (Bor Archive) → Archive
known x = archive_or_none (option_copied x)

pub returns-in_default : goal.returns-in_default
returns-in_default c =
    on_above (known c.args.archive) c.args.tree.now c.args.names.now (known c.loop-name.known) c.loop-name.side.now c.loop-name.name-index
    c.loop-name.invariant c.name-item.result c.loop-name-test.true c.name-item.is
    (λ there. has_and_lacks there (ap (λ x. state (known x) []) c.in_default.is))

pub returns-then-not-is_within_before : goal.returns-then-not-is_within_before
returns-then-not-is_within_before c =
    on_before (known c.args.archive) c.args.tree.now c.args.names.now c.in-Some.here.now c.loop-name.side.now c.loop-name.name-index
    (subst (λ o. NewsOn (known c.args.archive) c.args.tree.now c.args.names.now o c.loop-name.side.now c.loop-name.name-index)
    (ap known c.in-Some.is) c.loop-name.invariant)
    c.name-item.result c.loop-name-test.true c.name-item.is (c.is_present.ensures.0 c.if-not-is_present.false)
    (says_no c.is_within_before.ensures c.if-not-is_within_before.true)

pub loop-name-preserved : goal.loop-name-preserved
loop-name-preserved c =
    on_down (known c.args.archive) c.args.tree.now c.args.names.now c.in-Some.here.now c.loop-name.side.now c.loop-name.name-index
    (subst (λ o. NewsOn (known c.args.archive) c.args.tree.now c.args.names.now o c.loop-name.side.now c.loop-name.name-index)
    (ap known c.in-Some.is) c.loop-name.invariant)
    c.name-item.result c.loop-name-test.true c.name-item.is (c.is_present.ensures.0 c.if-not-is_present.false)
    (c.is_within_before.ensures.0 c.if-not-is_within_before.false)
    c.in-Some-child.child.now (known c.child-known.result) (sym c.in-Some-child.ensures)
    (child_found c.child-known.result (under c.name-item.result c.in-Some.here.now) c.child-known.ensures)

pub returns : goal.returns
returns c =
    on_end (known c.args.archive) c.args.tree.now c.args.names.now (known c.loop-name.known) c.loop-name.side.now c.loop-name.name-index
    c.loop-name.invariant _ (omega arith) (not_so c.is_present-2.ensures)
