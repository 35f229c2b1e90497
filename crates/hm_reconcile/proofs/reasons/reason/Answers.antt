use Rattle.std.proofs.Common.{sym, ap, ◌∙◌, option_copied}
use Rattle.hm_reconcile.proofs.Shown.{earlier_shown, nothing_contested, names_shown, left_news, left_shown, right_news, right_shown}
use Rattle.hm_reconcile.proofs.reasons.reason.Goals as goal

pub returns-in-Marked : goal.returns-in-Marked
returns-in-Marked c =
    earlier_shown c.args.archive.now c.archive_at-here.result.now c.args.left.now c.args.right.now c.args.path.now c.archive_at-here.ensures
    (sym c.root.ensures ∙ c.in-Marked.is)

pub returns-in-Some-Some : goal.returns-in-Some-Some
returns-in-Some-Some c =
    names_shown c.args.archive.now c.archive_at-here.result.now c.args.left.now c.args.right.now c.args.path.now c.archive_at-here.ensures
    (λ mark. c.in_default.not-Marked (c.root.ensures ∙ mark))
    c.in-Some-Some.left.now c.in-Some-Some.right.now (ap option_copied (sym c.in-Some-Some.is-0) ∙ c.at.ensures)
    (ap option_copied (sym c.in-Some-Some.is-1) ∙ c.at-2.ensures)
    _ _ c.in_ok-left-in-Some-Some.ensures.left c.in_ok-left-in-Some-Some.ensures.right

pub news_from-requires : goal.news_from-requires
news_from-requires c =
    left_news c.args.archive.now c.archive_at-here.result.now c.args.left.now c.args.right.now c.args.path.now c.archive_at-here.ensures
    (λ mark. c.in_default.not-Marked (c.root.ensures ∙ mark))
    c.in-Some-None.tree.now (ap option_copied (sym c.in-Some-None.is-0) ∙ c.at.ensures)
    (ap option_copied (sym c.in-Some-None.is-1) ∙ c.at-2.ensures) c.requires

pub returns-in-Some-None : goal.returns-in-Some-None
returns-in-Some-None c =
    left_shown c.args.archive.now c.archive_at-here.result.now c.args.left.now c.args.right.now c.args.path.now c.archive_at-here.ensures
    (λ mark. c.in_default.not-Marked (c.root.ensures ∙ mark))
    c.in-Some-None.tree.now (ap option_copied (sym c.in-Some-None.is-0) ∙ c.at.ensures)
    (ap option_copied (sym c.in-Some-None.is-1) ∙ c.at-2.ensures) _ c.in_ok-news_from-in-Some-None.ensures

pub news_from-requires-in-None-Some : goal.news_from-requires-in-None-Some
news_from-requires-in-None-Some c =
    right_news c.args.archive.now c.archive_at-here.result.now c.args.left.now c.args.right.now c.args.path.now c.archive_at-here.ensures
    (λ mark. c.in_default.not-Marked (c.root.ensures ∙ mark))
    c.in-None-Some.tree.now (ap option_copied (sym c.in-None-Some.is-0) ∙ c.at.ensures)
    (ap option_copied (sym c.in-None-Some.is-1) ∙ c.at-2.ensures) c.requires

pub returns-in-None-Some : goal.returns-in-None-Some
returns-in-None-Some c =
    right_shown c.args.archive.now c.archive_at-here.result.now c.args.left.now c.args.right.now c.args.path.now c.archive_at-here.ensures
    (λ mark. c.in_default.not-Marked (c.root.ensures ∙ mark))
    c.in-None-Some.tree.now (ap option_copied (sym c.in-None-Some.is-0) ∙ c.at.ensures)
    (ap option_copied (sym c.in-None-Some.is-1) ∙ c.at-2.ensures) _ c.in_ok-news_from-in-None-Some.ensures

pub unreachable-requires : goal.unreachable-requires
unreachable-requires c =
    nothing_contested c.args.archive.now c.archive_at-here.result.now c.args.left.now c.args.right.now c.args.path.now c.archive_at-here.ensures
    (λ mark. c.in_default.not-Marked (c.root.ensures ∙ mark))
    (ap option_copied (sym c.in-None-None.is-0) ∙ c.at.ensures) (ap option_copied (sym c.in-None-None.is-1) ∙ c.at-2.ensures) c.requires
