use Rattle.std.proofs.Common.{Some, option_copied, sym, ap, ◌∙◌}
use Rattle.hm_certify.specs.Standing.{archive_or_none}
use Rattle.hm_certify.proofs.Verdicts.{says_no}
use Rattle.hm_certify.proofs.Showing.{at_found, marked_there, left_missing, right_missing, not_on_left, not_on_right, has_left, names_decide, leads_there}
use Rattle.hm_certify.proofs.reasons.are_refused.Goals as goal

pub returns-then-is_marked : goal.returns-then-is_marked
returns-then-is_marked c =
    marked_there c.args.schema.now c.args.schema.now.root c.args.archive.now c.args.left.now c.args.right.now c.args.path.now c.args.on_left.now
    c.args.on_right.now
    (archive_or_none (option_copied c.at-known.result)) (at_found c.at-known.result _ c.at-known.ensures) (c.is_marked.ensures.0 c.if-is_marked.true)

pub returns-in_default : goal.returns-in_default
returns-in_default c =
    left_missing c.args.schema.now c.args.schema.now.root c.args.archive.now c.args.left.now c.args.right.now c.args.path.now c.args.on_left.now
    c.args.on_right.now
    (archive_or_none (option_copied c.at-known.result)) (at_found c.at-known.result _ c.at-known.ensures)
    (sym c.at.ensures ∙ ap option_copied c.in_default.is)

pub returns-in_default-at : goal.returns-in_default-at
returns-in_default-at c =
    right_missing c.args.schema.now c.args.schema.now.root c.args.archive.now c.args.left.now c.args.right.now c.args.path.now
    c.args.on_left.now c.args.on_right.now
    (archive_or_none (option_copied c.at-known.result)) (at_found c.at-known.result _ c.at-known.ensures)
    (sym c.at-2.ensures ∙ ap option_copied c.in_default-at.is)

pub returns-then-not-are_carried : goal.returns-then-not-are_carried
returns-then-not-are_carried c =
    not_on_left c.args.schema.now c.args.schema.now.root c.args.archive.now c.args.left.now c.args.right.now c.args.path.now c.args.on_left.now
    c.args.on_right.now
    (archive_or_none (option_copied c.at-known.result)) (at_found c.at-known.result _ c.at-known.ensures)
    c.in-Some.mine.now c.in-Some-at.other.now (sym c.at.ensures ∙ ap option_copied c.in-Some.is)
    (sym c.at-2.ensures ∙ ap option_copied c.in-Some-at.is)
    (says_no c.are_carried.ensures c.if-not-are_carried.true)

pub returns-then-not-are_carried-2 : goal.returns-then-not-are_carried-2
returns-then-not-are_carried-2 c =
    not_on_right c.args.schema.now c.args.schema.now.root c.args.archive.now c.args.left.now c.args.right.now c.args.path.now c.args.on_left.now
    c.args.on_right.now
    (archive_or_none (option_copied c.at-known.result)) (at_found c.at-known.result _ c.at-known.ensures)
    c.in-Some.mine.now c.in-Some-at.other.now (sym c.at.ensures ∙ ap option_copied c.in-Some.is)
    (sym c.at-2.ensures ∙ ap option_copied c.in-Some-at.is)
    (says_no c.are_carried-2.ensures c.if-not-are_carried-2.true)

pub are_not_permitted-requires : goal.are_not_permitted-requires
are_not_permitted-requires c =
    leads_there c.args.schema.now c.args.schema.now.root c.args.path.now (Some c.args.left.now) c.requires.members.left
    (has_left c.args.schema.now c.args.schema.now.root c.args.archive.now c.args.left.now c.args.right.now c.args.path.now c.args.on_left.now
    c.args.on_right.now
    (archive_or_none (option_copied c.at-known.result)) (at_found c.at-known.result _ c.at-known.ensures)
    c.in-Some.mine.now c.in-Some-at.other.now (sym c.at.ensures ∙ ap option_copied c.in-Some.is)
    (sym c.at-2.ensures ∙ ap option_copied c.in-Some-at.is))

pub returns : goal.returns
returns c =
    names_decide c.args.schema.now c.args.schema.now.root c.args.archive.now c.args.left.now c.args.right.now c.args.path.now c.args.on_left.now
    c.args.on_right.now
    (archive_or_none (option_copied c.at-known.result)) (at_found c.at-known.result _ c.at-known.ensures)
    c.in-Some.mine.now c.in-Some-at.other.now (sym c.at.ensures ∙ ap option_copied c.in-Some.is)
    (sym c.at-2.ensures ∙ ap option_copied c.in-Some-at.is)
    _ (says_no c.is_marked.ensures c.if-is_marked.false) (c.are_carried.ensures.0 c.if-not-are_carried.false)
    (c.are_carried-2.ensures.0 c.if-not-are_carried-2.false) c.are_not_permitted.ensures
