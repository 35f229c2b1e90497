use Rattle.lens_trials.proofs.Trying.{can_show, in_view, can_put, in_source, same_view, holds}
use Rattle.lens_trials.proofs.trials.shows_again.Goals as goal

pub get-requires : goal.get-requires
get-requires g c = can_show c.requires.fits _ c.requires.tree

pub put-requires : goal.put-requires
put-requires g c = can_put c.requires.fits _ _ (in_view c.requires.fits _ _ c.requires.tree c.in_ok-shown.ensures) c.requires.before

pub returns-then-not-member : goal.returns-then-not-member
returns-then-not-member g c =
    holds (c.member.ensures.1 (in_source c.requires.fits _ _ _ (in_view c.requires.fits _ _ c.requires.tree c.in_ok-shown.ensures) c.requires.before c.in_ok-new.ensures)) c.if-not-member.true

pub get-requires-2 : goal.get-requires-2
get-requires-2 g c =
    can_show c.requires.fits _ (in_source c.requires.fits _ _ _ (in_view c.requires.fits _ _ c.requires.tree c.in_ok-shown.ensures) c.requires.before c.in_ok-new.ensures)

pub returns : goal.returns
returns g c =
    c.same.ensures.1 (same_view c.requires.fits _ _ _ _ (in_view c.requires.fits _ _ c.requires.tree c.in_ok-shown.ensures) c.requires.before c.in_ok-new.ensures c.in_ok-again.ensures)
