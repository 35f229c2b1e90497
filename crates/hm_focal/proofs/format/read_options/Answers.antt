use Rattle.std.proofs.Common.{[], ◌∙◌, map, ap}
use Rattle.std.proofs.lemmas.List.{map-append}
use Rattle.hm_schema.specs.Values.{pair_value}
use Rattle.hm_focal.specs.OwnLines.{an_option}
use Rattle.hm_focal.proofs.ReadUpTo.{read_on, all_read, none_read}
use Rattle.hm_focal.proofs.Formats.{AreAllOptions, options_on, no_options, options_end, option_shorter, empty_bytes, some_bytes}
use Rattle.hm_focal.proofs.format.read_options.Goals as goal

pub returns-then-is_empty : goal.returns-then-is_empty
returns-then-is_empty c =
    all_read AreAllOptions _ _ _ c.loop-rest.invariant [] (options_end _ (empty_bytes _ c.is_empty.result c.is_empty.ensures c.if-is_empty.true))

pub returns-in_default : goal.returns-in_default
returns-in_default c = λ ps. none_read AreAllOptions _ _ _ c.loop-rest.invariant
    (no_options _ (some_bytes _ c.is_empty.result c.is_empty.ensures c.if-is_empty.false) (rw c.in_default.is at c.in_ok-pair.ensures)) ps []

pub loop-rest-smaller : goal.loop-rest-smaller
loop-rest-smaller c = option_shorter _ _ _ (rw c.in-Some.is at c.in_ok-pair.ensures)

pub loop-rest-preserved : goal.loop-rest-preserved
loop-rest-preserved c =
    let f = rw c.in-Some.is at c.in_ok-pair.ensures in
    read_on AreAllOptions _ _ _ c.loop-rest.invariant _ _ (λ ps end h. an_option f h) (options_on _ _ _ f) _
    (ap (map pair_value) c.in_ok-push.ensures.items ∙ map-append pair_value _ _)
