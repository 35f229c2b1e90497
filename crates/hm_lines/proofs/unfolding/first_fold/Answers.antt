use Rattle.std.proofs.Common.{sym, ap, ◌∙◌, ◌+◌, arith}
use Rattle.std.proofs.lemmas.List.{take_rest}
use Rattle.hm_lines.specs.Unfolding.{begins_with_blank}
use Rattle.hm_lines.proofs.FoldSearch.{is_first, none_here, none_left, feed_within}
use Rattle.hm_lines.proofs.unfolding.first_fold.Goals as goal

pub returns-then-begins_with_blank : goal.returns-then-begins_with_blank
returns-then-begins_with_blank c =
    let bytes = c.args.bytes.now in
    let from = c.loop-ahead.from in
    is_first bytes from c.loop-ahead.invariant.none c.loop-ahead.invariant.within c.in-Some.ahead c.in-Some.ensures
    (ap begins_with_blank (sym (take_rest bytes (from + c.in-Some.ahead + 1))) ∙ sym c.begins_with_blank.ensures ∙ c.if-begins_with_blank.true)

pub loop-ahead-preserved : goal.loop-ahead-preserved
loop-ahead-preserved c =
    let bytes = c.args.bytes.now in
    let from = c.loop-ahead.from in
    let within = feed_within bytes from c.loop-ahead.invariant.none c.loop-ahead.invariant.within c.in-Some.ahead c.in-Some.ensures in
    record {
      within = omega (arith, within);
      none =
          none_here bytes from c.loop-ahead.invariant.none c.loop-ahead.invariant.within c.in-Some.ahead c.in-Some.ensures
          (ap begins_with_blank (sym (take_rest bytes (from + c.in-Some.ahead + 1))) ∙ sym c.begins_with_blank.ensures ∙ c.if-begins_with_blank.false);
    }

pub returns : goal.returns
returns c = none_left c.args.bytes.now c.loop-ahead.from c.loop-ahead.invariant.none c.loop-ahead.invariant.within c.in_default.ensures
