use Rattle.std.proofs.Common.{◌≡◌, arith}
use Rattle.std.proofs.lemmas.Bool.Decides.{nat_tests}
use Rattle.std.proofs.lemmas.Result.{IfOk-weaker}
use Rattle.hm_netscape_entries.specs.Next.{an_end, next_seen}
use Rattle.hm_netscape_marks.proofs.Fronts.{front_passed, front_lacking, front_ended, bar_lacking}
use Rattle.hm_netscape_marks.proofs.differing.outermost_differs.Goals as goal

pub returns-then-left-gt0 : goal.returns-then-left-gt0
returns-then-left-gt0 c = λ found all more rest left.
    let is = c.loop-next.invariant.front all more rest left in
    front_ended c.args.bar.now c.args.other.now all c.loop-next.left c.loop-next.rest.now c.next_entry.result.1.now more rest is
    (rw c.in-End.is at (c.next_entry.ensures.next is.after more rest is.left)) (λ none empty. absurd (omega (arith, none, c.if-left-gt0.true)))

pub returns-else-left-gt0 : goal.returns-else-left-gt0
returns-else-left-gt0 c = λ found all more rest left.
    let is = c.loop-next.invariant.front all more rest left in
    front_ended c.args.bar.now c.args.other.now all c.loop-next.left c.loop-next.rest.now c.next_entry.result.1.now more rest is
    (rw c.in-End.is at (c.next_entry.ensures.next is.after more rest is.left)) (λ none empty. grind (arith, nat_tests, empty, found, c.count.ensures))

pub returns-then-is_bar : goal.returns-then-is_bar
returns-then-is_bar c = IfOk-weaker c.bar_differs.result _ _ (λ found h differs all more rest left.
    let is = c.loop-next.invariant.front all more rest left in
    bar_lacking c.args.bar.now c.args.other.now all c.loop-next.left c.loop-next.rest.now c.next_entry.result.1.now more rest is (next_seen c.next_entry.result.0)
    (c.next_entry.ensures.next is.after more rest is.left) c.if-is_bar.ensures (λ inside behind at. h differs inside behind more rest at)) c.bar_differs.ensures

pub loop-next-preserved : goal.loop-next-preserved
loop-next-preserved c = record {
  utf8 = rw c.in-Some.is at c.in_ok-passed-in_default.ensures.utf8;
  front = λ all more rest left.
      let is = c.loop-next.invariant.front all more rest left in
      let begins = c.next_entry.ensures.next is.after more rest is.left in
      let some : next_seen c.next_entry.result.0 ≡ an_end → ⊥ = grind (arith, c.in_default.not-End) in
      front_passed c.args.bar.now c.args.other.now all c.loop-next.left c.loop-next.rest.now c.next_entry.result.1.now more rest is (next_seen c.next_entry.result.0)
      begins some c.if-is_bar.ensures c.in-Some.passed.1 c.in-Some.passed.0.now
      (rw c.in-Some.is at (c.in_ok-passed-in_default.ensures.found is.after more rest begins));
}

pub returns-in-None : goal.returns-in-None
returns-in-None c = λ found all more rest left.
    let is = c.loop-next.invariant.front all more rest left in
    let begins = c.next_entry.ensures.next is.after more rest is.left in
    let some : next_seen c.next_entry.result.0 ≡ an_end → ⊥ = grind (arith, c.in_default.not-End) in
    front_lacking c.args.bar.now c.args.other.now all c.loop-next.left c.loop-next.rest.now c.next_entry.result.1.now more rest is (next_seen c.next_entry.result.0)
    begins some c.if-is_bar.ensures
    (rw c.in-None.is at (c.in_ok-passed-in_default.ensures.found is.after more rest begins))
