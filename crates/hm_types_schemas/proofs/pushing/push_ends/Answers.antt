use Rattle.std.proofs.Common.{◌≡◌, ◌-◌, ◌||◌, cond, None, true, false, reverse, sym, ap, ◌∙◌, arith}
use Rattle.hm_schema.specs.Tidied.{stands}
use Rattle.hm_types_schemas.specs.Ends.{other_ends}
use Rattle.hm_types_schemas.proofs.Left.{pushed, not_pushed, all_pushed}
use Rattle.hm_types_schemas.proofs.pushing.push_ends.Goals as goal

pub loop-place-preserved-in-Continue-branch-2 : goal.loop-place-preserved-in-Continue-branch-2
loop-place-preserved-in-Continue-branch-2 c = record {
  inside = λ n e. let le = c.loop-place.invariant.inside n e in omega (arith, le);
  pushed = λ n e.
      let all = c.lets_some_in-all.result in
      let w = c.listed-stands.ensures n e in
      let kept : (all || stands n w.0) ≡ true = ap (λ b. all || b) (sym w.1.1) ∙ sym c.is_left.ensures ∙ c.if-is_left.true in
      pushed n all c.loop-place.todo.items (other_ends (cond all n.other None)) (reverse c.args.todo.now.items)
      (c.loop-place.place - 1) c.loop-place.place w.0 c.listed-stands.result.0 w.1.0 (omega (arith, c.loop-place-test.true))
      (c.loop-place.invariant.pushed n e) c.push.new.self.items kept c.in_ok-push.ensures.items;
}

pub loop-place-preserved : goal.loop-place-preserved
loop-place-preserved c = record {
  inside = λ n e. let le = c.loop-place.invariant.inside n e in omega (arith, le);
  pushed = λ n e.
      let all = c.lets_some_in-all.result in
      let w = c.listed-stands.ensures n e in
      let off : (all || stands n w.0) ≡ false = ap (λ b. all || b) (sym w.1.1) ∙ sym c.is_left.ensures ∙ c.if-is_left.false in
      not_pushed n all c.loop-place.todo.items (other_ends (cond all n.other None)) (reverse c.args.todo.now.items)
      (c.loop-place.place - 1) c.loop-place.place w.0 c.listed-stands.result.0 w.1.0 (omega (arith, c.loop-place-test.true))
      (c.loop-place.invariant.pushed n e) off;
}

pub returns : goal.returns
returns c n e =
    let done : c.loop-place.place ≡ 0 = omega (arith, c.loop-place-test.false) in
    all_pushed n c.lets_some_in-all.result c.loop-place.todo.items (reverse c.args.todo.now.items) c.loop-place.place (c.lets_some_in-all.ensures n e) done
    (c.loop-place.invariant.pushed n e)
