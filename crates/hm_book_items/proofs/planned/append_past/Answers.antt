use Rattle.std.proofs.Common.{◌++◌, ap, ◌∙◌, arith}
use Rattle.hm_book_items.specs.LentKeys.{lent_counts}
use Rattle.hm_book_items.specs.Plans.{slots_of}
use Rattle.hm_book_items.proofs.Plans.{past_step, past_all, more_within}
use Rattle.hm_book_items.proofs.planned.append_past.Goals as goal

pub loop-place-preserved : goal.loop-place-preserved
loop-place-preserved c =
    let inv = c.loop-place.invariant in (
      let l = inv.0 in omega arith,
      past_step (lent_counts c.args.wanted.now) c.args.edge c.args.count c.loop-place.place (slots_of (lent_counts c.args.wanted.now) c.args.slots.now.items) c.loop-place.slots.items c.push.new.self.items inv.0 inv.1 c.in_ok-push.ensures.items,
      let l = inv.2 in let t = c.loop-place-test.true in omega (arith, l, t),
      λ items old. more_within (lent_counts c.args.wanted.now) items c.loop-place.slots.items c.push.new.self.items _ (inv.3 items old) c.in_ok-push.ensures.items
          (record {
            edge = c.requires;
            place =
                let count = c.count_at-place-end.ensures in let lt = c.loop-place-test.true in omega (arith, count, lt);
            from = tt;
          }),
    )

pub returns-clause-slots : goal.returns-clause-slots
returns-clause-slots c =
    let inv = c.loop-place.invariant in
    let wanted = lent_counts c.args.wanted.now in
    let place = c.loop-place.place in
    let count = c.count_at-place-end.ensures in
    let f = c.loop-place-test.false in
    let l = inv.0 in
    let m = inv.2 in
    inv.1 ∙ ap (λ q. slots_of wanted c.args.slots.now.items ++ q) (past_all wanted c.args.edge c.args.count place (omega (arith, count, f, l, m)))

pub returns-clause-within : goal.returns-clause-within
returns-clause-within c = c.loop-place.invariant.3
