use Rattle.std.proofs.Common.{◌≡◌, ◌++◌, [], length, ap, ◌∙◌}
use Rattle.hm_tree.specs.Names.{name_cmp}
use Rattle.hm_book_items.specs.Items.{kept}
use Rattle.hm_book_items.specs.LentKeys.{lent_counts}
use Rattle.hm_book_items.specs.Plans.{slots_of, past, places, numbered}
use Rattle.hm_book_items.proofs.Plans.{past_added}
use Rattle.hm_book_items.proofs.planned.plan.Goals as goal

pub returns-clause-plan : goal.returns-clause-plan
returns-clause-plan c =
    let wanted = lent_counts c.args.wanted.now in
    let keys = c.args.keys.now in
    let are = c.in_ok-survivors.ensures.counts in
    let kept_is = c.in_ok-survivors.ensures.slots in
    let d = c.deref.ensures.value in
    let new : slots_of wanted c.newcomers.new.slots.items ≡ slots_of wanted c.survivors.new.slots.items ++ past wanted c.deref.result.now = c.in_ok-newcomers.ensures.slots in
    new ∙ ap (λ l. l ++ past wanted c.deref.result.now) kept_is ∙ ap (λ m. kept name_cmp (places wanted) [] (numbered 0 keys) ++ past wanted m) d
    ∙ ap (λ l. kept name_cmp (places wanted) [] (numbered 0 keys) ++ l) (past_added wanted (numbered 0 keys) c.survivors.new.counts.items are.same are.each)

pub returns-clause-within : goal.returns-clause-within
returns-clause-within c = c.in_ok-newcomers.ensures.within (length c.args.keys.now) c.in_ok-survivors.ensures.within
