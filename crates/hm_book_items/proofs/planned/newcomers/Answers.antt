use Rattle.std.proofs.Common.{◌≡◌, ◌<◌, ◌++◌, suc, ◌+◌, sym, ap, ◌∙◌, arith, take, get_or, length}
use Rattle.std.proofs.lemmas.List.{append_assoc}
use Rattle.hm_book_items.specs.LentKeys.{lent_counts}
use Rattle.hm_book_items.specs.Plans.{slots_of, past, past_at}
use Rattle.hm_book_items.proofs.LentKeys.{lent_length}
use Rattle.hm_book_items.proofs.Plans.{past_more}
use Rattle.hm_book_items.proofs.planned.newcomers.Goals as goal

pub loop-edge-preserved : goal.loop-edge-preserved
loop-edge-preserved c =
    let inv = c.loop-edge.invariant in
    let wanted = lent_counts c.args.wanted.now in
    let counts = c.args.counts.now in
    let i = c.loop-edge.edge in
    let n : suc i ≡ i + 1 = omega arith in
    let within : i < length wanted = let same = lent_length c.args.wanted.now in let t = c.loop-edge-test.true in omega (arith, same, t) in (
      c.in_ok-append_past.ensures.slots ∙ ap (λ l. l ++ past_at wanted i (get_or counts i 0)) inv.0 ∙ append_assoc _ (past (take i wanted) (take i counts)) _
          ∙ ap (λ l. slots_of wanted c.args.slots.now.items ++ l) (sym (past_more wanted counts i within c.requires) ∙ ap (λ m. past (take m wanted) (take m counts)) n),
      λ count old. c.in_ok-append_past.ensures.within count (inv.1 count old),
    )
