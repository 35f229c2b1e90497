use Rattle.std.proofs.Common.{◌++◌, ◌∷◌, [], get_or, take, sym, ap, ◌∙◌, append_assoc, add-one}
use Rattle.std.specs.List.{zip}
use Rattle.hm_graph.proofs.Pairs.{zip_more}
use Rattle.hm_graph.proofs.sameness.push_pairs.Goals as goal

pub loop-i-preserved : goal.loop-i-preserved
loop-i-preserved c =
    let i = c.loop-i.i in
    let more = zip_more c.args.one.now c.args.two.now i 0 c.loop-i-test.true c.requires in
    c.in_ok-push.ensures.items
    ∙ ap (λ l. l ++ (get_or c.args.one.now i 0, get_or c.args.two.now i 0) ∷ []) c.loop-i.invariant
    ∙ append_assoc c.args.todo.now.items (zip (take i c.args.one.now) (take i c.args.two.now)) ((get_or c.args.one.now i 0, get_or c.args.two.now i 0) ∷ [])
    ∙ ap (λ l. c.args.todo.now.items ++ l) (sym more)
    ∙ rw add-one
