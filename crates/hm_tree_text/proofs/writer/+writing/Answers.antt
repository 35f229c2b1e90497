use Rattle.std.proofs.Common.{◌++◌, ◌∷◌, [], rules, refl, sym, ap, ◌∙◌, append_assoc, arith}
use Rattle.std.proofs.lemmas.List.{append-nil}
use Rattle.std.proofs.lemmas.Result.{IfOk-equal}
use Rattle.hm_tree.specs.Nodes.{edges}
use Rattle.hm_tree.proofs.Depths.{depth_edge}
use Rattle.hm_tree_text.specs.Text.{text, whole, below}
use Rattle.hm_tree_text.proofs.Listed.{whole_none, whole_mark, below_full, whole_some}
use Rattle.hm_tree_text.proofs.Reached.{not_false}
use Rattle.hm_tree_text.proofs.Putting.{put_edge, put_all}
use Rattle.hm_tree_text.proofs.writer.+writing.Goals as goal

pub put_below-returns-then-is_bare : goal.put_below-returns-then-is_bare
put_below-returns-then-is_bare g t c = sym (ap (λ s. c.args.text.now.items ++ text below s) (c.if-is_bare.ensures.0 refl) ∙ append-nil _)

pub put_below-returns : goal.put_below-returns
put_below-returns g t c =
    let full = below_full (g.N.Written.node c.args.node.now).shape (λ none. not_false (c.if-is_bare.ensures.1 none)) in
    IfOk-equal _ _ _ _ c.put_whole.ensures (ap (λ l. l ++ text whole (g.N.Written.node c.args.node.now).shape) c.in_ok-push.ensures.items
    ∙ append_assoc c.args.text.now.items (58 ∷ []) _ ∙ ap (λ l. c.args.text.now.items ++ l) (sym full))

pub put_whole-returns-then-is_marked : goal.put_whole-returns-then-is_marked
put_whole-returns-then-is_marked g t c = c.in_ok-push.ensures.items
    ∙ ap (λ l. c.args.text.now.items ++ l) (sym (whole_mark _ (sym c.is_marked.ensures ∙ c.if-is_marked.true)))

pub put_whole-returns-then-count-eq0 : goal.put_whole-returns-then-count-eq0
put_whole-returns-then-count-eq0 g t c =
    let empty = whole_none _ (sym c.is_marked.ensures ∙ c.if-is_marked.false) (sym c.count-count.ensures ∙ c.if-count-eq0.true) in
    c.in_ok-push-3.ensures.items ∙ ap (λ l. l ++ 125 ∷ []) c.in_ok-push-2.ensures.items
    ∙ append_assoc c.args.text.now.items (123 ∷ []) (125 ∷ []) ∙ ap (λ l. c.args.text.now.items ++ l) (sym empty)

pub put_whole-put_below-requires : goal.put_whole-put_below-requires
put_whole-put_below-requires g t c =
    let lower = depth_edge _ _ _ _ c.edge.ensures in
    search rules

pub put_whole-loop-place-preserved : goal.put_whole-loop-place-preserved
put_whole-loop-place-preserved g t c =
    put_edge _ _ _ _ _ _ _ _ _ _ _ c.count-count.ensures c.edge.ensures c.in_ok-append_spelled.ensures.ok c.in_ok-put_below.ensures
    c.in_ok-push-4.ensures.items c.separator.ensures c.loop-place.invariant

pub put_whole-returns : goal.put_whole-returns
put_whole-returns g t c =
    let some = whole_some (g.N.Written.node c.args.node.now) (λ e. c.if-count-eq0.false (c.count-count.ensures ∙ e)) in
    put_all (edges (g.N.Written.node c.args.node.now)) c.loop-place.place c.loop-place.text.items _
    (let n = c.count-count.ensures in omega arith) c.loop-place.invariant ∙ ap (λ l. c.args.text.now.items ++ l) (sym some)
