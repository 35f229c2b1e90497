use Rattle.std.proofs.Common.{rules, ◌++◌, ◌∷◌, [], map, take, sym, ap, ◌∙◌}
use Rattle.std.proofs.lemmas.List.{take_more}
use Rattle.hm_types_nodes.specs.Joining.{joined_shape, joined_shapes}
use Rattle.hm_types_views.proofs.JoinedNode.{joined_push}
use Rattle.hm_types_views.proofs.joining.all_joined.Goals as goal

pub loop-one-preserved : goal.loop-one-preserved
loop-one-preserved c =
    let ones = c.args.ones.now in
    let twos = c.args.twos.now in
    let i = c.loop-one.one-index in
    let a = c.one-item.result in
    c.in_ok-push_joined.ensures ∙ ap (λ l. l ++ map (joined_shape a) twos) c.loop-one.invariant ∙ sym (joined_push (take i ones) a twos)
    ∙ ap (λ l. joined_shapes l twos) (ap (λ a. take i ones ++ a ∷ []) c.one-item.is ∙ sym (take_more ones i a (search rules)))
