use Rattle.std.proofs.Common.{sym, ◌∙◌}
use Rattle.std.proofs.lemmas.Bool.{true≢false}
use Rattle.hm_schema_writer.proofs.WrittenText.{node_put}
use Rattle.hm_schema_writer.proofs.writer.append_nodes.Goals as goal

pub loop-place-preserved : goal.loop-place-preserved
loop-place-preserved c =
    node_put c.args.names.now c.args.nodes.now c.loop-place.place c.index-names-place.result c.index-nodes-place.result c.loop-place-test.true c.requires
    c.index-names-place.is c.index-nodes-place.is (λ same. true≢false (sym (c.is_word.ensures.1 same) ∙ c.if-is_word.false)) _ _
    c.loop-place.invariant _ c.in_ok-put_node.ensures
