use Rattle.std.proofs.Common.{◌++◌, ap, ◌∙◌}
use Rattle.hm_focal_writer.proofs.Writing.{definition_put}
use Rattle.hm_focal_writer.proofs.writer.put_definition.Goals as goal

pub returns : goal.returns
returns c =
    definition_put c.args.text.now.items c.args.definition.now.name _ _ _ _ _ _ _ _ _ _ _ c.in_ok-extend_from_slice.ensures.items
    (c.in_ok-extend_from_slice-2.ensures.items ∙ ap (λ z. c.extend_from_slice.new.self.items ++ z) c.bytes.ensures.value)
    c.in_ok-push.ensures.items c.in_ok-put_node.ensures c.in_ok-push-2.ensures.items c.in_ok-put_node-2.ensures
    c.in_ok-extend_from_slice-3.ensures.items c.in_ok-append_term.ensures.ok _ c.in_ok-push-3.ensures.items
