use Rattle.std.proofs.Common.{sym, ap, ◌∙◌, ◌++◌}
use Rattle.hm_tree.proofs.Ascending.{ascending_is}
use Rattle.hm_schema_writer.specs.Writing.{quoted, optional_tokens, count_tokens, behind_spaces}
use Rattle.hm_schema_writer.proofs.WrittenText.{shape_put}
use Rattle.hm_schema_writer.proofs.writer.put_shape.Goals as goal
use Rattle.hm_facts.proofs.Results.{on_ok}

pub returns : goal.returns
returns c =
    let required = ascending_is _ _ c.names.ensures.ascending c.names.ensures.same in
    let optional = ascending_is _ _ c.names-2.ensures.ascending c.names-2.ensures.same in
    on_ok _ _ c.put-2.result (λ n. shape_put _ _ _ _ _ (quoted _) (optional_tokens _) (count_tokens _) c.in_ok-put.ensures
    (c.in_ok-put_quoted.ensures ∙ ap (λ z. c.put.new.text.items ++ behind_spaces (quoted z)) (sym required))
    (c.in_ok-put_optional.ensures ∙ ap (λ z. c.put_quoted.new.text.items ++ behind_spaces (optional_tokens z)) (sym optional))
    c.in_ok-put_count.ensures _ n) c.put-2.ensures
