use Rattle.std.proofs.Common.{ap, subst, ◌∙◌}
use Rattle.std.specs.List.{list_any}
use Rattle.hm_schema.specs.Values.{node_value}
use Rattle.hm_schema.specs.Labels.{IsLabel}
use Rattle.hm_schema.specs.Tidied.{lets_in, has_name}
use Rattle.hm_types_table.proofs.Outlines.{label_bare, flags_bare}
use Rattle.hm_types_table.proofs.outline.outline_of.Goals as goal

pub returns-clause-outline : goal.returns-clause-outline
returns-clause-outline c =
    let k = c.args.kind.now in
    let l = c.in_ok-label_of.field-0 in
    record {
      number = record {
        label = l;
        is = subst (λ n. IsLabel n l) c.in_ok-node.ensures (label_bare (node_value c.in_ok-node.node) l c.in_ok-label_of.ensures);
        number = c.in_ok-label.ensures.numbered;
      };
      lets_in = c.some_lets_in.ensures ∙ ap (list_any lets_in) c.deref-2.ensures.value;
      standing = c.in_ok-standing.ensures ∙ flags_bare (λ m. list_any (λ a. has_name a m) k.shapes.items) k.names.items;
    }
