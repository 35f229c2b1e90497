use Rattle.std.proofs.Common.{◌∷◌, [], refl, sym, ap, subst, ◌∙◌}
use Rattle.std.proofs.lemmas.List.{get_or_default}
use Rattle.std.proofs.lemmas.Option.{same_Some, slice_get_read}
use Rattle.hm_graph_classes.specs.Reduced.{HasVertex}
use Rattle.hm_types_table.proofs.ClassEdges.{loop_edges}
use Rattle.hm_types_table.proofs.annotations.Annotations.found_loop.Goals as goal

pub returns-clause-class : goal.returns-clause-class
returns-clause-class c j at o to stand =
    let classes = c.args.self.now.classes.items in
    let class = c.in_ok-add_loop.field-0 in
    let here = slice_get_read c.args.self.now.outlines.items _ c.args.seen c.index.result.now refl c.requires.seen c.index.ensures in
    let first = c.index-class.ensures ∙ get_or_default classes c.args.first.place _ 0 c.requires.first in
    record {
      outline = c.index.result.now;
      is_outline = here;
      vertex = subst (HasVertex c.add_loop.new.self class c.index.result.now.label)
          ((λ t. first t ∷ class ∷ [])
          ∙ loop_edges classes class c.index.result.now c.args.first j c.requires.first at
          (ap (λ o. o.standing.items) (same_Some c.index.result.now o (sym here ∙ to)) ∙ stand))
          c.in_ok-add_loop.ensures.vertex;
    }
