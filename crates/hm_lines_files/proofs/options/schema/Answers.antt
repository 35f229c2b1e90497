use Rattle.std.proofs.Common.{Bool, List, T, sym, subst, ◌∙◌}
use Rattle.std.specs.FinMap.{is_sorted}
use Rattle.hm_tree.specs.Names.{Name, name_cmp}
use Rattle.hm_tree.specs.Nodes.{edges_rise}
use Rattle.hm_schema.specs.Values.{options_value}
use Rattle.hm_lines_files.specs.Forms.{shown_by}
use Rattle.hm_lines_files.proofs.ShownProperties.{shown_edges}
use Rattle.hm_lines_files.proofs.options.schema.Goals as goal

pub book_schema-requires : goal.book_schema-requires
book_schema-requires c =
    let o = options_value c.args.options.now in
    let properties = c.args.properties.now in
    subst (λ (shown : List (Name × Bool)). T (is_sorted name_cmp shown)) (sym (c.deref.ensures.value ∙ c.in_ok-shown_by-in-None.ensures))
    (edges_rise (shown_by properties o) (shown_edges properties o c.requires.names))
