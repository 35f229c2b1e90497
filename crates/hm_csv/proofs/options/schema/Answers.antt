use Rattle.std.proofs.Common.{Bool, List, T, sym, subst, ◌∙◌}
use Rattle.std.specs.FinMap.{is_sorted}
use Rattle.hm_tree.specs.Names.{Name, name_cmp}
use Rattle.hm_tree.specs.Nodes.{edges_rise}
use Rattle.hm_schema.specs.Values.{options_value}
use Rattle.hm_csv.specs.Options.{shown_of}
use Rattle.hm_csv.proofs.ShownNames.{shown_are}
use Rattle.hm_csv.proofs.options.schema.Goals as goal

pub book_schema-requires : goal.book_schema-requires
book_schema-requires c =
    let o = options_value c.args.options.now in
    subst (λ (shown : List (Name × Bool)). T (is_sorted name_cmp shown)) (sym (c.deref.ensures.value ∙ c.in_ok-shown_of-in-None.ensures))
    (edges_rise (shown_of o) (shown_are o c.requires))
