use Rattle.std.proofs.Common.{List, T, Some, sym, ap, subst, ◌∙◌}
use Rattle.hm_tree.specs.Names.{Name}
use Rattle.hm_tree.specs.Nodes.{node, are_edges}
use Rattle.hm_tree.specs.Archives.{Archive, there, is_there}
use Rattle.hm_tree_text.proofs.Making.{valued_same}
use Rattle.hm_tree_text.proofs.built.ArchiveBuilt.of_edges.Goals as goal

pub of_edges-requires-clause-edges : goal.of_edges-requires-clause-edges
of_edges-requires-clause-edges c = subst (λ (es : List (Name × Archive)). T (are_edges (there es))) (valued_same c.args.edges.items) c.requires.edges

pub of_edges-requires-clause-there : goal.of_edges-requires-clause-there
of_edges-requires-clause-there c = subst (λ es. T (is_there es)) (valued_same c.args.edges.items) c.requires.all_there

pub returns : goal.returns
returns c = c.of_edges.ensures ∙ ap (λ es. Some (node (there es))) (sym (valued_same c.args.edges.items))
