use Rattle.std.proofs.Common.{◌≡◌, map, All}
use Rattle.hm_tree.specs.Names.{Name}
use Rattle.hm_eval_terms.specs.declared.children.Child.{Child}
use Rattle.hm_eval_terms.specs.Terms.{option_lens}
use Rattle.hm_eval_terms.specs.Children.{edge_of}
use Rattle.hm_eval_terms.proofs.children.with_lens.Given as goal

abbrev pub invariant-loop-name : goal.invariant-loop-name
invariant-loop-name l = record {
  edges : map edge_of l.children.items ≡ l.yielded;
  lenses : All (λ (e : Name × Child). option_lens e.1.lens ≡ option_lens l.lens) l.children.items;
}
