use Rattle.std.proofs.Common.{◌≡◌, false, None, refl, sym, subst}
use Rattle.hm_tree.specs.Names.{Name}
use Rattle.hm_tree.specs.Nodes.{Tree, below, edges, edges_of, empty}
use Rattle.certify_trials.proofs.claims.below_a_name.Goals as goal

nothing : (k : Name) → below k (empty {m = false}) ≡ None
unfolding edges edges_of empty
nothing k = refl

pub insert-requires : goal.insert-requires
insert-requires c = subst (λ (t : Tree). below c.in_ok-from_text.field-0 t ≡ None) (sym c.empty-above.ensures) (nothing c.in_ok-from_text.field-0)
