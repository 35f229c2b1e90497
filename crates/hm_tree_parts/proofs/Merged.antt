-- What goes under the second of two merged names.
use Rattle.std.proofs.Common.{◌≡◌, Option, Some, None, IsSome, IfSome, MatchOption, refl, sym, ap, subst, ◌∙◌}
use mathlib.Core.Bool.{false≢true}
use Rattle.hm_tree.specs.Names.{Name}
use Rattle.hm_tree.specs.Nodes.{Tree, below, with_edge}
use Rattle.hm_tree_parts.specs.Twins.{MergedFrom, of_none, of_same, of_other}
use Rattle.hm_tree_parts.specs.Twins.{HasBoth, IsMergedBack}

module _ (m n : Name) (b : Option Tree) where
  pub from_none : b ≡ None → (x : Tree) → MergedFrom m n x b x
  from_none is x = subst (λ b. MergedFrom m n x b x) (sym is) of_none

  module _ (t : Tree) (is : b ≡ Some t) (has : IfSome b (HasBoth m n)) where
    both : HasBoth m n t
    both = subst (λ b. IfSome b (HasBoth m n)) is has

    pub from_same : below m t ≡ below n t → (x : Tree) → MergedFrom m n x b x
    from_same e x = subst (λ b. MergedFrom m n x b x) (sym is) (of_same both.at_one (sym e ∙ both.at_one))

    pub from_other : ¬ (below m t ≡ below n t) → (r : Option Tree) → r ≡ below n t
        → MatchOption r ((x : Tree) → MergedFrom m n x b x) (λ y. (x : Tree) → MergedFrom m n x b y)
    from_other differ r e =
        let found : r ≡ Some both.two = e ∙ both.at_two in
        subst (λ r. MatchOption r ((x : Tree) → MergedFrom m n x b x) (λ y. (x : Tree) → MergedFrom m n x b y)) (sym found)
        (λ x. subst (λ b. MergedFrom m n x b both.two) (sym is)
        (of_other both.at_one both.at_two (λ same. differ (both.at_one ∙ ap Some same ∙ sym both.at_two))))

-- the whole tree
pub merged_back : (m n k : Name) (a y c : Tree) (b : Option Tree) → IsSome (below m a) → IfSome (below m a) (λ x. MergedFrom m n x b y) → k ≡ n
    → c ≡ with_edge k y a → IsMergedBack m n a b c
merged_back m n k a y c b there merged name is = go (below m a) refl there merged
  where
    go : (o : Option Tree) → below m a ≡ o → IsSome o → IfSome o (λ x. MergedFrom m n x b y) → IsMergedBack m n a b c
    go None e t f = absurd (false≢true t)
    go (Some x) e t f = record { shown = x; child = y; there = e; merged = f; is = is ∙ ap (λ (k : Name). with_edge k y a) name }
