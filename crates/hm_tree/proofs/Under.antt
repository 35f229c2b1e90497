-- What stands under a name among the edges that are left of a node.
use Rattle.std.proofs.Common.{◌≡◌, ℕ, zero, suc, ◌<◌, T, List, [], ◌∷◌, length, drop, get_or, false, Some, None, ◌≤◌, refl, sym, ap, subst, ◌∙◌, arith}
use Rattle.std.specs.Prelude.{slice_index_or}
use Rattle.std.specs.Ordering.{is_eq}
use Rattle.std.specs.FinMap.{is_sorted, find}
use Rattle.std.specs.declared.cmp.Ordering.TheVariants.{Less, Equal, Greater}
use Rattle.hm_tree.specs.Names.{Name, name_cmp}
use Rattle.hm_tree.specs.Nodes.{second}
use Rattle.hm_tree.proofs.Sorted.{name_total, back_less, back_equal, back_greater, rises, not_found, name_one}

pub tied_later : (m n k : Name) → name_cmp m n ≡ Equal → name_cmp n k ≡ Less → name_cmp m k ≡ Less
tied_later m n k tie less = ap (λ x. name_cmp x k) (name_one m n tie) ∙ less

module _ {X : Type 0} where
  -- what stands in front, and what is left behind it
  pub front_rest : (es rest : List (Name × X)) (e : Name × X) → 0 < length es → e ≡ slice_index_or es 0 e → rest ≡ drop 1 es → es ≡ e ∷ rest
  front_rest [] rest e some is left = absurd (omega arith)
  front_rest (x ∷ es) rest e some is left = λ i. sym is i ∷ sym left i

  -- a name greater than the first isn't found there
  pub behind_first : (k : Name) (e : Name × X) (rest : List (Name × X)) → name_cmp e.0 k ≡ Less → find name_cmp k rest ≡ find name_cmp k (e ∷ rest)
  behind_first k e rest less = rw (back_less k e.0 less) refl

  -- ---- the first name was taken off

  module _ (n : Name) (es rest : List (Name × X)) (e : Name × X) (sorted : T (is_sorted name_cmp es)) (is : es ≡ e ∷ rest) where
    pub rest_sorted : T (is_sorted name_cmp rest)
    rest_sorted = second _ _ (subst (λ l. T (is_sorted name_cmp l)) is sorted)

    pub found_behind : (k : Name) → name_cmp e.0 k ≡ Less → find name_cmp k rest ≡ find name_cmp k es
    found_behind k less = behind_first k e rest less ∙ ap (find name_cmp k) (sym is)

    pub found_first : name_cmp e.0 n ≡ Equal → Some e.1 ≡ find name_cmp n es
    found_first tie = sym (ap (find name_cmp n) is ∙ first)
      where
        first : find name_cmp n (e ∷ rest) ≡ Some e.1
        first = rw (back_equal n e.0 tie) refl

    -- it isn't greater than the name, so what is greater than the name stands behind it
    pub later_too : (k : Name) → name_cmp e.0 n ≡ Less → name_cmp n k ≡ Less → name_cmp e.0 k ≡ Less
    later_too k before after = name_total.trans e.0 n k before after

  -- the first name is greater already
  pub not_there : (n : Name) (es : List (Name × X)) (e : Name × X) → T (is_sorted name_cmp es) → 0 < length es → e ≡ slice_index_or es 0 e → name_cmp e.0 n ≡ Greater → None ≡ find name_cmp n es
  not_there n es e sorted some is greater = sym (not_found n es apart)
    where
      first : name_cmp n e.0 ≡ Less
      first = back_greater n e.0 greater

      at_first : (d : Name × X) → get_or es 0 d ≡ e
      at_first d = go es some is
        where
          go : (es : List (Name × X)) → 0 < length es → e ≡ slice_index_or es 0 e → get_or es 0 d ≡ e
          go [] some is = absurd (omega arith)
          go (x ∷ es) some is = sym is

      apart : (j : ℕ) (d : Name × X) → j < length es → is_eq (name_cmp n (get_or es j d).0) ≡ false
      apart zero d lt = ap is_eq (ap (λ (x : Name × X). name_cmp n x.0) (at_first d) ∙ first)
      apart (suc j) d lt = ap is_eq (name_total.trans n e.0 (get_or es (suc j) d).0 first (ap (λ (x : Name × X). name_cmp x.0 (get_or es (suc j) d).0) (sym (at_first d)) ∙ rises es sorted 0 (suc j) d (omega arith) lt))

  -- what was taken off is what stood in front
  pub popped : (es rest : List (Name × X)) (e f : Name × X) → es ≡ e ∷ rest → es ≡ f ∷ rest → Some f.1 ≡ Some e.1
  popped es rest e f is taken = let same : f ∷ rest ≡ e ∷ rest = sym taken ∙ is in let edge : f ≡ e = cc in ap (λ (x : Name × X). Some x.1) edge

  pub none_left : (n : Name) (es : List (Name × X)) → length es ≤ 0 → None ≡ find name_cmp n es
  none_left n [] h = refl
  none_left n (e ∷ es) h = absurd (omega arith)
