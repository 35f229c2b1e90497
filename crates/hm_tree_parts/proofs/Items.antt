-- Loops over the items of a list.
use Rattle.std.proofs.Common.{◌≡◌, ◌<◌, ◌+◌, max, List, [], ◌∷◌, ◌++◌, length, append_assoc, append-nil, sym, ap, subst, ◌∙◌, arith}
use Rattle.hm_tree.specs.Nodes.{Tree, edges, depth, deepest, empty}
use Rattle.hm_tree.specs.NodeLaws.{depth-edges, edges_empty}
use Rattle.hm_tree_parts.specs.Lists.{IsNil, IsItem, IsList, no_items, an_item, HasItems, none_left, and_then}
use Rattle.hm_tree_parts.proofs.OneList.{one_tail, nil_item}

-- ---- taken apart: the items so far, and a list of those that are left
pub record IsTakenSoFar (whole : Tree) (xs : List Tree) (rest : Tree) : Type 0 where
  pub list : IsList rest
  pub all : (ys : List Tree) → HasItems rest ys → HasItems whole (xs ++ ys)

pub none_taken : (t : Tree) (xs : List Tree) → IsList t → xs ≡ [] → IsTakenSoFar t xs t
none_taken t xs list none = record { list = list; all = λ ys is. subst (λ l. HasItems t (l ++ ys)) (sym none) is }

rest_list : (x r t : Tree) → IsItem x r t → IsList t → IsList r
rest_list x r t is (no_items none) = absurd (nil_item x r t none is)
rest_list x r t is (an_item {x = y} {r = s} other u list) = subst IsList (one_tail y s x r t other is) list

pub one_taken : (whole t x r : Tree) (xs ys : List Tree) → IsTakenSoFar whole xs t → IsItem x r t → ys ≡ xs ++ x ∷ [] → IsTakenSoFar whole ys r
one_taken whole t x r xs ys so is more = record {
  list = rest_list x r t is so.list;
  all = λ zs rest. subst (HasItems whole) (sym (append_assoc xs (x ∷ []) zs) ∙ ap (λ l. l ++ zs) (sym more)) (so.all (x ∷ zs) (and_then is rest));
}

pub all_taken : (whole t : Tree) (xs : List Tree) → IsTakenSoFar whole xs t → IsNil t → HasItems whole xs
all_taken whole t xs so none = subst (HasItems whole) (append-nil xs) (so.all [] (none_left none))

-- the list of the others is less deep
pub rest_falls : (x r t : Tree) → IsItem x r t → depth r < depth t
rest_falls x r t is = let e : depth t ≡ max (depth x + 1) (max (depth r + 1) 0) = depth-edges t ∙ ap deepest is in omega arith

-- ---- built: the items that are left, and a list of those behind them
pub record IsBuiltSoFar (whole left : List Tree) (t : Tree) : Type 0 where
  pub done : List Tree
  pub is : HasItems t done
  pub all : whole ≡ left ++ done

pub none_built : (whole : List Tree) (t : Tree) → t ≡ empty → IsBuiltSoFar whole whole t
none_built whole t is = record { done = []; is = none_left (ap edges is ∙ edges_empty); all = sym (append-nil whole) }

pub one_built : (whole left rest : List Tree) (x t u : Tree) → IsBuiltSoFar whole left t → left ≡ rest ++ x ∷ [] → IsItem x t u → IsBuiltSoFar whole rest u
one_built whole left rest x t u so last is = record {
  done = x ∷ so.done;
  is = and_then is so.is;
  all = so.all ∙ ap (λ l. l ++ so.done) last ∙ append_assoc rest (x ∷ []) so.done;
}

pub all_built : (whole left : List Tree) (t : Tree) → IsBuiltSoFar whole left t → length left ≡ 0 → HasItems t whole
all_built whole left t so none = go left so.all none
  where
    go : (left : List Tree) → whole ≡ left ++ so.done → length left ≡ 0 → HasItems t whole
    go [] all none = subst (HasItems t) (sym all) so.is
    go (x ∷ xs) all none = absurd (omega arith)
