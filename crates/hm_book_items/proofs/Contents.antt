-- Items whose contents are read through functions survive as they do; and a list of items has a tree.
use Rattle.std.proofs.Common.{◌≡◌, ◌≢◌, ℕ, zero, suc, Bool, true, false, cond, List, [], ◌∷◌, ◌++◌, length, slice_get, drop, Option, Some, None, refl, sym, ap, ◌∙◌, arith, T}
use Rattle.std.specs.declared.cmp.Ordering.{Ordering}
use Rattle.std.specs.declared.cmp.Ordering.TheVariants.{Equal}
use Rattle.std.specs.Ordering.{eq_by_cmp}
use Rattle.std.specs.Option.{unwrap_or, option_map}
use Rattle.std.specs.Cmp.{IsTotalOrder}
use Rattle.std.specs.FinMap.{find, put}
use Rattle.std.specs.FinMap.Entries.{find-put, is_sorted-put}
use Rattle.hm_tree.specs.Names.{Name, name_cmp}
use Rattle.hm_tree.specs.Nodes.{Tree, are_texts, are_edges, first, second}
use Rattle.hm_tree.proofs.Sorted.{name_total, name_one, edges_put}
use Rattle.hm_tree.proofs.Texts.{text_tested}
use Rattle.std.specs.Str.{is_utf8}
use Rattle.hm_book_items.specs.ItemTrees.{IsItemTree, tree_of_lists}
use Rattle.hm_book_items.proofs.Lists.{standing_tree}
use Rattle.hm_book_items.specs.Items.{of_key, below_key, IsGrouped, survivor, kept, fresh, added, IsRewritten}
use Rattle.hm_book_items.proofs.ReadBack.{same}

module _ {K : Type 0} (R : K → K → Ordering) (total : IsTotalOrder R) (one : (a b : K) → R a b ≡ Equal → a ≡ b) where
  module _ {A : Type 0} where
    -- the tree of a list of items
    pub tree_of : List (K × A) → List (K × List A)
    tree_of [] = []
    tree_of (x ∷ xs) = put R x.0 (x.1 ∷ below_key R x.0 (tree_of xs)) (tree_of xs)

    pub tree_grouped : (items : List (K × A)) → IsGrouped R items (tree_of items)
    unfolding tree_of
    tree_grouped [] = record { tree_is = record { sorted = tt; filled = λ k e. cc }; each = λ k. refl }
    tree_grouped (x ∷ xs) =
        let g = tree_grouped xs in
        let t = tree_of xs in
        let l = x.1 ∷ below_key R x.0 t in
        record {
          tree_is = record {
            sorted = is_sorted-put R total x.0 l t g.tree_is.sorted;
            filled = λ k. filled k x t l (eq_by_cmp R k x.0) (find-put R total k x.0 l t) (λ e. cc) (g.tree_is.filled k);
          };
          each = λ k. ap (λ o. unwrap_or o []) (find-put R total k x.0 l t) ∙ each k x xs t (eq_by_cmp R k x.0) refl (g.each k) (g.each x.0);
        }
      where
        filled : (k : K) (x : K × A) (t : List (K × List A)) (l : List A) (b : Bool) → find R k (put R x.0 l t) ≡ cond b (Some l) (find R k t) → l ≢ [] → find R k t ≢ Some [] → find R k (put R x.0 l t) ≢ Some []
        filled k x t l true e n m = λ bad. let same : Some l ≡ Some [] = sym e ∙ bad in n (ap (λ o. unwrap_or o []) same)
        filled k x t l false e n m = λ bad. m (sym e ∙ bad)

        each : (k : K) (x : K × A) (xs : List (K × A)) (t : List (K × List A)) (b : Bool) → eq_by_cmp R k x.0 ≡ b → below_key R k t ≡ of_key R k xs → below_key R x.0 t ≡ of_key R x.0 xs
            → unwrap_or (cond b (Some (x.1 ∷ below_key R x.0 t)) (find R k t)) [] ≡ cond b (x.1 ∷ of_key R k xs) (of_key R k xs)
        each k x xs t true p e f = ap (λ m. x.1 ∷ m) (f ∙ ap (λ j. of_key R j xs) (sym (same R total one k x.0 p)))
        each k x xs t false p e f = e

  -- contents read through f for what stands, and through g, by key, for what is to show
  module _ {C D A B : Type 0} (f : C → D) (g : K → A → B) where
    abbrev pub olds : List (K × C) → List (K × D)
    olds [] = []
    olds (x ∷ xs) = (x.0, f x.1) ∷ olds xs

    abbrev pub through : K → List A → List B
    through k [] = []
    through k (a ∷ l) = g k a ∷ through k l

    abbrev pub trees : List (K × List A) → List (K × List B)
    trees [] = []
    trees (e ∷ es) = (e.0, through e.0 e.1) ∷ trees es

    abbrev pub news : List (K × Option C × A) → List (K × Option D × B)
    news [] = []
    news (s ∷ ss) = (s.0, option_map f s.1, g s.0 s.2) ∷ news ss

    news-append : (xs ys : List (K × Option C × A)) → news (xs ++ ys) ≡ news xs ++ news ys
    news-append [] ys = refl
    news-append (s ∷ xs) ys = ap (λ l. (s.0, option_map f s.1, g s.0 s.2) ∷ l) (news-append xs ys)

    olds-append : (xs : List (K × C)) (y : K × C) → olds (xs ++ y ∷ []) ≡ olds xs ++ (y.0, f y.1) ∷ []
    olds-append [] y = refl
    olds-append (x ∷ xs) y = ap (λ l. (x.0, f x.1) ∷ l) (olds-append xs y)

    two : (b : Bool) (c : C) (l : List C) (m : List D) → length l ≡ length m → length (cond b (c ∷ l) l) ≡ length (cond b (f c ∷ m) m)
    two true c l m e = omega (arith, e)
    two false c l m e = e

    as_many : (k : K) (xs : List (K × C)) → length (of_key R k xs) ≡ length (of_key R k (olds xs))
    as_many k [] = refl
    as_many k (x ∷ xs) = two (eq_by_cmp R k x.0) x.1 (of_key R k xs) (of_key R k (olds xs)) (as_many k xs)

    under : (k : K) (tree : List (K × List A)) → below_key R k (trees tree) ≡ through k (below_key R k tree)
    under k [] = refl
    under k (e ∷ es) = go e es (eq_by_cmp R k e.0) refl (under k es)
      where
        go : (e : K × List A) (es : List (K × List A)) (b : Bool) → eq_by_cmp R k e.0 ≡ b → below_key R k (trees es) ≡ through k (below_key R k es)
            → unwrap_or (cond b (Some (through e.0 e.1)) (find R k (trees es))) [] ≡ through k (unwrap_or (cond b (Some e.1) (find R k es)) [])
        go e es true p rest = ap (λ j. through j e.1) (sym (same R total one k e.0 p))
        go e es false p rest = rest

    got : (k : K) (l : List A) (i : ℕ) → slice_get (through k l) i ≡ option_map (g k) (slice_get l i)
    got k [] i = refl
    got k (a ∷ l) zero = refl
    got k (a ∷ l) (suc i) = got k l i

    dropped : (k : K) (l : List A) (i : ℕ) → drop i (through k l) ≡ through k (drop i l)
    dropped k [] zero = refl
    dropped k [] (suc i) = refl
    dropped k (a ∷ l) zero = refl
    dropped k (a ∷ l) (suc i) = dropped k l i

    survived : (x : K × C) (o : Option A) → survivor R (x.0, f x.1) (option_map (g x.0) o) ≡ news (survivor R x o)
    survived x None = refl
    survived x (Some a) = refl

    all_fresh : (k : K) (l : List A) → fresh R {C = D} k (through k l) ≡ news (fresh R {C = C} k l)
    all_fresh k [] = refl
    all_fresh k (a ∷ l) = ap (λ m. (k, None, g k a) ∷ m) (all_fresh k l)

    all_kept : (tree : List (K × List A)) (before rest : List (K × C)) → kept R (trees tree) (olds before) (olds rest) ≡ news (kept R tree before rest)
    all_kept tree before [] = refl
    all_kept tree before (x ∷ rest) =
        let n = length (of_key R x.0 before) in
        let s = survivor R x (slice_get (below_key R x.0 tree) n) in
        let o : slice_get (below_key R x.0 (trees tree)) (length (of_key R x.0 (olds before))) ≡ option_map (g x.0) (slice_get (below_key R x.0 tree) n) =
        ap (λ l. slice_get l (length (of_key R x.0 (olds before)))) (under x.0 tree) ∙ ap (λ m. slice_get (through x.0 (below_key R x.0 tree)) m) (sym (as_many x.0 before)) ∙ got x.0 (below_key R x.0 tree) n in
        ap (λ q. survivor R (x.0, f x.1) q ++ kept R (trees tree) (olds before ++ (x.0, f x.1) ∷ []) (olds rest)) o
        ∙ ap (λ q. q ++ kept R (trees tree) (olds before ++ (x.0, f x.1) ∷ []) (olds rest)) (survived x (slice_get (below_key R x.0 tree) n))
        ∙ ap (λ b. news s ++ kept R (trees tree) b (olds rest)) (sym (olds-append before x))
        ∙ ap (λ l. news s ++ l) (all_kept tree (before ++ x ∷ []) rest)
        ∙ sym (news-append s (kept R tree (before ++ x ∷ []) rest))

    all_added : (old : List (K × C)) (tree : List (K × List A)) → added R (olds old) (trees tree) ≡ news (added R old tree)
    all_added old [] = refl
    all_added old (e ∷ es) =
        let n = length (of_key R e.0 old) in
        ap (λ m. fresh R e.0 (drop m (through e.0 e.1)) ++ added R (olds old) (trees es)) (sym (as_many e.0 old))
        ∙ ap (λ l. fresh R e.0 l ++ added R (olds old) (trees es)) (dropped e.0 e.1 n)
        ∙ ap (λ l. l ++ added R (olds old) (trees es)) (all_fresh e.0 (drop n e.1))
        ∙ ap (λ l. news (fresh R e.0 (drop n e.1)) ++ l) (all_added old es)
        ∙ sym (news-append (fresh R e.0 (drop n e.1)) (added R old es))

    -- so a plan over numbers is one over contents
    pub rewritten_through : (old : List (K × C)) (tree : List (K × List A)) (new : List (K × Option C × A)) → IsRewritten R old tree new → IsRewritten R (olds old) (trees tree) (news new)
    rewritten_through old tree new made =
        ap news made ∙ news-append (kept R tree [] old) (added R old tree) ∙ ap (λ l. l ++ news (added R old tree)) (sym (all_kept tree [] old)) ∙ ap (λ l. kept R (trees tree) [] (olds old) ++ l) (sym (all_added old tree))

-- ---- the tree of items whose keys are UTF-8

lists_of : List (Name × Tree) → List (Name × List Tree)
lists_of = tree_of name_cmp name_total name_one

lists_fit : (items : List (Name × Tree)) → T (are_texts items) → T (are_edges (lists_of items))
unfolding lists_of tree_of
lists_fit [] texts = tt
lists_fit (x ∷ xs) texts =
    edges_put x.0 (x.1 ∷ below_key name_cmp x.0 (lists_of xs)) (lists_of xs) (text_tested x.0 (first _ _ texts))
    (lists_fit xs (second (is_utf8 x.0) _ texts))

pub some_tree : (items : List (Name × Tree)) → T (are_texts items) → (t : Tree) × IsItemTree items t
unfolding lists_of
some_tree items texts =
    let ls = lists_of items in (
      tree_of_lists ls,
      record { lists = ls; grouped = tree_grouped name_cmp name_total name_one items; below = standing_tree ls (lists_fit items texts) },
    )
