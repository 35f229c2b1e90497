-- Trees with one edge, or with the two of a list.
use Rattle.std.proofs.Common.{◌≡◌, T, List, [], ◌∷◌, ◌++◌, map, length, Some, IsUtf8, sym, ap, subst, ◌∙◌, arith}
use Rattle.std.specs.List.{slice_get}
use Rattle.std.proofs.lemmas.Option.{same_Some}
use Rattle.hm_tree.specs.Names.{Name, name_cmp}
use Rattle.hm_tree.specs.Nodes.{Tree, node, edges, are_edges, edges_cons}
use Rattle.hm_tree.specs.NodeLaws.{edges-node}
use Rattle.hm_tree.proofs.Texts.{text_test}
use Rattle.hm_tree_parts.specs.Edges.{IsEdge}
use Rattle.hm_tree_parts.specs.Lists.{IsItem, head, tail}

module _ (n : Name) (x : Tree) (es fs : List (Name × Tree)) (text : IsUtf8 n) (none : es ≡ []) (more : fs ≡ es ++ (n, x) ∷ []) where
  one_made : fs ≡ (n, x) ∷ []
  one_made = more ∙ ap (λ l. l ++ (n, x) ∷ []) none

  pub one_fits : T (are_edges fs)
  one_fits = subst (λ l. T (are_edges l)) (sym one_made) (edges_cons (n, x) [] (text_test n text) tt tt)

  pub one_edge : (t : Tree) → t ≡ node fs → IsEdge n x t
  one_edge t is = ap edges is ∙ edges-node fs one_fits ∙ one_made

-- the two names of a list rise
rising : (x r : Tree) → IsUtf8 head → IsUtf8 tail → T (are_edges ((head, x) ∷ (tail, r) ∷ []))
unfolding name_cmp
rising x r one two = edges_cons (head, x) ((tail, r) ∷ []) (text_test head one) tt (edges_cons (tail, r) [] (text_test tail two) tt tt)

module _ (n k : Name) (x r : Tree) (es fs gs : List (Name × Tree)) (first : n ≡ head) (second : k ≡ tail) (one : IsUtf8 n) (two : IsUtf8 k)
    (none : es ≡ []) (more : fs ≡ es ++ (n, x) ∷ []) (all : gs ≡ fs ++ (k, r) ∷ []) where
  two_made : gs ≡ (head, x) ∷ (tail, r) ∷ []
  two_made = all ∙ ap (λ l. l ++ (k, r) ∷ []) (more ∙ ap (λ l. l ++ (n, x) ∷ []) none)
      ∙ ap (λ (m : Name). (m, x) ∷ (k, r) ∷ []) first ∙ ap (λ (m : Name). (head, x) ∷ (m, r) ∷ []) second

  pub two_fit : T (are_edges gs)
  two_fit = subst (λ l. T (are_edges l)) (sym two_made) (rising x r (subst IsUtf8 first one) (subst IsUtf8 second two))

  pub two_edges : (t : Tree) → t ≡ node gs → IsItem x r t
  two_edges t is = ap edges is ∙ edges-node gs two_fit ∙ two_made

-- the name of one edge
pub one_name : (es : List (Name × Tree)) (n : Name) (x : Tree) → length es ≡ 1 → slice_get es 0 ≡ Some (n, x) → map (λ (e : Name × Tree). e.0) es ≡ n ∷ []
one_name [] n x one is = absurd (omega arith)
one_name (e ∷ []) n x one is = ap (λ (e : Name × Tree). e.0 ∷ []) (same_Some e (n, x) is)
one_name (e ∷ d ∷ es) n x one is = absurd (omega arith)
