-- The names of a tree or an archive are UTF-8, and so are those of each path that it has.
use Rattle.std.proofs.Common.{◌≡◌, ◌≢◌, ℕ, Bool, true, false, T, cond, List, [], ◌∷◌, slice_get, Option, Some, None, refl, sym, ap, subst, ◌∙◌}
use Rattle.std.specs.List.{All}
use Rattle.std.specs.Str.{IsUtf8, is_utf8}
use Rattle.std.proofs.lemmas.List.Elements.{All-nil, All-cons}
use Rattle.hm_tree.specs.declared.archive.State.TheVariants.{Missing, Present, Marked}
use Rattle.hm_tree.specs.Names.{Name}
use Rattle.hm_tree.specs.Nodes.{Node, edges, below, is_marked, are_texts, edges_texts, first, second}
use Rattle.hm_tree.specs.NodeLaws.{edges_are}
use Rattle.hm_tree.specs.States.{state, Path, HasNoMarkAbove}
use Rattle.hm_tree.proofs.Texts.{text_tested}
use Rattle.hm_tree.proofs.Sorted.{below_edge}
use Rattle.hm_tree.proofs.Steps.{found_edge, unmarked_down, unmarked_above, above_down}

all_texts : {X : Type 0} (es : List (Name × X)) → T (are_texts es) → All (λ e. IsUtf8 e.0) es
all_texts [] h = All-nil (λ e. IsUtf8 e.0)
all_texts (e ∷ es) h = All-cons (λ e. IsUtf8 e.0) e es (text_tested e.0 (first _ _ h)) (all_texts es (second (is_utf8 e.0) _ h))

module _ {m : Bool} where
  -- the name of each edge
  pub edges_utf8 : (t : Node m) → All (λ e. IsUtf8 e.0) (edges t)
  edges_utf8 t = all_texts (edges t) (edges_texts (edges t) (edges_are t))

  -- the name of one that was found, and of one at a place
  pub below_utf8 : (t : Node m) (k : Name) (c : Node m) → below k t ≡ Some c → IsUtf8 k
  below_utf8 t k c is = found_edge (λ (e : Name × Node m). IsUtf8 e.0) k c (edges t) (edges_utf8 t) is

  pub edge_utf8 : (t : Node m) (i : ℕ) (k : Name) (c : Node m) → slice_get (edges t) i ≡ Some (k, c) → IsUtf8 k
  edge_utf8 t i k c at = below_utf8 t k c (below_edge t i k c at)

  -- each name of a path at which something stands, down to a mark
  pub place_utf8 : (t : Option (Node m)) (p : Path) → state t p ≢ Missing → HasNoMarkAbove t p → All IsUtf8 p
  place_utf8 None p there above = absurd (there refl)
  place_utf8 (Some t) [] there above = All-nil IsUtf8
  place_utf8 (Some t) (k ∷ p) there above =
      let down = unmarked_down t k p (unmarked_above t k p above) in
      by (λ c. place_utf8 (Some c) p) (below k t) refl (λ e. there (down ∙ e)) (above_down t k p above)
    where
      by : ((c : Node m) → state (Some c) p ≢ Missing → HasNoMarkAbove (Some c) p → All IsUtf8 p)
          → (b : Option (Node m)) → below k t ≡ b → state (below k t) p ≢ Missing → HasNoMarkAbove (below k t) p → All IsUtf8 (k ∷ p)
      by rest None is there above = absurd (there (ap (λ z. state z p) is))
      by rest (Some c) is there above =
          All-cons IsUtf8 k p (below_utf8 t k c is)
          (rest c (λ e. there (ap (λ z. state z p) is ∙ e)) (subst (λ z. HasNoMarkAbove z p) is above))

  -- each name of a path that is present
  pub path_utf8 : (t : Option (Node m)) (p : Path) → state t p ≡ Present → All IsUtf8 p
  path_utf8 None p e = let no : ⊥ = cc in absurd no
  path_utf8 (Some t) [] e = All-nil IsUtf8
  path_utf8 (Some t) (k ∷ p) e = by (λ c. path_utf8 (Some c) p) (below k t) refl (lower (is_marked t) e)
    where
      lower : (b : Bool) → cond b Marked (state (below k t) p) ≡ Present → state (below k t) p ≡ Present
      lower true e = cc
      lower false e = e

      by : ((c : Node m) → state (Some c) p ≡ Present → All IsUtf8 p) → (b : Option (Node m)) → below k t ≡ b → state (below k t) p ≡ Present
          → All IsUtf8 (k ∷ p)
      by rest None is e = let no : Missing ≡ Present = sym (ap (λ z. state z p) is) ∙ e in let f : ⊥ = cc in absurd f
      by rest (Some c) is e = All-cons IsUtf8 k p (below_utf8 t k c is) (rest c (sym (ap (λ z. state z p) is) ∙ e))
