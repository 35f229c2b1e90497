-- What stands at a path, one step down, in trees and archives.
use Rattle.std.proofs.Common.{◌≡◌, ◌≢◌, Bool, true, false, List, [], ◌∷◌, ◌++◌, Some, refl, sym, ap, subst, ◌∙◌}
use Rattle.std.specs.FinMap.{find}
use Rattle.std.specs.List.{All}
use Rattle.std.specs.declared.cmp.Ordering.{Ordering}
use Rattle.std.specs.declared.cmp.Ordering.TheVariants.{Less, Equal, Greater}
use Rattle.std.proofs.lemmas.List.Elements.{All-head, All-tail}
use Rattle.hm_tree.specs.declared.archive.State.TheVariants.{Present, Marked}
use Rattle.hm_tree.specs.Names.{Name, name_cmp}
use Rattle.hm_tree.specs.Nodes.{Node, below, is_marked}
use Rattle.hm_tree.specs.States.{state, Path, HasNoMarkAbove}
use Rattle.hm_tree.proofs.Sorted.{name_one}

-- what holds of each edge holds of the one that is found
pub found_edge : {X : Type 0} (P : Name × X → Type 0) (k : Name) (c : X) (es : List (Name × X)) → All P es → find name_cmp k es ≡ Some c → P (k, c)
found_edge P k c [] all e = let no : ⊥ = cc in absurd no
found_edge P k c (x ∷ es) all e = go (name_cmp k x.0) refl (found_edge P k c es (All-tail P x es all))
  where
    go : (r : Ordering) → name_cmp k x.0 ≡ r → (find name_cmp k es ≡ Some c → P (k, c)) → P (k, c)
    go Less p rest = rest (rw p at e)
    go Greater p rest = rest (rw p at e)
    go Equal p rest =
        let same : Some x.1 ≡ Some c = rw p at e in
        let child : x.1 ≡ c = cc in
        let name = sym (name_one k x.0 p) in
        subst P (λ i. (name i, child i)) (All-head P x es all)

module _ {m : Bool} where
  pub unmarked_down : (t : Node m) (k : Name) (p : Path) → is_marked t ≡ false → state (Some t) (k ∷ p) ≡ state (below k t) p
  unmarked_down t k p u = rw u refl

  root_mark : (t : Node m) → state (Some t) [] ≢ Marked → is_marked t ≡ false
  root_mark t n = go (is_marked t) refl
    where
      go : (b : Bool) → is_marked t ≡ b → b ≡ false
      go false e = refl
      go true e = absurd (n (rw e refl))

  -- the root has no mark where none stands above a path below it
  pub unmarked_above : (t : Node m) (k : Name) (p : Path) → HasNoMarkAbove (Some t) (k ∷ p) → is_marked t ≡ false
  unmarked_above t k p above = root_mark t (above [] (k ∷ p) refl (λ e. let no : ⊥ = cc in no))

  pub above_down : (t : Node m) (k : Name) (p : Path) → HasNoMarkAbove (Some t) (k ∷ p) → HasNoMarkAbove (below k t) p
  above_down t k p above q r is some marked =
      above (k ∷ q) r (ap (λ l. k ∷ l) is) some (unmarked_down t k q (unmarked_above t k p above) ∙ marked)

  pub above_up : (t : Node m) (k : Name) (p : Path) → is_marked t ≡ false → HasNoMarkAbove (below k t) p → HasNoMarkAbove (Some t) (k ∷ p)
  above_up t k p u above [] r is some marked = let no : Present ≡ Marked = rw u at marked in cc
  above_up t k p u above (j ∷ q) r is some marked =
      let name : k ≡ j = cc in
      let rest : p ≡ q ++ r = cc in
      above q r rest some (sym (unmarked_down t k q u) ∙ ap (λ n. state (Some t) (n ∷ q)) name ∙ marked)
