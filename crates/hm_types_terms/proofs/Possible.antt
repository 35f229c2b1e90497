-- A step that something at a well formed node may have leads to a node.
use Rattle.std.proofs.Common.{◌≡◌, ℕ, Bool, true, false, ◌||◌, IsTrue, List, [], ◌∷◌, All, Option, Some, None, is_some, refl, sym, ap, ◌∙◌}
use mathlib.Core.Bool.{false≢true}
use Rattle.std.specs.List.{list_any}
use Rattle.std.specs.Option.{option_map}
use Rattle.std.specs.FinMap.{find}
use Rattle.std.proofs.lemmas.List.Elements.{All-head, All-tail}
use Rattle.hm_tree.specs.declared.class.Class.{Class}
use Rattle.hm_tree.specs.Names.{name_cmp}
use Rattle.hm_schema.specs.declared.node.NodeId.{NodeId}
use Rattle.hm_schema.specs.Values.{NodeValue, is_listed}
use Rattle.hm_schema.specs.Tidied.{has_name, lets_in, is_positive}
use Rattle.hm_schema.specs.WellFormed.{IsWellFormedNode}
use Rattle.hm_types_forms.specs.Forms.{Step, named, others, next_of, can_be}

any_of : {X : Type 0} (p : X → Bool) (Q : Type 0) (xs : List X) → All (λ x. p x ≡ true → Q) xs → list_any p xs ≡ true → Q
any_of p Q [] h e = absurd (false≢true e)
any_of {X} p Q (x ∷ xs) h e =
    go (p x) refl e (All-head (λ (x : X). p x ≡ true → Q) x xs h) (λ e. any_of p Q xs (All-tail (λ (x : X). p x ≡ true → Q) x xs h) e)
  where
    go : (b : Bool) → p x ≡ b → (b || list_any p xs) ≡ true → (p x ≡ true → Q) → (list_any p xs ≡ true → Q) → Q
    go true t e here rest = here t
    go false t e here rest = rest e

some_is : {X : Type 0} (x : Option X) → is_some x ≡ true → (y : X) × (x ≡ Some y)
some_is None e = absurd (false≢true e)
some_is (Some y) e = (y, refl)

module _ (size : ℕ) (n : NodeValue) (w : IsWellFormedNode size n) where
  pub can_next : (s : Step) → can_be n s ≡ true → (j : NodeId) × (next_of n s ≡ Some j)
  can_next (named k) e = some_is (find name_cmp k n.children)
      (any_of (λ a. has_name a k) (IsTrue (is_listed n k)) n.shapes (λ i d lt has. (w.shapes i d lt).listed k has) e)
  can_next others e = go n.other refl
    where
      shut : (m : Option ℕ) → m ≡ Some 0 → is_positive m ≡ true → ⊥
      shut m f e = false≢true (ap is_positive (sym f) ∙ e)

      go : (o : Option (Class × NodeId)) → n.other ≡ o → (j : NodeId) × (option_map (λ (o : Class × NodeId). o.1) o ≡ Some j)
      go None f = absurd (any_of lets_in ⊥ n.shapes (λ i d lt some. shut _ ((w.shapes i d lt).none f).1 some) e)
      go (Some o) f = (o.1, refl)
