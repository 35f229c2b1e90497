-- What was shown of a tree from before is put back as that tree, and what was shown of its parts as those.
use Rattle.std.proofs.Common.{◌≡◌, ℕ, List, Option, Some, None, IfSome, slice_get, refl, sym, ap, subst, ◌∙◌}
use Rattle.std.specs.Borrow.{Bor}
use Rattle.std.proofs.lemmas.Option.{same_Some, none-some}
use Rattle.hm_tree.specs.Names.{Name}
use Rattle.hm_tree.specs.Nodes.{Tree, below}
use Rattle.hm_tree.specs.Archives.{under}
use Rattle.hm_terms.specs.declared.term.Term.{Term}
use Rattle.hm_terms.specs.Lenses.{Lens, items, call, Setting, body_of}
use Rattle.hm_terms.specs.Programs.{lens_of}
use Rattle.hm_tree_parts.specs.Lists.{IsList, head, tail}
use Rattle.hm_terms.specs.Put.{Puts, put_items_none, put_items_more, put_call}
use Rattle.hm_tree_parts.proofs.Maps.{beside}
use Rattle.hm_tree_parts.proofs.OneList.{below-head, below-tail, below-nil}
use Rattle.hm_eval_terms.specs.declared.children.Child.{Child}
use Rattle.hm_eval_terms.specs.Terms.{option_lens}
use Rattle.hm_eval_terms.specs.Conditions.{GivesBack, neither, given_back}
use Rattle.hm_eval_terms.specs.Children.{lens_for, AreChildren, IsOnChildren}
use Rattle.hm_eval_terms.proofs.OnChildren.{lens_here}
use Rattle.hm_eval_terms.proofs.PutItems.{view_list}
use Rattle.hm_eval_terms.proofs.PutChildren.{PutsBy, puts_over}

module _ (S : Setting) where
  pub same_back : (l k : Lens) (o b : Option Tree) → l ≡ k → GivesBack S k o b → GivesBack S l o b
  same_back l k o b e h = subst (λ l. GivesBack S l o b) (sym e) h

  none_back : (l : Lens) (o b : Option Tree) → o ≡ None → b ≡ None → GivesBack S l o b
  none_back l o b e f = subst (λ o. GivesBack S l o b) (sym e) (subst (GivesBack S l None) (sym f) neither)

  one_back : (l : Lens) (o b : Option Tree) (v c : Tree) → o ≡ Some v → b ≡ Some c → Puts S l v b c → GivesBack S l o b
  one_back l o b v c e f p =
      subst (λ o. GivesBack S l o b) (sym e) (subst (GivesBack S l (Some v)) (sym f) (given_back (subst (λ b. Puts S l v b c) f p)))

  -- ---- call
  pub called_back : (n : Name) (l z : Lens) (o b : Option Tree) → z ≡ call n → body_of S.definitions n ≡ Some l → GivesBack S z o b → GivesBack S l o b
  called_back n l z o b e is h = go o b (subst (λ z. GivesBack S z o b) e h)
    where
      go : (o b : Option Tree) → GivesBack S (call n) o b → GivesBack S l o b
      go o b neither = neither
      go o b (given_back {v = v} {b = c} (put_call {l = k} f p)) = given_back (subst (λ l. Puts S l v (Some c) c) (same_Some k l (sym f ∙ is)) p)

  -- ---- items
  module _ (l : Lens) where
    pub back_list : (o b : Option Tree) → GivesBack S (items l) o b → IfSome o IsList
    back_list o b neither = tt
    back_list o b (given_back {v = v} {b = c} p) = view_list S l v (Some c) c p

    pub head_back : (o b : Option Tree) → GivesBack S (items l) o b → GivesBack S l (under head o) (under head b)
    head_back o b neither = neither
    head_back o b (given_back {v = v} {b = c} (put_items_none is e f)) =
        none_back l (below head v) (below head c) (below-nil v e head) (below-nil c f head)
    head_back o b (given_back {v = v} {b = c} (put_items_more {x = x} {r = r} {h = h} {t = t} is e p q f)) =
        one_back l (below head v) (below head c) x h (below-head x r v e) (below-head h t c f) p

    pub tail_back : (o b : Option Tree) → GivesBack S (items l) o b → GivesBack S (items l) (under tail o) (under tail b)
    tail_back o b neither = neither
    tail_back o b (given_back {v = v} {b = c} (put_items_none is e f)) =
        none_back (items l) (below tail v) (below tail c) (below-nil v e tail) (below-nil c f tail)
    tail_back o b (given_back {v = v} {b = c} (put_items_more {x = x} {r = r} {h = h} {t = t} is e p q f)) =
        one_back (items l) (below tail v) (below tail c) r t (below-tail x r v e) (below-tail h t c f) q

    -- the same of what is taken off
    module _ (o b p q : Option Tree) (h : GivesBack S (items l) o b) where
      pub item_back : p ≡ under head o → q ≡ under head b → GivesBack S l p q
      item_back e f = subst (λ p. GivesBack S l p q) (sym e) (subst (GivesBack S l (under head o)) (sym f) (head_back o b h))

      pub others_back : p ≡ under tail o → q ≡ under tail b → GivesBack S (items l) p q
      others_back e f = subst (λ p. GivesBack S (items l) p q) (sym e) (subst (GivesBack S (items l) (under tail o)) (sym f) (tail_back o b h))

  -- ---- children
  below_back : (z l : Lens) → IsOnChildren z → (o b : Option Tree) (k : Name) → lens_for z k ≡ Some l → GivesBack S z o b
      → GivesBack S l (under k o) (under k b)
  below_back z l on o b k is neither = neither
  below_back z l on o b k is (given_back {v = v} {b = c} p) = go (below k v) (below k c) refl refl
    where
      go : (x y : Option Tree) → below k v ≡ x → below k c ≡ y → GivesBack S l (below k v) (below k c)
      go None None at there = none_back l (below k v) (below k c) at there
      go None (Some y) at there =
          let u = beside c v (sym (puts_over S z on v (Some c) c p).same) k y there in absurd (none-some u.0 (sym at ∙ u.1))
      go (Some x) None at there =
          let u = beside v c (puts_over S z on v (Some c) c p).same k x at in absurd (none-some u.0 (sym there ∙ u.1))
      go (Some x) (Some y) at there =
          one_back l (below k v) (below k c) x y at there
          (subst (λ m. PutsBy S m x (below k c) y) is ((puts_over S z on v (Some c) c p).each k x y at there))

  pub child_back : (z : Lens) (v : Tree) (es : List (Name × Child)) (on : IsOnChildren z) (are : AreChildren z v es) (i : ℕ) (k : Name) (x : Child) (t : Bor Term)
      (o b p q : Option Tree) → slice_get es i ≡ Some (k, x) → x.lens ≡ Some t → p ≡ under k o → q ≡ under k b → GivesBack S z o b
      → GivesBack S (lens_of t.now) p q
  child_back z v es on are i k x t o b p q at some e f h =
      subst (λ p. GivesBack S (lens_of t.now) p q) (sym e) (subst (GivesBack S (lens_of t.now) (under k o)) (sym f)
      (below_back z (lens_of t.now) on o b k (sym (lens_here z v es i k x are at) ∙ ap option_lens some) h))
