-- Where a lens shows no view of a tree, and puts none.
use Rattle.std.proofs.Common.{◌≡◌, inl, inr, List, ◌∷◌, Option, Some, None, IfSome, sym, ap, subst, ◌∙◌}
use Rattle.std.specs.Prelude.{not}
use Rattle.std.specs.FinSet.{contains}
use Rattle.std.specs.Option.{option_map}
use Rattle.std.proofs.lemmas.Option.{same_Some, none-some}
use Rattle.hm_tree.specs.Names.{Name}
use Rattle.hm_tree.specs.Classes.{IsInClass}
use Rattle.hm_tree.specs.Nodes.{Tree, edges, below}
use Rattle.hm_schema.specs.Values.{Names}
use Rattle.hm_text_lens.specs.Meanings.{TextMeaning}
use Rattle.hm_text_lens.specs.Naming.{first_named}
use Rattle.hm_terms.specs.Lenses.{Lens, hoist, plunge, fork, items, copy, merge, text, Setting}
use Rattle.hm_tree.specs.Parts.{part, Joins}
use Rattle.hm_tree_parts.specs.Lists.{IsList, no_items, an_item}
use Rattle.hm_tree_parts.specs.Edges.{IsValue}
use Rattle.hm_terms.specs.Shown.{Shows, by_hoist, by_fork, by_items_none, by_items_more, by_copy, by_text}
use Rattle.hm_terms.specs.Put.{Puts, put_plunge, put_fork, put_items_none, put_items_more, put_merge, put_text, value_before}
use Rattle.hm_tree_parts.specs.Twins.{of_same, of_other}
use Rattle.hm_tree_parts.proofs.OneEdge.{one_value}
use Rattle.hm_terms.proofs.OneShown.{one_shown}
use Rattle.hm_terms.proofs.OnePut.{one_put}

-- two trees with a common name are not joined
joins_apart : (x y t : Tree) (k : Name) (p q : Tree) → below k x ≡ Some p → below k y ≡ Some q → Joins x y t → ⊥
joins_apart x y t k p q at there j = elim (j.apart k) [ inl e ↦ none-some p (sym e ∙ at) | inr e ↦ none-some q (sym e ∙ there) ]

module _ (S : Setting) where
  -- ---- nothing is shown

  -- hoist, of a tree of two edges
  pub hoist_of_two : (n : Name) (c v : Tree) (e f : Name × Tree) (es : List (Name × Tree)) → edges c ≡ e ∷ f ∷ es → Shows S (hoist n) c v → ⊥
  hoist_of_two n c v e f es two (by_hoist one) = let no : ⊥ = cc in no

  -- copy, where the second name is there
  pub copy_onto : (m n : Name) (c v x : Tree) → below n c ≡ Some x → Shows S (copy m n) c v → ⊥
  copy_onto m n c v x there (by_copy at none e) = none-some x (sym none ∙ there)

  -- a lens on the items of what is no list
  pub shown_list : (l : Lens) (c v : Tree) → Shows S (items l) c v → IsList c
  shown_list l c v (by_items_none e f) = no_items e
  shown_list l c v (by_items_more {t = t} {r = r} e p q f) = an_item e tt (shown_list l t r q)

  -- fork, where both parts show a name
  pub fork_onto : (P Q : Names) (l k : Lens) (c v x y : Tree) (n : Name) (p q : Tree) → Shows S l (part (contains P) c) x
      → Shows S k (part (λ z. not (contains P z)) c) y → below n x ≡ Some p → below n y ≡ Some q → Shows S (fork P Q l k) c v → ⊥
  fork_onto P Q l k c v x y n p q one two at there (by_fork {x = x2} {y = y2} h i j) =
      joins_apart x2 y2 v n p q (ap (below n) (one_shown S h one) ∙ at) (ap (below n) (one_shown S i two) ∙ there) j

  -- text, of a value whose text isn't of the class that the text lens reads
  pub text_of_other : (x v : Name) (m : TextMeaning) (c a : Tree) → first_named x S.texts ≡ Some m → IsValue v c → ¬ (IsInClass m.from_class v)
      → Shows S (text x) c a → ⊥
  text_of_other x v m c a is value other (by_text {v = w} {m = k} at h e f) =
      other (subst (λ v. IsInClass m.from_class v) (one_value w v c e value) (subst (λ (k : TextMeaning). IsInClass k.from_class w) (same_Some k m (sym at ∙ is)) h))

  -- ---- nothing is put

  -- plunge, of a view of two edges
  pub plunge_of_two : (n : Name) (a c : Tree) (b : Option Tree) (e f : Name × Tree) (es : List (Name × Tree)) → edges a ≡ e ∷ f ∷ es
      → Puts S (plunge n) a b c → ⊥
  plunge_of_two n a c b e f es two (put_plunge one) = let no : ⊥ = cc in no

  -- merge, of a view that has the second name, and of one whose tree from before lacks it
  pub merge_onto : (m n : Name) (a c x : Tree) (b : Option Tree) → below n a ≡ Some x → Puts S (merge m n) a b c → ⊥
  merge_onto m n a c x b there (put_merge at none from e) = none-some x (sym none ∙ there)

  pub merge_without : (m n : Name) (a b c : Tree) → below n b ≡ None → Puts S (merge m n) a (Some b) c → ⊥
  merge_without m n a b c none (put_merge at gone (of_same {z = z} e f) h) = none-some z (sym none ∙ f)
  merge_without m n a b c none (put_merge at gone (of_other {w = w} e f d) h) = none-some w (sym none ∙ f)

  -- a lens on the items of what is no list, and with one from before that is none
  pub put_list : (l : Lens) (a c : Tree) (b : Option Tree) → Puts S (items l) a b c → IsList a × IfSome b IsList
  put_list l a c b (put_items_none before e f) = (no_items e, before)
  put_list l a c b (put_items_more {r = r} {t = t} before e p q f) = (an_item e tt (put_list l r t _ q).0, before)

  -- fork, where both parts put a name
  pub fork_put_onto : (P Q : Names) (l k : Lens) (a c x y : Tree) (b : Option Tree) (n : Name) (p q : Tree)
      → Puts S l (part (contains Q) a) (option_map (part (contains P)) b) x
      → Puts S k (part (λ z. not (contains Q z)) a) (option_map (part (λ z. not (contains P z))) b) y
      → below n x ≡ Some p → below n y ≡ Some q → Puts S (fork P Q l k) a b c → ⊥
  fork_put_onto P Q l k a c x y b n p q one two at there (put_fork {x = x2} {y = y2} h i j) =
      joins_apart x2 y2 c n p q (ap (below n) (one_put S h one) ∙ at) (ap (below n) (one_put S i two) ∙ there) j

  -- text, of a value whose text isn't of the class that it shows, and with one from before that isn't of the class that it reads
  pub text_put_other : (x w : Name) (m : TextMeaning) (a c : Tree) (b : Option Tree) → first_named x S.texts ≡ Some m → IsValue w a
      → ¬ (IsInClass m.into_class w) → Puts S (text x) a b c → ⊥
  text_put_other x w m a c b is value other (put_text {w = v} {m = k} at h e from f) =
      other (subst (λ w. IsInClass m.into_class w) (one_value v w a e value) (subst (λ (k : TextMeaning). IsInClass k.into_class v) (same_Some k m (sym at ∙ is)) h))

  pub text_put_over_other : (x u : Name) (m : TextMeaning) (a b c : Tree) → first_named x S.texts ≡ Some m → IsValue u b
      → ¬ (IsInClass m.from_class u) → Puts S (text x) a (Some b) c → ⊥
  text_put_over_other x u m a b c is value other (put_text {m = k} at h e (value_before {u = v} g i) f) =
      other (subst (λ u. IsInClass m.from_class u) (one_value v u b g value) (subst (λ (k : TextMeaning). IsInClass k.from_class v) (same_Some k m (sym at ∙ is)) i))
