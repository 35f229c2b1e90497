-- The definitions, tried on small trees: what each kind of lens shows, and what it puts with a tree from before.
use Rattle.std.proofs.Common.{◌≡◌, true, false, [], ◌∷◌, Option, Some, None, refl, sym, ◌∙◌, ap}
use Rattle.std.specs.Prelude.{not}
use Rattle.std.specs.FinSet.{contains}
use Rattle.std.specs.Cmp.{Equal-is}
use Rattle.std.proofs.lemmas.Cmp.{tied_itself}
use Rattle.std.proofs.lemmas.Option.{same_Some}
use Rattle.std.specs.Option.{option_map}
use Rattle.std.specs.FinMap.{find}
use Rattle.std.specs.Ordering.{eq_by_cmp}
use Rattle.hm_tree.specs.Names.{Name, name_cmp}
use Rattle.hm_tree.specs.Nodes.{Tree, edges, below, with_edge, without_edge}
use Rattle.hm_tree.proofs.Sorted.{name_total}
use Rattle.hm_schema.specs.Values.{Names}
use Rattle.hm_terms.specs.Lenses.{Lens, Lenses, identity, sequence, constant, hoist, plunge, fork, each, among, also, items, copy, merge, on_concrete, on_view, call, lens_at, Setting, DefinitionValue}
use Rattle.hm_tree.specs.Parts.{part, Joins}
use Rattle.hm_tree_parts.specs.Edges.{IsEdge}
use Rattle.hm_tree_parts.specs.Lists.{IsNil, IsItem, IsList, no_items, an_item}
use Rattle.hm_terms.specs.Shown.{Shows, by_identity, by_sequence, by_hoist, by_plunge, by_fork, by_merge, by_concrete_has, by_view_has, by_view_none, by_call}
use Rattle.hm_terms.specs.Put.{Puts, shown_before, put_identity, put_sequence, put_constant, put_hoist, put_plunge, put_fork, put_copy, put_merge, put_items_none, put_items_more, put_each, put_among, put_concrete_has, put_concrete_none, put_view_has, put_view_none}
use Rattle.hm_tree_parts.specs.Twins.{of_same, of_other}
use Rattle.hm_terms.specs.Kept.{Keeps, keeps_constant, keeps_merge_same, keeps_merge_other}
use Rattle.hm_tree.proofs.Parted.{edges-part}
use Rattle.hm_tree_parts.proofs.OneList.{below-head, below-tail}

module _ (S : Setting) where
  -- ---- a name is exchanged for another, `xfork({a},{b},hoist(a);plunge(b),id)`, in a tree of a and d

  module _ (P Q : Names) (a b d : Name) (taken : contains P a ≡ true) (left : contains P d ≡ false) (put_back : contains Q b ≡ true)
      (kept : contains Q d ≡ false) where
    abbrev rename : Lens
    rename = fork P Q (sequence (hoist a) (plunge b)) identity

    -- the part of the names in P is a alone, and that of the others is d alone
    only_a : (c x y : Tree) → edges c ≡ (a, x) ∷ (d, y) ∷ [] → IsEdge a x (part (contains P) c)
    only_a c x y two = edges-part (contains P) c ∙ rw (two, taken, left) refl

    only_b : (v x y : Tree) → edges v ≡ (b, x) ∷ (d, y) ∷ [] → IsEdge b x (part (contains Q) v)
    only_b v x y two = edges-part (contains Q) v ∙ rw (two, put_back, kept) refl

    rename_shows : (c u v x y : Tree) → edges c ≡ (a, x) ∷ (d, y) ∷ [] → IsEdge b x u → Joins u (part (λ n. not (contains P n)) c) v
        → Shows S rename c v
    rename_shows c u v x y two one j = by_fork (by_sequence (by_hoist (only_a c x y two)) (by_plunge one)) by_identity j

    -- the changed child goes back to a, and d is put as the view has it
    rename_puts : (v o u c x z y w : Tree) → edges v ≡ (b, x) ∷ (d, y) ∷ [] → edges o ≡ (a, z) ∷ (d, w) ∷ [] → IsEdge a x u
        → Joins u (part (λ n. not (contains Q n)) v) c → Puts S rename v (Some o) c
    rename_puts v o u c x z y w new old one j = put_fork
        (put_sequence (shown_before (by_hoist (only_a o z w old))) (put_plunge (only_b v x y new)) (put_hoist one)) put_identity j

  -- ---- what isn't shown comes from before

  -- const: the tree from before, or the other one where there is none
  constant_keeps : (t d o : Tree) → Puts S (constant t d) t (Some o) o
  constant_keeps t d o = put_constant refl

  constant_default : (t d : Tree) → Puts S (constant t d) t None d
  constant_default t d = put_constant refl

  -- merge: a child that was another one stays, and one that was the same becomes the new one
  merge_keeps : (m n : Name) (a o x z w : Tree) → below m a ≡ Some x → below n a ≡ None → below m o ≡ Some z → below n o ≡ Some w
      → ¬ (z ≡ w)
      → Puts S (merge m n) a (Some o) (with_edge n w a)
  merge_keeps m n a o x z w at none one two apart = put_merge at none (of_other one two apart) refl

  merge_follows : (m n : Name) (a o x z : Tree) → below m a ≡ Some x → below n a ≡ None → below m o ≡ Some z → below n o ≡ Some z
      → Puts S (merge m n) a (Some o) (with_edge n x a)
  merge_follows m n a o x z at none one two = put_merge at none (of_same one two) refl

  -- so no tree is kept but the same one, and the other child is
  constant_kept : (t d o c : Tree) → Keeps S (constant t d) o c → o ≡ c
  constant_kept t d o c keeps_constant = refl

  merge_kept : (m n : Name) (o c z w : Tree) → below m o ≡ Some z → below n o ≡ Some w → ¬ (z ≡ w) → Keeps S (merge m n) o c
      → below n c ≡ Some w
  merge_kept m n o c z w one two apart (keeps_merge_same {x = x} e f g h) =
      absurd (apart (same_Some z w (sym one ∙ e ∙ sym f ∙ two)))
  merge_kept m n o c z w one two apart (keeps_merge_other e f other h) = h ∙ sym f ∙ two

  -- of two names the second one is not shown by merge, and goes when copy puts
  module _ (m n : Name) (apart : eq_by_cmp name_cmp n m ≡ false) where
    first_left : (t u x y : Tree) → edges t ≡ (m, x) ∷ (n, y) ∷ [] → u ≡ without_edge n t → IsEdge m x u
    first_left t u x y two e =
        ap edges e ∙ (edges-part (λ k. not (eq_by_cmp name_cmp n k)) t ∙ rw (two, apart, (Equal-is (name_cmp n n)).1 (tied_itself name_total n)) refl)

    merge_shows : (c v x y : Tree) → edges c ≡ (m, x) ∷ (n, y) ∷ [] → Shows S (merge m n) c v → IsEdge m x v
    merge_shows c v x y two (by_merge e) = first_left c v x y two e

    copy_puts : (a c x y : Tree) (b : Option Tree) → edges a ≡ (m, x) ∷ (n, y) ∷ [] → Puts S (copy m n) a b c → IsEdge m x c
    copy_puts a c x y b two (put_copy e) = first_left a c x y two e

  -- ---- conditionals

  -- acond: the view tells which lens puts it, and a tree from before of the other kind counts as none
  view_tells : (n m : Name) (l k : Lens) (a o c x : Tree) → below m a ≡ Some x → below n o ≡ None → Puts S l a None c
      → Puts S (on_view n m l k) a (Some o) c
  view_tells n m l k a o c x at none h = put_view_has at (rw none h)

  -- one of the same kind is put into
  view_keeps : (n m : Name) (l k : Lens) (a o c x y : Tree) → below m a ≡ Some x → below n o ≡ Some y → Puts S l a (Some o) c
      → Puts S (on_view n m l k) a (Some o) c
  view_keeps n m l k a o c x y at there h = put_view_has at (rw there h)

  -- so it is where the view lacks its name
  view_lacks : (n m : Name) (l k : Lens) (a o c y : Tree) → below m a ≡ None → below n o ≡ Some y → Puts S k a None c
      → Puts S (on_view n m l k) a (Some o) c
  view_lacks n m l k a o c y at there h = put_view_none at (rw there h)

  view_lacks_both : (n m : Name) (l k : Lens) (a o c : Tree) → below m a ≡ None → below n o ≡ None → Puts S k a (Some o) c
      → Puts S (on_view n m l k) a (Some o) c
  view_lacks_both n m l k a o c at none h = put_view_none at (rw none h)

  -- what is shown goes by the name that the concrete tree has
  view_shows : (n m : Name) (l k : Lens) (c v x : Tree) → below n c ≡ Some x → Shows S l c v → Shows S (on_view n m l k) c v
  view_shows n m l k c v x at h = by_view_has at h

  view_shows_other : (n m : Name) (l k : Lens) (c v : Tree) → below n c ≡ None → Shows S k c v → Shows S (on_view n m l k) c v
  view_shows_other n m l k c v none h = by_view_none none h

  -- ccond: the tree from before tells it
  concrete_tells : (n : Name) (l k : Lens) (a o c x : Tree) → below n o ≡ Some x → Puts S l a (Some o) c → Puts S (on_concrete n l k) a (Some o) c
  concrete_tells n l k a o c x at h = put_concrete_has at h

  -- with none from before it is the second lens
  concrete_default : (n : Name) (l k : Lens) (a c : Tree) → Puts S k a None c → Puts S (on_concrete n l k) a None c
  concrete_default n l k a c h = put_concrete_none refl h

  concrete_shows : (n : Name) (l k : Lens) (c v x : Tree) → below n c ≡ Some x → Shows S l c v → Shows S (on_concrete n l k) c v
  concrete_shows n l k c v x at h = by_concrete_has at h

  -- ---- children are matched by their names, and what has no lens is put as the view has it

  each_by_name : (l : Lens) (a o c : Tree) (n : Name) (x y : Tree) → below n a ≡ Some x → below n c ≡ Some y → Puts S (each l) a (Some o) c
      → Puts S l x (below n o) y
  each_by_name l a o c n x y at there (put_each e h) = h n x y at there

  among_by_name : (ls : Lenses) (l : Lens) (a o c : Tree) (n : Name) (x y : Tree) → lens_at n ls ≡ Some l → below n a ≡ Some x
      → below n c ≡ Some y → Puts S (among ls) a (Some o) c → Puts S l x (below n o) y
  among_by_name ls l a o c n x y named at there (put_among e h others) = h n l x y named at there

  among_others : (ls : Lenses) (a c : Tree) (b : Option Tree) (n : Name) → lens_at n ls ≡ None → Puts S (among ls) a b c → below n c ≡ below n a
  among_others ls a c b n none (put_among e h others) = others n none

  -- the first lens of a name counts
  first_lens : (n : Name) (l k : Lens) (ls : Lenses) → lens_at n (also n l (also n k ls)) ≡ Some l
  first_lens n l k ls = rw ((Equal-is (name_cmp n n)).1 (tied_itself name_total n)) refl

  -- ---- the items of a list are matched by their places: of two from before, the first one is that of the one new item

  module _ (l : Lens) (a x r o u p w q : Tree) (new : IsItem x r a) (end : IsNil r) (old : IsItem u p o) (more : IsItem w q p) (last : IsNil q) where
    old_list : IsList o
    old_list = an_item old tt (an_item more tt (no_items last))

    by_place : (h t c : Tree) → IsNil t → Puts S l x (Some u) h → IsItem h t c → Puts S (items l) a (Some o) c
    by_place h t c none put is = put_items_more old_list new (rw (below-head u p o old) put)
        (rw (below-tail u p o old) (put_items_none (an_item more tt (no_items last)) end none)) is

  -- ---- calls

  -- a call is the body of its definition
  called : (n : Name) (d : DefinitionValue) (c v : Tree) → find name_cmp n S.definitions ≡ Some d → Shows S d.body c v → Shows S (call n) c v
  called n d c v is h = by_call (ap (option_map (λ (e : DefinitionValue). e.body)) is) h
