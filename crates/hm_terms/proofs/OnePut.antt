-- A lens puts at most one tree.
use Rattle.std.proofs.Common.{◌≡◌, Option, Some, refl, sym, ap, subst, ◌∙◌}
use Rattle.std.proofs.lemmas.Option.{same_Some, none-some}
use Rattle.hm_tree.specs.Nodes.{Tree, with_edge}
use Rattle.hm_tree.specs.Archives.{under}
use Rattle.hm_tree.specs.Names.{Name}
use Rattle.hm_text_lens.specs.Meanings.{TextMeaning}
use Rattle.hm_terms.specs.Lenses.{Lens, items, Setting}
use Rattle.hm_tree.specs.Parts.{Joins}
use Rattle.hm_tree_parts.specs.Lists.{IsItem, head, tail}
use Rattle.hm_tree_parts.specs.Edges.{IsValue}
use Rattle.hm_terms.specs.Put.{ShowsBefore, none_before, shown_before, ValueBefore, no_value_before, value_before, Puts, put_identity, put_sequence, put_constant, put_hoist, put_plunge, put_fork, put_each, put_among, put_call, put_copy, put_merge, put_text, put_items_none, put_items_more, put_concrete_has, put_concrete_none, put_view_has, put_view_none}
use Rattle.hm_tree_parts.specs.Twins.{MergedFrom, of_none, of_same, of_other}
use Rattle.hm_tree_parts.proofs.Maps.{same_each, beside, joined_one}
use Rattle.hm_terms.proofs.Maps.{same_named}
use Rattle.hm_tree_parts.proofs.OneEdge.{one_edge, edge_one, one_value, same_value}
use Rattle.hm_tree_parts.proofs.OneList.{nil_one, item_one, one_head, one_tail, nil_item}
use Rattle.hm_terms.proofs.OneShown.{one_shown}

-- one tree stands under the second of two merged names
pub one_merged : {m n : Name} {x : Tree} {b : Option Tree} {y z : Tree} → MergedFrom m n x b y → MergedFrom m n x b z → y ≡ z
one_merged of_none of_none = refl
one_merged (of_same e f) (of_same g h) = refl
one_merged (of_same {z = z} e f) (of_other {z = p} {w = w} g h d) = absurd (d (same_Some p w (sym g ∙ e ∙ sym f ∙ h)))
one_merged (of_other {z = p} {w = w} g h d) (of_same {z = z} e f) = absurd (d (same_Some p w (sym g ∙ e ∙ sym f ∙ h)))
one_merged (of_other {w = w} e f d) (of_other {w = v} g h k) = same_Some w v (sym f ∙ h)

-- one value stands there before, whatever reads it
one_value_before : {m n : TextMeaning} {b : Option Tree} {u v : Option Name} → ValueBefore m b u → ValueBefore n b v → u ≡ v
one_value_before no_value_before no_value_before = refl
one_value_before (value_before {b = b} {u = u} e h) (value_before {u = v} f i) = ap Some (one_value u v b e f)

module _ (S : Setting) where
  pub one_before : {l : Lens} {b m n : Option Tree} → ShowsBefore S l b m → ShowsBefore S l b n → m ≡ n
  one_before none_before none_before = refl
  one_before (shown_before p) (shown_before q) = ap Some (one_shown S p q)

  -- a lens puts at most one tree
  pub one_put : {l : Lens} {a : Tree} {b : Option Tree} {c d : Tree} → Puts S l a b c → Puts S l a b d → c ≡ d
  one_put put_identity put_identity = refl
  one_put (put_sequence {l = l} {k = k} {a = a} {m = m} {b = b} h p q) (put_sequence {m = w} {c = d} g r s) =
      one_put q (subst (λ m. Puts S l m b d) (sym (one_put p (subst (λ n. Puts S k a n w) (sym (one_before h g)) r))) s)
  one_put (put_constant e) (put_constant f) = e ∙ sym f
  one_put (put_hoist {n = n} {a = a} {c = c} e) (put_hoist {c = d} f) = edge_one n a c d e f
  one_put (put_plunge {n = n} {a = a} {c = c} e) (put_plunge {c = d} f) = one_edge n c d a e f
  one_put (put_fork {x = x} {y = y} {c = c} p q j) (put_fork {x = x2} {c = d} r s i) =
      joined_one x y c d j (subst (λ x. Joins x y d) (sym (one_put p r)) (subst (λ y. Joins x2 y d) (sym (one_put q s)) i))
  one_put (put_each {a = a} {c = c} e f) (put_each {c = d} g h) =
      same_each c d (sym e ∙ g) (λ k y z at there. let x = beside c a (sym e) k y at in one_put (f k x.0 y x.1 at) (h k x.0 z x.1 there))
  one_put (put_among {ls = ls} {a = a} {c = c} e f o) (put_among {c = d} g h i) =
      same_named c d (sym e ∙ g) ls (λ k l y z named at there. let x = beside c a (sym e) k y at in
      one_put (f k l x.0 y named x.1 at) (h k l x.0 z named x.1 there)) (λ k none. o k none ∙ sym (i k none))
  one_put (put_copy e) (put_copy f) = e ∙ sym f
  one_put (put_merge {m = m} {n = n} {a = a} {x = x} {y = y} {b = b} e f g h) (put_merge {x = x2} {y = y2} i j k l) =
      let one : y ≡ y2 = one_merged g (subst (λ x. MergedFrom m n x b y2) (same_Some x2 x (sym i ∙ e)) k) in
      h ∙ ap (λ y. with_edge n y a) one ∙ sym l
  one_put (put_items_none {c = v} i e f) (put_items_none {c = w} j g h) = nil_one v w f h
  one_put (put_items_none {a = a} i e f) (put_items_more {x = x} {r = r} j g p q h) = absurd (nil_item x r a e g)
  one_put (put_items_more {x = x} {r = r} i g p q h) (put_items_none {a = a} j e f) = absurd (nil_item x r a e g)
  one_put (put_items_more {l = l} {a = a} {x = x} {r = r} {c = c} {h = h} {t = t} {b = b} o e p q f)
      (put_items_more {x = x2} {r = r2} {c = d} {h = h2} {t = t2} s g i j k) =
      let one : h ≡ h2 = one_put p (subst (λ x. Puts S l x (under head b) h2) (one_head x2 r2 x r a g e) i) in
      let two : t ≡ t2 = one_put q (subst (λ r. Puts S (items l) r (under tail b) t2) (one_tail x2 r2 x r a g e) j) in
      item_one h t c d f (subst (λ h. IsItem h t d) (sym one) (subst (λ t. IsItem h2 t d) (sym two) k))
  one_put (put_concrete_has e p) (put_concrete_has f q) = one_put p q
  one_put (put_concrete_has {x = x} e p) (put_concrete_none f q) = absurd (none-some x (sym f ∙ e))
  one_put (put_concrete_none e p) (put_concrete_has {x = x} f q) = absurd (none-some x (sym e ∙ f))
  one_put (put_concrete_none e p) (put_concrete_none f q) = one_put p q
  one_put (put_view_has e p) (put_view_has f q) = one_put p q
  one_put (put_view_has {x = x} e p) (put_view_none f q) = absurd (none-some x (sym f ∙ e))
  one_put (put_view_none e p) (put_view_has {x = x} f q) = absurd (none-some x (sym e ∙ f))
  one_put (put_view_none e p) (put_view_none f q) = one_put p q
  one_put (put_text {w = w} {m = m} {a = a} {c = c} {u = u} is h e p f) (put_text {w = w2} {m = n} {c = d} {u = u2} is2 i g q k) =
      let one : m ≡ n = same_Some m n (sym is ∙ is2) in
      let text : w ≡ w2 = one_value w w2 a e g in
      let before : u ≡ u2 = one_value_before p q in
      same_value (m.put_of w u) c d f (subst (λ t. IsValue t d) (sym (λ i. (one i).put_of (text i) (before i))) k)
  one_put (put_call {a = a} {b = b} e p) (put_call {c = d} f q) =
      one_put p (subst (λ l. Puts S l a b d) (same_Some _ _ (sym f ∙ e)) q)
