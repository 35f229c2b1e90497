-- A lens shows at most one tree.
use Rattle.std.proofs.Common.{◌≡◌, refl, sym, subst, ◌∙◌, ap}
use Rattle.std.proofs.lemmas.Option.{same_Some, none-some}
use Rattle.hm_tree.specs.Nodes.{Tree, with_edge}
use Rattle.hm_terms.specs.Lenses.{Lens, items, Setting}
use Rattle.hm_tree.specs.Parts.{Joins}
use Rattle.hm_tree_parts.specs.Lists.{IsItem}
use Rattle.hm_tree_parts.specs.Edges.{IsValue}
use Rattle.hm_terms.specs.Shown.{Shows, by_identity, by_sequence, by_constant, by_hoist, by_plunge, by_fork, by_each, by_among, by_call, by_copy, by_merge, by_text, by_items_none, by_items_more, by_concrete_has, by_concrete_none, by_view_has, by_view_none}
use Rattle.hm_tree_parts.proofs.Maps.{same_each, beside, joined_one}
use Rattle.hm_terms.proofs.Maps.{same_named}
use Rattle.hm_tree_parts.proofs.OneEdge.{one_edge, edge_one, one_value, same_value}
use Rattle.hm_tree_parts.proofs.OneList.{nil_one, item_one, one_head, one_tail, nil_item}

module _ (S : Setting) where
  -- a lens shows at most one tree
  pub one_shown : {l : Lens} {c v w : Tree} → Shows S l c v → Shows S l c w → v ≡ w
  one_shown by_identity by_identity = refl
  one_shown (by_sequence {k = k} {v = v} p q) (by_sequence {v = w} r s) =
      one_shown q (subst (λ m. Shows S k m w) (sym (one_shown p r)) s)
  one_shown by_constant by_constant = refl
  one_shown (by_hoist {n = n} {c = c} {v = v} e) (by_hoist {v = w} f) = one_edge n v w c e f
  one_shown (by_plunge {n = n} {c = c} {v = v} e) (by_plunge {v = w} f) = edge_one n c v w e f
  one_shown (by_fork {x = x} {y = y} {v = v} p q j) (by_fork {x = x2} {y = y2} {v = w} r s i) =
      joined_one x y v w j (subst (λ x. Joins x y w) (sym (one_shown p r)) (subst (λ y. Joins x2 y w) (sym (one_shown q s)) i))
  one_shown (by_each {c = c} {v = v} e f) (by_each {v = w} g h) =
      same_each v w (sym e ∙ g) (λ k y z at there. let x = beside v c (sym e) k y at in one_shown (f k x.0 y x.1 at) (h k x.0 z x.1 there))
  one_shown (by_among {ls = ls} {c = c} {v = v} e f o) (by_among {v = w} g h i) =
      same_named v w (sym e ∙ g) ls (λ k l y z named at there. let x = beside v c (sym e) k y at in
      one_shown (f k l x.0 y named x.1 at) (h k l x.0 z named x.1 there)) (λ k none. o k none ∙ sym (i k none))
  one_shown (by_copy {n = n} {c = c} at none e) (by_copy there gone f) =
      e ∙ ap (λ x. with_edge n x c) (same_Some _ _ (sym at ∙ there)) ∙ sym f
  one_shown (by_merge e) (by_merge f) = e ∙ sym f
  one_shown (by_items_none {v = v} e f) (by_items_none {v = w} g h) = nil_one v w f h
  one_shown (by_items_none {c = c} e f) (by_items_more {h = x} {t = r} g p q h) = absurd (nil_item x r c e g)
  one_shown (by_items_more {h = x} {t = r} g p q h) (by_items_none {c = c} e f) = absurd (nil_item x r c e g)
  one_shown (by_items_more {l = l} {c = c} {h = h} {t = t} {v = v} {x = x} {r = r} e p q f)
      (by_items_more {h = h2} {t = t2} {v = w} {x = x2} {r = r2} g i j k) =
      let one : x ≡ x2 = one_shown p (subst (λ h. Shows S l h x2) (one_head h2 t2 h t c g e) i) in
      let two : r ≡ r2 = one_shown q (subst (λ t. Shows S (items l) t r2) (one_tail h2 t2 h t c g e) j) in
      item_one x r v w f (subst (λ x. IsItem x r w) (sym one) (subst (λ r. IsItem x2 r w) (sym two) k))
  one_shown (by_concrete_has e p) (by_concrete_has f q) = one_shown p q
  one_shown (by_concrete_has {x = x} e p) (by_concrete_none f q) = absurd (none-some x (sym f ∙ e))
  one_shown (by_concrete_none e p) (by_concrete_has {x = x} f q) = absurd (none-some x (sym e ∙ f))
  one_shown (by_concrete_none e p) (by_concrete_none f q) = one_shown p q
  one_shown (by_view_has e p) (by_view_has f q) = one_shown p q
  one_shown (by_view_has {x = x} e p) (by_view_none f q) = absurd (none-some x (sym f ∙ e))
  one_shown (by_view_none e p) (by_view_has {x = x} f q) = absurd (none-some x (sym e ∙ f))
  one_shown (by_view_none e p) (by_view_none f q) = one_shown p q
  one_shown (by_text {v = v} {m = m} {c = c} {a = a} is h e f) (by_text {v = w} {m = n} {a = b} is2 i g k) =
      let one : m ≡ n = same_Some m n (sym is ∙ is2) in
      let text : v ≡ w = one_value v w c e g in
      same_value (m.get_of v) a b f (subst (λ t. IsValue t b) (sym ((λ i. (one i).get_of (text i)))) k)
  one_shown (by_call {c = c} {v = v} e p) (by_call {v = w} f q) =
      one_shown p (subst (λ l. Shows S l c w) (same_Some _ _ (sym f ∙ e)) q)
