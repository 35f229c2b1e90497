-- A lens goes from a source to one view at the most, has one fault at the most, and never both.
use Rattle.std.proofs.Common.{◌≡◌, Bool, true, false, [], Some, None, refl, sym, ap, subst, ◌∙◌}
use Rattle.std.specs.FinMap.{find}
use Rattle.std.specs.FinSet.{contains}
use Rattle.std.proofs.lemmas.Option.{same_Some}
use Rattle.hm_tree.specs.Names.{Name, name_cmp}
use Rattle.hm_schema.specs.Values.{NodeOver}
use Rattle.hm_terms.specs.Lenses.{Lens, Lenses, lens_at}
use Rattle.hm_types_nodes.specs.Branching.{node_with, node_without}
use Rattle.hm_types_nodes.specs.Copying.{hidden_node}
use Rattle.hm_schema_lists.specs.Values.{with_class}
use Rattle.hm_types_nodes.specs.Joining.{IsJoined}
use Rattle.hm_types_nodes.specs.Merging.{IsMerged}
use Rattle.hm_types_nodes.specs.Copying.{IsCopied}
use Rattle.hm_types_forms.specs.Forms.{Form, Label, Step, named, others, under, node_of, formed, can_be}
use Rattle.hm_types_rules.specs.Typing.{Types, Goes, goes_identity, goes_sequence, goes_constant, goes_hoist, goes_plunge, goes_fork, goes_each, goes_among, goes_list, goes_items, goes_copy, goes_merge, goes_text, goes_concrete, goes_view, goes_call, list_form, items_form, IsPlain, inside_form, outside_form}
use Rattle.hm_types_rules.proofs.Determined.{same_form, node_one, joined_one, merged_one, copied_one, forked_one, list_one, items_one, list_or_items}

pub label_one : (u : Form) (a b : Label) → IsPlain u a → IsPlain u b → a ≡ b
label_one u a b p q = same_Some a b (sym p.is ∙ q.is)

-- ---- what is under each step is one

each_one : (R : Form → Form → Type 0) (u v w : Form) (a : Label) → v [] ≡ Some a → w [] ≡ Some a
    → ((s : Step) → can_be a s ≡ true → under s v ≡ under s w) → ((s : Step) → can_be a s ≡ false → under s v ≡ under s u)
    → ((s : Step) → can_be a s ≡ false → under s w ≡ under s u) → v ≡ w
each_one R u v w a e f same left right = same_form v w (e ∙ sym f) (λ s. go s (can_be a s) refl)
  where
    go : (s : Step) (b : Bool) → can_be a s ≡ b → under s v ≡ under s w
    go s true h = same s h
    go s false h = left s h ∙ sym (right s h)

among_one : (u v w : Form) (a : Label) (ls : Lenses) → v [] ≡ Some a → w [] ≡ Some a
    → ((k : Name) (l : Lens) → lens_at k ls ≡ Some l → under (named k) v ≡ under (named k) w)
    → ((k : Name) → lens_at k ls ≡ None → under (named k) v ≡ under (named k) u)
    → ((k : Name) → lens_at k ls ≡ None → under (named k) w ≡ under (named k) u) → under others v ≡ under others w → v ≡ w
among_one u v w a ls e f same left right rest = same_form v w (e ∙ sym f) go
  where
    by_name : (k : Name) (l : _) → lens_at k ls ≡ l → under (named k) v ≡ under (named k) w
    by_name k (Some l) h = same k l h
    by_name k None h = left k h ∙ sym (right k h)

    go : (s : Step) → under s v ≡ under s w
    go (named k) = by_name k (lens_at k ls) refl
    go others = rest

-- ---- the two nodes at which two views begin

both_joined : (q : Name → Bool) (one two one2 two2 n m : NodeOver Form) → one ≡ one2 → two ≡ two2 → IsJoined q one two n → IsJoined q one2 two2 m
    → formed n ≡ formed m
both_joined q one two one2 two2 n m e f h k =
    ap formed (joined_one q one two n m h (subst (λ x. IsJoined q x two m) (sym e) (subst (λ y. IsJoined q one2 y m) (sym f) k)))

both_merged : (o : Name) (one two one2 two2 n m : NodeOver Form) → one ≡ one2 → two ≡ two2 → IsMerged o one two n → IsMerged o one2 two2 m
    → formed n ≡ formed m
both_merged o one two one2 two2 n m e f h k =
    ap formed (merged_one o one two n m h (subst (λ x. IsMerged o x two m) (sym e) (subst (λ y. IsMerged o one2 y m) (sym f) k)))

both_copied : (a b : Name) (n m v w : NodeOver Form) → n ≡ m → IsCopied a b n v → IsCopied a b m w → formed v ≡ formed w
both_copied a b n m v w e h k = ap formed (copied_one a b n v w h (subst (λ x. IsCopied a b x w) (sym e) k))

one_under : (x y : Form) (n m : NodeOver Form) → x ≡ y → node_of x ≡ Some n → node_of y ≡ Some m → n ≡ m
one_under x y n m e h k = same_Some n m (sym h ∙ ap (λ (u : Form). node_of u) e ∙ k)

-- ---- one view

module _ (T : Types) where
  -- what is said of a form is said of an equal one
  from : {l : Lens} (u v w : Form) → u ≡ v → Goes T l v w → Goes T l u w
  from {l} u v w e g = subst (λ (x : Form). Goes T l x w) (sym e) g

  pub goes_once : {l : Lens} {u v w : Form} → Goes T l u v → Goes T l u w → v ≡ w
  goes_once goes_identity goes_identity = refl
  goes_once (goes_sequence {m = m} f g) (goes_sequence {m = o} {v = w} h i) = goes_once g (from m o w (goes_once f h) i)
  goes_once (goes_constant m e) (goes_constant o f) = e ∙ sym f
  goes_once (goes_hoist {m = m} {u = u} {v = v} {n = n} is alone at) (goes_hoist {v = w} {n = o} is2 alone2 at2) =
      same_Some v w (sym at ∙ ap (λ (n : NodeOver Form). find name_cmp m n.children) (node_one u n o is is2) ∙ at2)
  goes_once (goes_plunge e) (goes_plunge f) = e ∙ sym f
  goes_once (goes_fork {P = P} {Q = Q} {u = u} {x = x} {y = y} {n = n} {one = one} {two = two} {w = v} {a = a} s f g j is e)
      (goes_fork {x = x2} {y = y2} {n = n2} {one = one2} {two = two2} {w = w} {a = a2} s2 f2 g2 j2 is2 e2) =
      let same = forked_one P u n n2 a a2 s s2 in
      let in_one : inside_form P n a ≡ inside_form P n2 a2 = λ i. inside_form P (same.0 i) (same.1 i) in
      let out_one : outside_form P n a ≡ outside_form P n2 a2 = λ i. outside_form P (same.0 i) (same.1 i) in
      e ∙ both_joined (contains Q) one two one2 two2 v w
      (one_under x x2 one one2 (goes_once f (from (inside_form P n a) (inside_form P n2 a2) x2 in_one f2)) j.node_one j2.node_one)
      (one_under y y2 two two2 (goes_once g (from (outside_form P n a) (outside_form P n2 a2) y2 out_one g2)) j.node_two j2.node_two) is is2
      ∙ sym e2
  goes_once (goes_each {l = l} {u = u} {v = v} {a = a} p e f g) (goes_each {v = w} {a = b} q h i j) =
      let same : b ≡ a = label_one u b a q p in
      each_one (Goes T l) u v w a e (h ∙ ap Some same)
      (λ s t. goes_once (f s t) (i s (ap (λ (c : Label). can_be c s) same ∙ t))) g (λ s t. j s (ap (λ (c : Label). can_be c s) same ∙ t))
  goes_once (goes_among {ls = ls} {u = u} {v = v} {a = a} p o e f g r) (goes_among {v = w} {a = b} q o2 h i j r2) =
      among_one u v w a ls e (h ∙ ap Some (label_one u b a q p)) (λ k l at. goes_once (f k l at) (i k l at)) g j (r ∙ sym r2)
  goes_once (goes_list {u = u} {x = x} {y = y} {empty_first = b} is g e) (goes_list {x = x2} {y = y2} {empty_first = c} is2 g2 e2) =
      let same = list_one u x x2 b c is is2 in
      let view : y ≡ y2 = goes_once g (from x x2 y2 same.0 g2) in
      e ∙ (λ i. list_form (same.1 i) (view i)) ∙ sym e2
  goes_once (goes_list {u = u} {x = x} {empty_first = b} is g e) (goes_items {x = x2} {empty_first = c} is2 g2 e2) =
      absurd (list_or_items u x x2 b c is is2)
  goes_once (goes_items {x = x2} {empty_first = c} is2 g2 e2) (goes_list {u = u} {x = x} {empty_first = b} is g e) =
      absurd (list_or_items u x x2 b c is is2)
  goes_once (goes_items {u = u} {x = x} {y = y} {empty_first = b} is g e) (goes_items {x = x2} {y = y2} {empty_first = c} is2 g2 e2) =
      let same = items_one u x x2 b c is is2 in
      let view : y ≡ y2 = goes_once g (from x x2 y2 same.0 g2) in
      e ∙ (λ i. items_form (same.1 i) (view i)) ∙ sym e2
  goes_once (goes_copy {m = m} {o = o} {u = u} {n = n} {w = v} is can copied e) (goes_copy {n = n2} {w = w} is2 can2 copied2 e2) =
      e ∙ both_copied m o n n2 v w (node_one u n n2 is is2) copied copied2 ∙ sym e2
  goes_once (goes_merge {o = o} {u = u} {n = n} is can e) (goes_merge {n = n2} is2 can2 e2) =
      e ∙ ap (λ (n : NodeOver Form). formed (hidden_node o n)) (node_one u n n2 is is2) ∙ sym e2
  goes_once (goes_concrete {m = m} {u = u} {v = v} {n = n} b f g s) (goes_concrete {v = w} {n = n2} b2 f2 g2 s2) =
      goes_once f (from (formed (node_with m n)) (formed (node_with m n2)) w (ap (λ n. formed (node_with m n)) (node_one u n n2 b.node b2.node)) f2)
  goes_once (goes_view {m = m} {o = o} {u = u} {x = x} {y = y} {n = n} {one = one} {two = two} {w = v} b f g c is e)
      (goes_view {x = x2} {y = y2} {n = n2} {one = one2} {two = two2} {w = w} b2 f2 g2 c2 is2 e2) =
      let same = node_one u n n2 b.node b2.node in
      e ∙ both_merged o one two one2 two2 v w
      (one_under x x2 one one2 (goes_once f (from (formed (node_with m n)) (formed (node_with m n2)) x2
      (ap (λ n. formed (node_with m n)) same) f2)) c.node_one c2.node_one)
      (one_under y y2 two two2 (goes_once g (from (formed (node_without m n)) (formed (node_without m n2)) y2
      (ap (λ n. formed (node_without m n)) same) g2)) c.node_two c2.node_two)
      is is2 ∙ sym e2
  goes_once (goes_text {c = c} {d = d} {u = u} {n = n} is a e) (goes_text {c = c2} {d = d2} {n = n2} is2 b e2) =
      let one : (c, d) ≡ (c2, d2) = same_Some (c, d) (c2, d2) (sym is ∙ is2) in
      let node : n ≡ n2 = node_one u n n2 a.node b.node in
      e ∙ (λ i. formed (with_class (one i).1 (node i))) ∙ sym e2
  goes_once (goes_call {v = v} {x = x} is s) (goes_call {v = w} {x = x2} is2 s2) = ap (λ (p : Form × Form). p.1) (same_Some (x, v) (x2, w) (sym is ∙ is2))
