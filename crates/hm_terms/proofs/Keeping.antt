-- What a lens keeps, read back of the two trees: each rule of `Keeps` says as much as it should.
use Rattle.std.proofs.Common.{◌≡◌, true, Some, None, sym, ap, subst, ◌∙◌}
use Rattle.std.specs.Prelude.{not, is_some}
use Rattle.std.specs.FinSet.{contains}
use Rattle.std.proofs.lemmas.Option.{same_Some, none-some}
use Rattle.hm_tree.specs.Names.{Name}
use Rattle.hm_tree.specs.Nodes.{Tree, below}
use Rattle.hm_tree.specs.Parts.{part}
use Rattle.hm_schema.specs.Values.{Names}
use Rattle.hm_text_lens.specs.Meanings.{TextMeaning}
use Rattle.hm_text_lens.specs.Naming.{first_named}
use Rattle.hm_terms.specs.Lenses.{Lens, Lenses, sequence, fork, each, among, items, on_concrete, on_view, text, call, lens_at, Setting, body_of}
use Rattle.hm_tree_parts.specs.Lists.{IsItem}
use Rattle.hm_tree_parts.specs.Edges.{IsValue}
use Rattle.hm_terms.specs.Shown.{Shows}
use Rattle.hm_terms.specs.Kept.{Keeps, keeps_sequence, keeps_fork, keeps_each, keeps_among, keeps_items_from_none, keeps_items_to_none, keeps_items_more, keeps_concrete_has, keeps_concrete_none, keeps_view_has, keeps_view_none, keeps_view_in, keeps_view_out, keeps_text, keeps_call}
use Rattle.hm_tree_parts.proofs.OneList.{nil_item, one_head, one_tail}
use Rattle.hm_tree_parts.proofs.OneEdge.{one_value}
use Rattle.hm_terms.proofs.OneShown.{one_shown}

module _ (S : Setting) where
  -- both lenses of a sequence keep, the second one between what the first one shows
  sequence_kept : (l k : Lens) (c d m n : Tree) → Shows S l c m → Shows S l d n → Keeps S (sequence l k) c d → Keeps S l c d × Keeps S k m n
  sequence_kept l k c d m n s t (keeps_sequence {m = m2} {n = n2} h s2 t2 g) =
      (h, subst (λ m. Keeps S k m n) (one_shown S s2 s) (subst (λ n. Keeps S k m2 n) (one_shown S t2 t) g))

  -- each lens of a fork keeps between its own parts
  fork_kept : (P Q : Names) (l k : Lens) (c d : Tree) → Keeps S (fork P Q l k) c d → Keeps S l (part (contains P) c) (part (contains P) d)
      × Keeps S k (part (λ n. not (contains P n)) c) (part (λ n. not (contains P n)) d)
  fork_kept P Q l k c d (keeps_fork h g) = (h, g)

  -- at a name that both trees have, its lens keeps
  each_kept : (l : Lens) (c d : Tree) (n : Name) (x y : Tree) → below n c ≡ Some x → below n d ≡ Some y → Keeps S (each l) c d → Keeps S l x y
  each_kept l c d n x y at there (keeps_each h) = h n x y at there

  among_kept : (ls : Lenses) (l : Lens) (c d : Tree) (n : Name) (x y : Tree) → lens_at n ls ≡ Some l → below n c ≡ Some x → below n d ≡ Some y
      → Keeps S (among ls) c d → Keeps S l x y
  among_kept ls l c d n x y named at there (keeps_among h) = h n l x y named at there

  -- the first items of two lists, and the others
  items_kept : (l : Lens) (c h t d x r : Tree) → IsItem h t c → IsItem x r d → Keeps S (items l) c d → Keeps S l h x × Keeps S (items l) t r
  items_kept l c h t d x r old new (keeps_items_from_none e) = absurd (nil_item h t c e old)
  items_kept l c h t d x r old new (keeps_items_to_none e) = absurd (nil_item x r d e new)
  items_kept l c h t d x r old new (keeps_items_more {h = h2} {t = t2} {x = x2} {r = r2} e f p q) = (
    subst (λ h. Keeps S l h x) (one_head h2 t2 h t c e old) (subst (λ x. Keeps S l h2 x) (one_head x2 r2 x r d f new) p),
    subst (λ t. Keeps S (items l) t r) (one_tail h2 t2 h t c e old) (subst (λ r. Keeps S (items l) t2 r) (one_tail x2 r2 x r d f new) q),
  )

  -- ccond: the name stays there, or stays away
  concrete_kept : (n : Name) (l k : Lens) (c d x : Tree) → below n c ≡ Some x → Keeps S (on_concrete n l k) c d
      → (is_some (below n d) ≡ true) × Keeps S l c d
  concrete_kept n l k c d x at (keeps_concrete_has e f h) = (ap is_some f, h)
  concrete_kept n l k c d x at (keeps_concrete_none e f h) = absurd (none-some x (sym e ∙ at))

  concrete_kept_away : (n : Name) (l k : Lens) (c d : Tree) → below n c ≡ None → Keeps S (on_concrete n l k) c d
      → (below n d ≡ None) × Keeps S k c d
  concrete_kept_away n l k c d none (keeps_concrete_has {x = x} e f h) = absurd (none-some x (sym none ∙ e))
  concrete_kept_away n l k c d none (keeps_concrete_none e f h) = (f, h)

  -- acond: where both trees are of one kind, the lens of that kind keeps
  view_kept : (n m : Name) (l k : Lens) (c d x y : Tree) → below n c ≡ Some x → below n d ≡ Some y → Keeps S (on_view n m l k) c d
      → Keeps S l c d
  view_kept n m l k c d x y at there (keeps_view_has e f h) = h
  view_kept n m l k c d x y at there (keeps_view_none e f h) = absurd (none-some x (sym e ∙ at))
  view_kept n m l k c d x y at there (keeps_view_in e f) = absurd (none-some x (sym e ∙ at))
  view_kept n m l k c d x y at there (keeps_view_out e f) = absurd (none-some y (sym f ∙ there))

  view_kept_away : (n m : Name) (l k : Lens) (c d : Tree) → below n c ≡ None → below n d ≡ None → Keeps S (on_view n m l k) c d → Keeps S k c d
  view_kept_away n m l k c d none gone (keeps_view_has {x = x} e f h) = absurd (none-some x (sym none ∙ e))
  view_kept_away n m l k c d none gone (keeps_view_none e f h) = h
  view_kept_away n m l k c d none gone (keeps_view_in {y = y} e f) = absurd (none-some y (sym gone ∙ f))
  view_kept_away n m l k c d none gone (keeps_view_out {x = x} e f) = absurd (none-some x (sym none ∙ e))

  -- two values that show the same text hide the same
  text_kept : (x u v : Name) (m : TextMeaning) (c d : Tree) → first_named x S.texts ≡ Some m → IsValue u c → IsValue v d
      → m.get_of u ≡ m.get_of v → Keeps S (text x) c d → m.hidden_of u ≡ m.hidden_of v
  text_kept x u v m c d is old new same (keeps_text {u = s} {v = t} {m = k} at e f h) =
      let by_u : k.get_of u ≡ k.get_of t → k.hidden_of u ≡ k.hidden_of t =
      subst (λ s. k.get_of s ≡ k.get_of t → k.hidden_of s ≡ k.hidden_of t) (one_value s u c e old) h in
      let by_v : k.get_of u ≡ k.get_of v → k.hidden_of u ≡ k.hidden_of v =
      subst (λ t. k.get_of u ≡ k.get_of t → k.hidden_of u ≡ k.hidden_of t) (one_value t v d f new) by_u in
      subst (λ (k : TextMeaning). k.get_of u ≡ k.get_of v → k.hidden_of u ≡ k.hidden_of v) (same_Some k m (sym at ∙ is)) by_v same

  -- a call keeps as the body of its definition
  call_kept : (n : Name) (l : Lens) (c d : Tree) → body_of S.definitions n ≡ Some l → Keeps S (call n) c d → Keeps S l c d
  call_kept n l c d is (keeps_call {l = k} at h) = subst (λ l. Keeps S l c d) (same_Some k l (sym at ∙ is)) h
