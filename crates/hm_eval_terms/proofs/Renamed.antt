-- What a lens that puts a name in place of another shows, and puts: the tree with the edge under that name instead.
use Rattle.std.proofs.Common.{◌≡◌, Bool, true, false, cond, not, IsSome, is_some, Option, Some, None, inl, inr, refl, sym, ap, subst, ◌∙◌}
use Rattle.std.specs.Prelude.{IsUtf8}
use Rattle.std.specs.FinMap.{find}
use Rattle.std.specs.FinSet.{contains}
use Rattle.std.specs.Option.{option_or}
use Rattle.std.specs.Ordering.{eq_by_cmp}
use Rattle.std.proofs.lemmas.Bool.{true≢false}
use Rattle.std.proofs.lemmas.Option.{same_Some}
use Rattle.hm_tree.specs.Names.{Name, name_cmp}
use Rattle.hm_tree.specs.Nodes.{Tree, below, with_edge, without_edge}
use Rattle.hm_tree.specs.Parts.{part, Joins}
use Rattle.hm_tree.proofs.NameSets.{tied_one, tied_self}
use Rattle.hm_tree.proofs.Sorted.{below_with, not_None}
use Rattle.hm_schema.specs.Values.{Names}
use Rattle.hm_terms.specs.Lenses.{Lens, identity, sequence, hoist, plunge, fork, Setting}
use Rattle.hm_tree_parts.specs.Edges.{IsEdge}
use Rattle.hm_terms.specs.Shown.{Shows, by_identity, by_sequence, by_hoist, by_plunge, by_fork}
use Rattle.hm_terms.specs.Put.{Puts, put_identity, put_sequence, put_hoist, put_plunge, put_fork}
use Rattle.hm_tree_parts.proofs.Maps.{same_children}
use Rattle.hm_tree.proofs.Parted.{below-part}
use Rattle.std.proofs.Common.{Box}
use Rattle.std.specs.declared.alloc.Global.{Global}
use Rattle.hm_terms.specs.declared.term.Term.{Term, Id, Seq, Hoist, Plunge, Fork}
use Rattle.hm_terms.specs.Programs.{lens_of}
use Rattle.hm_eval_terms.specs.Conditions.{IsShown, IsPut}
use Rattle.hm_eval_terms.specs.Renaming.{IsRenaming, IsRenamed}

pub renaming_is : {t a b l k : Term} {P Q : Names} {p q r s : Box Term Global} {m n : Name} → t ≡ Fork P Q p q → a ≡ p.value → b ≡ q.value
    → a ≡ Seq r s → b ≡ Id → l ≡ r.value → k ≡ s.value → l ≡ Hoist m → k ≡ Plunge n → IsRenaming (lens_of t) m n
renaming_is {P = P} {Q = Q} {p = p} {m = m} {n = n} fork_is one two seq_is id_is first second hoist_is plunge_is = record {
  part = P;
  shown = Q;
  is = ap lens_of fork_is ∙ (λ i. fork P Q (within i) (ap lens_of (sym two ∙ id_is) i));
}
  where
    within : lens_of p.value ≡ sequence (hoist m) (plunge n)
    within = ap lens_of (sym one ∙ seq_is) ∙ (λ i. sequence (ap lens_of (sym first ∙ hoist_is) i) (ap lens_of (sym second ∙ plunge_is) i))

module _ (P : Names) (m n : Name) (c : Tree) where
  abbrev pub outside : Tree
  outside = part (λ k. not (contains P k)) c

  -- what the lens shows, or puts, by its two parts
  pub record Taken : Type 0 where
    pub child : Tree
    pub shown : Tree
    pub view : Tree
    pub old : IsEdge m child (part (contains P) c)
    pub new : IsEdge n child shown
    pub joins : Joins shown outside view

  module _ (t : Taken) where
    inside : (k : Name) → cond (contains P k) (below k c) None ≡ cond (eq_by_cmp name_cmp k m) (Some t.child) None
    inside k = sym (below-part (contains P) c k) ∙ ap (find name_cmp k) t.old

    at_new : (k : Name) → below k t.shown ≡ cond (eq_by_cmp name_cmp k n) (Some t.child) None
    at_new k = ap (find name_cmp k) t.new

    at_old : cond (contains P m) (below m c) None ≡ Some t.child
    at_old = inside m ∙ ap (λ b. cond b (Some t.child) None) (tied_self m)

    pub there : below m c ≡ Some t.child
    there = go (contains P m) at_old
      where
        go : (b : Bool) → cond b (below m c) None ≡ Some t.child → below m c ≡ Some t.child
        go true e = e
        go false e = absurd (not_None t.child (sym e))

    -- P has no other name of the tree
    beside : (k : Name) → below k outside ≡ below k (without_edge m c)
    beside k = below-part (λ k. not (contains P k)) c k ∙ go (contains P k) (eq_by_cmp name_cmp m k) refl refl
        ∙ sym (below-part (λ k. not (eq_by_cmp name_cmp m k)) c k)
      where
        go : (b a : Bool) → contains P k ≡ b → eq_by_cmp name_cmp m k ≡ a → cond (not b) (below k c) None ≡ cond (not a) (below k c) None
        go true true e f = refl
        go false false e f = refl
        go true false e f = sym (ap (λ b. cond b (below k c) None) (sym e) ∙ inside k ∙ other (eq_by_cmp name_cmp k m) refl)
          where
            other : (d : Bool) → eq_by_cmp name_cmp k m ≡ d → cond d (Some t.child) None ≡ None
            other true g = absurd (true≢false (sym (tied_self m) ∙ ap (λ k. eq_by_cmp name_cmp m k) (sym (tied_one k m g)) ∙ f))
            other false g = refl
        go false true e f =
            let is : m ≡ k = tied_one m k f in
            absurd (not_None t.child (sym at_old ∙ ap (λ b. cond b (below m c) None) (ap (contains P) is ∙ e)))

    pub free : below n (without_edge m c) ≡ None
    free = elim (t.joins.apart n) [
      | inl h ↦ absurd (not_None t.child (sym (at_new n ∙ ap (λ b. cond b (Some t.child) None) (tied_self n)) ∙ h))
      | inr h ↦ sym (beside n) ∙ h
    ]

    pub view_is : IsUtf8 n → t.view ≡ with_edge n t.child (without_edge m c)
    view_is text = same_children t.view (with_edge n t.child (without_edge m c)) λ k.
        t.joins.all k ∙ (λ i. option_or (at_new k i) (beside k i)) ∙ go (eq_by_cmp name_cmp k n) (below k (without_edge m c))
        ∙ sym (below_with k n t.child (without_edge m c) text)
      where
        go : (b : Bool) (o : Option Tree) → option_or (cond b (Some t.child) None) o ≡ cond b (Some t.child) o
        go true o = refl
        go false o = refl

module _ (S : Setting) (l : Lens) (m n : Name) (c : Tree) (is : IsRenaming l m n) (h : IsShown S l c) where
  taken : (v : Tree) → Shows S l c v → (t : Taken is.part m n c) × (t.view ≡ v)
  taken v shows = go (subst (λ l. Shows S l c v) is.is shows)
    where
      go : Shows S (fork is.part is.shown (sequence (hoist m) (plunge n)) identity) c v → (t : Taken is.part m n c) × (t.view ≡ v)
      go (by_fork (by_sequence (by_hoist old) (by_plunge new)) by_identity joins) =
          (record { child = _; shown = _; view = v; old = old; new = new; joins = joins }, refl)

  pub renamed_there : IsSome (below m c)
  renamed_there = ap is_some (there is.part m n c (taken h.tree h.is).0)

  pub renamed_free : below n (without_edge m c) ≡ None
  renamed_free = free is.part m n c (taken h.tree h.is).0

  pub renamed_shows : (r : Tree) → IsRenamed m n c r → Shows S l c r
  renamed_shows r made =
      let t = taken h.tree h.is in
      let same : t.0.child ≡ made.child = same_Some t.0.child made.child (sym (there is.part m n c t.0) ∙ made.there) in
      subst (Shows S l c) (sym t.1 ∙ view_is is.part m n c t.0 made.text ∙ ap (λ x. with_edge n x (without_edge m c)) same ∙ sym made.is) h.is

module _ (S : Setting) (l : Lens) (m n : Name) (a : Tree) (b : Option Tree) (is : IsRenaming l m n) (h : IsPut S l a b) where
  taken_back : (c : Tree) → Puts S l a b c → (t : Taken is.shown n m a) × (t.view ≡ c)
  taken_back c puts = go (subst (λ l. Puts S l a b c) is.is puts)
    where
      go : Puts S (fork is.part is.shown (sequence (hoist m) (plunge n)) identity) a b c → (t : Taken is.shown n m a) × (t.view ≡ c)
      go (put_fork (put_sequence before (put_plunge old) (put_hoist new)) put_identity joins) =
          (record { child = _; shown = _; view = c; old = old; new = new; joins = joins }, refl)

  pub back_there : IsSome (below n a)
  back_there = ap is_some (there is.shown n m a (taken_back h.tree h.is).0)

  pub back_free : below m (without_edge n a) ≡ None
  back_free = free is.shown n m a (taken_back h.tree h.is).0

  pub renamed_puts : (r : Tree) → IsRenamed n m a r → Puts S l a b r
  renamed_puts r made =
      let t = taken_back h.tree h.is in
      let same : t.0.child ≡ made.child = same_Some t.0.child made.child (sym (there is.shown n m a t.0) ∙ made.there) in
      subst (Puts S l a b) (sym t.1 ∙ view_is is.shown n m a t.0 made.text ∙ ap (λ x. with_edge m x (without_edge n a)) same ∙ sym made.is) h.is
