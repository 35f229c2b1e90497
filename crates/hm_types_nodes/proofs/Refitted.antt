-- Names fit a shape where other names fit another shape, if the two shapes, the two sets of names and the two nodes are the same
-- but for a name.
use Rattle.std.proofs.Common.{◌≡◌, ◌↔◌, ◌≤◌, false, IsTrue, IfSome, None, refl, sym, ap, subst, ◌∙◌, inl, inr}
use Rattle.std.proofs.lemmas.Bool.{true≢false, or_cases, or_right, false_from_ne_true}
use Rattle.std.specs.FinSet.{contains, insert, remove}
use Rattle.hm_tree.specs.Names.{Name}
use Rattle.hm_tree.proofs.NameSets.{same_bool}
use Rattle.hm_schema.specs.declared.node.Shape.{Shape}
use Rattle.hm_schema.specs.Values.{Names, NodeOver, is_listed}
use Rattle.hm_schema.specs.Permitted.{Fits, Takes, unlisted}
use Rattle.hm_schema.specs.Tidied.{has_name}
use Rattle.hm_schema.specs.WellFormed.{IsWellFormedShape}
use Rattle.hm_schema.specs.Shapes.{Requires}
use Rattle.hm_types_nodes.specs.Branching.{requiring, lacking}
use Rattle.hm_types_nodes.specs.Merging.{unrequired, loosened}
use Rattle.hm_types_nodes.specs.Copying.{with_required}
use Rattle.hm_schema.proofs.NameSets.{same_name, in_insert, insert_old, in_remove, remove_from}
use Rattle.hm_schema.proofs.Shapes.{required_has, same_count}

-- ---- shapes that are the same but for a name

pub record SameBut (m : Name) (a b : Shape) : Type 0 where
  pub required : (k : Name) → (k ≡ m → ⊥) → contains a.required k ≡ contains b.required k
  pub optional : (k : Name) → (k ≡ m → ⊥) → contains a.optional k ≡ contains b.optional k
  pub least : a.least ≡ b.least
  pub most : a.most ≡ b.most

pub same_but_back : (m : Name) (a b : Shape) → SameBut m a b → SameBut m b a
same_but_back m a b s = record {
  required = λ k f. sym (s.required k f);
  optional = λ k f. sym (s.optional k f);
  least = sym s.least;
  most = sym s.most;
}

pub same_but_then : (m : Name) (a b c : Shape) → SameBut m a b → SameBut m b c → SameBut m a c
same_but_then m a b c s r = record {
  required = λ k f. s.required k f ∙ r.required k f;
  optional = λ k f. s.optional k f ∙ r.optional k f;
  least = s.least ∙ r.least;
  most = s.most ∙ r.most;
}

module _ (m : Name) where
  insert_other : (s : Names) (k : Name) → (k ≡ m → ⊥) → contains s k ≡ contains (insert s m) k
  insert_other s k f = same_bool _ _ (insert_old m s k) (λ h. elim (in_insert m s k h) [ inl e ↦ absurd (f e) | inr g ↦ g ])

  remove_other : (s : Names) (k : Name) → (k ≡ m → ⊥) → contains s k ≡ contains (remove s m) k
  remove_other s k f = same_bool _ _ (remove_from m s k f) (λ h. (in_remove m s k h).1)

  pub remove_gone : (s : Names) → contains (remove s m) m ≡ false
  remove_gone s = false_from_ne_true (contains (remove s m) m) (λ h. (in_remove m s m h).0 refl)

  module _ (a : Shape) where
    pub but_requiring : SameBut m a (requiring m a)
    but_requiring = record { required = insert_other a.required; optional = remove_other a.optional; least = refl; most = refl }

    pub but_lacking : SameBut m a (lacking m a)
    but_lacking = record { required = λ k f. refl; optional = remove_other a.optional; least = refl; most = refl }

    pub but_unrequired : SameBut m a (unrequired m a)
    but_unrequired = record { required = remove_other a.required; optional = λ k f. refl; least = refl; most = refl }

    pub but_loosened : SameBut m a (loosened m a)
    but_loosened = record { required = remove_other a.required; optional = insert_other a.optional; least = refl; most = refl }

    pub but_with_required : SameBut m a (with_required m a)
    but_with_required = record { required = insert_other a.required; optional = λ k f. refl; least = refl; most = refl }

-- ---- names at nodes

-- two sets of names, each at a node, are the same but for a name, and that is no unlisted one at either
pub record AreSameBut {I J : Type 0} (m : Name) (n : NodeOver I) (p : NodeOver J) (names others : Names) : Type 0 where
  pub same : (k : Name) → (k ≡ m → ⊥) → contains names k ≡ contains others k
  pub listed : (k : Name) → (k ≡ m → ⊥) → is_listed n k ≡ is_listed p k
  pub takes : (k : Name) → Takes n k ↔ Takes p k
  pub one : IsTrue (contains names m) → IsTrue (is_listed n m)
  pub two : IsTrue (contains others m) → IsTrue (is_listed p m)

pub are_same_back : {I J : Type 0} (m : Name) (n : NodeOver I) (p : NodeOver J) (names others : Names) → AreSameBut m n p names others
    → AreSameBut m p n others names
are_same_back m n p names others s = record {
  same = λ k f. sym (s.same k f);
  listed = λ k f. sym (s.listed k f);
  takes = λ k. let t = s.takes k in (t.1, t.0);
  one = s.two;
  two = s.one;
}

module _ {I J : Type 0} (m : Name) (n : NodeOver I) (p : NodeOver J) (names others : Names) (s : AreSameBut m n p names others) where
  not_one : (k : Name) → IsTrue (contains names k) → is_listed n k ≡ false → k ≡ m → ⊥
  not_one k h off e = true≢false (sym (s.one (subst (λ k. IsTrue (contains names k)) e h)) ∙ sym (ap (is_listed n) e) ∙ off)

  not_two : (k : Name) → IsTrue (contains others k) → is_listed p k ≡ false → k ≡ m → ⊥
  not_two k h off e = true≢false (sym (s.two (subst (λ k. IsTrue (contains others k)) e h)) ∙ sym (ap (is_listed p) e) ∙ off)

  same_unlisted : unlisted n names ≡ unlisted p others
  same_unlisted = same_count n p names others
      (λ k h off. let f = not_one k h off in (sym (s.same k f) ∙ h, sym (s.listed k f) ∙ off))
      (λ k h off. let f = not_two k h off in (s.same k f ∙ h, s.listed k f ∙ off))

  pub refit : (a b : Shape) → SameBut m a b → (Requires m b → IsTrue (contains others m)) → (IsTrue (contains others m) → IsTrue (has_name b m))
      → Fits n a names → Fits p b others
  refit a b but need has f = record {
    listed = record {
      required = λ k h. elim (same_name k m) [
        | inl e ↦ subst (λ k. IsTrue (contains others k)) (sym e) (need (subst (λ k. IsTrue (contains b.required k)) e h))
        | inr d ↦ sym (s.same k d) ∙ f.listed.required k (but.required k d ∙ h)
      ];
      allowed = λ k h l. elim (same_name k m) [
        | inl e ↦ subst (λ k. IsTrue (has_name b k)) (sym e) (has (subst (λ k. IsTrue (contains others k)) e h))
        | inr d ↦ elim (or_cases (contains a.required k) (contains a.optional k) (f.listed.allowed k (s.same k d ∙ h) (s.listed k d ∙ l))) [
          | inl r ↦ required_has b k (sym (but.required k d) ∙ r)
          | inr o ↦ or_right (contains b.required k) (contains b.optional k) (sym (but.optional k d) ∙ o)
        ]
      ];
    };
    others = λ k h off. let d = not_two k h off in (s.takes k).0 (f.others k (s.same k d ∙ h) (s.listed k d ∙ off));
    number = record {
      least = subst (λ u. b.least ≤ u) same_unlisted (subst (λ l. l ≤ unlisted n names) but.least f.number.least);
      most = subst (λ u. IfSome b.most (λ most. u ≤ most)) same_unlisted
          (subst (λ o. IfSome o (λ most. unlisted n names ≤ most)) but.most f.number.most);
    };
  }

-- the same names at one node that lists the name
pub refit_here : {I : Type 0} (m : Name) (n : NodeOver I) (names : Names) → IsTrue (is_listed n m) → (a b : Shape) → SameBut m a b
    → (Requires m b → IsTrue (contains names m)) → (IsTrue (contains names m) → IsTrue (has_name b m)) → Fits n a names → Fits n b names
refit_here m n names l = refit m n n names names
    (record { same = λ k f. refl; listed = λ k f. refl; takes = λ k. (λ h. h, λ h. h); one = λ h. l; two = λ h. l })

-- ---- well formed shapes

-- so is a shape that is the same but for a name, at a node that lists the other names too
pub well_but : {I J : Type 0} (m : Name) (n : NodeOver I) (p : NodeOver J) (a b : Shape) → SameBut m a b
    → ((k : Name) → (k ≡ m → ⊥) → IsTrue (is_listed n k) → IsTrue (is_listed p k)) → (p.other ≡ None → n.other ≡ None)
    → (IsTrue (has_name b m) → IsTrue (is_listed p m)) → (Requires m b → contains b.optional m ≡ false) → IsWellFormedShape n a → IsWellFormedShape p b
well_but m n p a b but lists none here apart w = record {
  listed = λ k h. elim (same_name k m) [
    | inl e ↦ subst (λ k. IsTrue (is_listed p k)) (sym e) (here (subst (λ k. IsTrue (has_name b k)) e h))
    | inr d ↦ lists k d (w.listed k (elim (or_cases (contains b.required k) (contains b.optional k) h) [
      | inl r ↦ required_has a k (but.required k d ∙ r)
      | inr o ↦ or_right (contains a.required k) (contains a.optional k) (but.optional k d ∙ o)
    ]))
  ];
  apart = λ k h. elim (same_name k m) [
    | inl e ↦ ap (contains b.optional) e ∙ apart (subst (λ k. IsTrue (contains b.required k)) e h)
    | inr d ↦ sym (but.optional k d) ∙ w.apart k (but.required k d ∙ h)
  ];
  ordered = subst (λ o. IfSome o (λ most. b.least ≤ most)) but.most (subst (λ l. IfSome a.most (λ most. l ≤ most)) but.least w.ordered);
  none = λ e. let x = w.none (none e) in (sym but.least ∙ x.0, sym but.most ∙ x.1);
}

-- so is the same shape at a node that lists the same names or more
pub well_at : {I J : Type 0} (n : NodeOver I) (p : NodeOver J) (a : Shape) → ((k : Name) → IsTrue (is_listed n k) → IsTrue (is_listed p k))
    → (p.other ≡ None → n.other ≡ None) → IsWellFormedShape n a → IsWellFormedShape p a
well_at n p a lists none w = record {
  listed = λ k h. lists k (w.listed k h);
  apart = w.apart;
  ordered = w.ordered;
  none = λ e. w.none (none e);
}
