-- A map of vertices by keys, as one more vertex is put into it.
use Rattle.std.proofs.Common.{◌≡◌, ◌↔◌, ℕ, ◌+◌, ◌<◌, [], false, cond, Some, None, inl, inr, refl, sym, ap, subst, ◌∙◌, arith}
use Rattle.std.specs.declared.cmp.Ordering.{Ordering}
use Rattle.std.specs.declared.cmp.Ordering.TheVariants.{Less, Equal, Greater}
use Rattle.std.specs.Ordering.{is_eq}
use Rattle.std.specs.BTreeMap.{BTreeMap, get, Updates, IsUnchanged}
use Rattle.std.specs.Map.{lookup}
use Rattle.std.proofs.lemmas.Bool.{cases_lt}
use Rattle.std.proofs.lemmas.Option.{same_Some, none-some}
use Rattle.hm_graph_classes.specs.Indexed.{Finds}

module _ {K : Type 0} (cmp : K → K → Ordering) where
  pub finds_nothing : (has : K → ℕ → Type 0) (m : BTreeMap K ℕ) → m.entries ≡ [] → Finds cmp has 0 m
  finds_nothing has m e = record {
    each = λ q c. (
      λ f. absurd (none-some c (sym (ap (lookup (λ k. is_eq (cmp q k))) e) ∙ f)),
      λ w. let lt : c < 0 = w.0 in absurd (omega arith),
    );
  }

  -- what is said of the vertices below the bound is all that counts
  pub finds_as : (has as_well : K → ℕ → Type 0) (i : ℕ) (m : BTreeMap K ℕ) → ((q : K) (c : ℕ) → c < i → has q c ↔ as_well q c) → Finds cmp has i m
      → Finds cmp as_well i m
  finds_as has as_well i m same h = record {
    each = λ q c. (
      λ e. let w = (h.each q c).0 e in (w.0, (same q c w.0).0 w.1),
      λ w. (h.each q c).1 (w.0, (same q c w.0).1 w.1),
    );
  }

  pub finds_kept : (has : K → ℕ → Type 0) (i : ℕ) (old new : BTreeMap K ℕ) → ((q : K) → get cmp new q ≡ get cmp old q) → Finds cmp has i old → Finds cmp has i new
  finds_kept has i old new same h = record {
    each = λ q c. (λ e. (h.each q c).0 (sym (same q) ∙ e), λ w. same q ∙ (h.each q c).1 w);
  }

  pub gets_unchanged : (old new : BTreeMap K ℕ) → IsUnchanged old new → (q : K) → get cmp new q ≡ get cmp old q
  gets_unchanged old new e q = ap (lookup (λ k. is_eq (cmp q k))) e

  module _ (has : K → ℕ → Type 0) (i : ℕ) (old : BTreeMap K ℕ) (h : Finds cmp has i old) where
    -- the next vertex has no key
    pub finds_none : ((q : K) → ¬ (has q i)) → Finds cmp has (i + 1) old
    finds_none off = record {
      each = λ q c. (
        λ e. let w = (h.each q c).0 e in let lt : c < i = w.0 in (omega arith, w.1),
        λ w. (h.each q c).1 (below q c w.0 w.1, w.1),
      );
    }
      where
        below : (q : K) (c : ℕ) → c < i + 1 → has q c → c < i
        below q c lt w = elim (cases_lt c i) [
          | inl less ↦ less
          | inr le ↦ let e : c ≡ i = omega arith in absurd (off q (subst (has q) e w))
        ]

    -- the next vertex has one
    module _ (new : BTreeMap K ℕ) (k : K) (put : Updates cmp old new k (Some i)) (tied : (q : K) → cmp k q ≡ Equal → has q i)
        (only : (q : K) → has q i → cmp k q ≡ Equal) (once : (q : K) (c : ℕ) → c < i → has q c → has q i → ⊥) where
      pub finds_one : Finds cmp has (i + 1) new
      finds_one = record { each = λ q c. go q c (cmp k q) refl }
        where
          other : (q : K) (c : ℕ) → get cmp new q ≡ get cmp old q → ¬ (cmp k q ≡ Equal) → (get cmp new q ≡ Some c) ↔ ((c < i + 1) × has q c)
          other q c same off = (
            λ e. let w = (h.each q c).0 (sym same ∙ e) in let lt : c < i = w.0 in (omega arith, w.1),
            λ w. elim (cases_lt c i) [
              | inl less ↦ same ∙ (h.each q c).1 (less, w.1)
              | inr le ↦ let lt : c < i + 1 = w.0 in let e : c ≡ i = omega arith in absurd (off (only q (subst (has q) e w.1)))
            ],
          )

          go : (q : K) (c : ℕ) (o : Ordering) → cmp k q ≡ o → (get cmp new q ≡ Some c) ↔ ((c < i + 1) × has q c)
          go q c Less e = other q c (put.0 q ∙ ap (λ o. cond (is_eq o) (Some i) (get cmp old q)) e) (λ f. let w : Less ≡ Equal = sym e ∙ f in cc)
          go q c Greater e = other q c (put.0 q ∙ ap (λ o. cond (is_eq o) (Some i) (get cmp old q)) e) (λ f. let w : Greater ≡ Equal = sym e ∙ f in cc)
          go q c Equal e =
              let at : get cmp new q ≡ Some i = put.0 q ∙ ap (λ o. cond (is_eq o) (Some i) (get cmp old q)) e in (
                λ f. let same : i ≡ c = same_Some i c (sym at ∙ f) in (omega arith, subst (has q) same (tied q e)),
                λ w. elim (cases_lt c i) [
                  | inl less ↦ absurd (once q c less w.1 (tied q e))
                  | inr le ↦ let lt : c < i + 1 = w.0 in let same : i ≡ c = omega arith in at ∙ ap Some same
                ],
              )

  -- what was put and taken out again
  module _ (old mid new : BTreeMap K ℕ) (k : K) (i : ℕ) (put : Updates cmp old mid k (Some i)) (taken : Updates cmp mid new k None)
      (one : (q : K) → cmp k q ≡ Equal → k ≡ q) (absent : get cmp old k ≡ None) where
    pub taken_back : (q : K) → get cmp new q ≡ get cmp old q
    taken_back q = go (cmp k q) refl
      where
        other : is_eq (cmp k q) ≡ false → get cmp new q ≡ get cmp old q
        other off = taken.0 q ∙ ap (λ b. cond b None (get cmp mid q)) off ∙ put.0 q ∙ ap (λ b. cond b (Some i) (get cmp old q)) off

        go : (o : Ordering) → cmp k q ≡ o → get cmp new q ≡ get cmp old q
        go Less e = other (ap is_eq e)
        go Greater e = other (ap is_eq e)
        go Equal e = taken.0 q ∙ ap (λ o. cond (is_eq o) None (get cmp mid q)) e ∙ sym absent ∙ ap (get cmp old) (one q e)
