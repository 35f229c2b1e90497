-- Which lenses call one that isn't declared, by their parts.
use Rattle.std.proofs.Common.{◌≡◌, ◌⊎◌, inl, inr, ℕ, zero, suc, ◌+◌, ◌<◌, ◌≤◌, Bool, true, false, List, [], ◌∷◌, length, slice_get, Option, Some, None, is_some, not, refl, sym, ap, ◌∙◌, subst, arith}
use Rattle.std.specs.Prelude.{IsTrue, ◌↔◌, ◌||◌}
use mathlib.Core.Bool.{true≢false}
use Rattle.std.proofs.lemmas.Bool.{cases_lt}
use Rattle.std.proofs.lemmas.Option.{slice_get_within}
use Rattle.indexmap.specs.IndexMap.{get_by_text}
use Rattle.hm_schema_lines.specs.Firsts.{FirstPlaces}
use Rattle.hm_tree.specs.Names.{Name}
use Rattle.hm_tree.specs.Nodes.{Tree}
use Rattle.hm_schema.specs.Values.{Names}
use Rattle.hm_terms.specs.declared.term.Term.{Term}
use Rattle.hm_terms.specs.Lenses.{Lens, Lenses, identity, sequence, constant, hoist, plunge, fork, each, among, also, items, copy, merge, on_concrete, on_view, text, call}
use Rattle.hm_terms.specs.Programs.{lens_of, lenses_of}
use Rattle.hm_terms.specs.WellFormedPrograms.{StandsIn, itself, in_first, in_second, inside, outside, in_each, in_among, in_items, where_it_has, where_it_lacks, where_it_showed, where_it_did_not, IsAmong, here, further}
use Rattle.hm_focal.specs.Judging.{CallsOther}

-- two tests as one
pub either : {P Q R : Type 0} (b c : Bool) → IsTrue b ↔ P → IsTrue c ↔ Q → (P → R) → (Q → R) → (R → P ⊎ Q) → IsTrue (b || c) ↔ R
either true c p q f g h = (λ _. f (p.0 refl), λ _. refl)
either {P = P} {Q = Q} false c p q f g h = (λ e. g (q.0 e), λ r. go (h r))
  where
    go : P ⊎ Q → IsTrue c
    go (inl a) = absurd (true≢false (sym (p.1 a)))
    go (inr b) = q.1 b

pub same_test : {P R : Type 0} (b : Bool) → IsTrue b ↔ P → (P → R) → (R → P) → IsTrue b ↔ R
same_test b p f g = (λ e. f (p.0 e), λ r. p.1 (g r))

pub never : {R : Type 0} → ¬ R → IsTrue false ↔ R
never no_r = (λ f. absurd (true≢false (sym f)), λ r. absurd (no_r r))

callee : (n m : Name) (l : Lens) → StandsIn (call n) l → l ≡ call m → n ≡ m
callee n m _ itself e = let same : n ≡ m = cc in same
callee n m _ s e = let f : ⊥ = cc in absurd f

module _ (table : FirstPlaces) where
  no_identity : ¬ (CallsOther table identity)
  no_identity (n, s, e) = leaf s
    where
      leaf : StandsIn (call n) identity → ⊥
      leaf h = elim h [ ]

  no_constant : (t d : Tree) → ¬ (CallsOther table (constant t d))
  no_constant t d (n, s, e) = leaf s
    where
      leaf : StandsIn (call n) (constant t d) → ⊥
      leaf h = elim h [ ]

  no_hoist : (m : Name) → ¬ (CallsOther table (hoist m))
  no_hoist m (n, s, e) = leaf s
    where
      leaf : StandsIn (call n) (hoist m) → ⊥
      leaf h = elim h [ ]

  no_plunge : (m : Name) → ¬ (CallsOther table (plunge m))
  no_plunge m (n, s, e) = leaf s
    where
      leaf : StandsIn (call n) (plunge m) → ⊥
      leaf h = elim h [ ]

  no_copy : (m k : Name) → ¬ (CallsOther table (copy m k))
  no_copy m k (n, s, e) = leaf s
    where
      leaf : StandsIn (call n) (copy m k) → ⊥
      leaf h = elim h [ ]

  no_merge : (m k : Name) → ¬ (CallsOther table (merge m k))
  no_merge m k (n, s, e) = leaf s
    where
      leaf : StandsIn (call n) (merge m k) → ⊥
      leaf h = elim h [ ]

  no_text : (m : Name) → ¬ (CallsOther table (text m))
  no_text m (n, s, e) = leaf s
    where
      leaf : StandsIn (call n) (text m) → ⊥
      leaf h = elim h [ ]

  pub call_told : (m : Name) (o : Option ℕ) → o ≡ get_by_text table m → (b : Bool) → IsTrue b ↔ (o ≡ None) → IsTrue b ↔ CallsOther table (call m)
  call_told m o is b h = (λ e. (m, itself, sym is ∙ h.0 e), λ c. h.1 (is ∙ of c))
    where
      of : CallsOther table (call m) → get_by_text table m ≡ None
      of (n, s, e) = ap (get_by_text table) (sym (callee n m (call m) s refl)) ∙ e

  -- lenses inside
  pub each_call : (l : Lens) → CallsOther table (each l) → CallsOther table l
  each_call l (n, s, e) = go s
    where
      go : StandsIn (call n) (each l) → CallsOther table l
      go (in_each k) = (n, k, e)

  pub items_call : (l : Lens) → CallsOther table (items l) → CallsOther table l
  items_call l (n, s, e) = go s
    where
      go : StandsIn (call n) (items l) → CallsOther table l
      go (in_items k) = (n, k, e)

  pub sequence_call : (l k : Lens) → CallsOther table (sequence l k) → CallsOther table l ⊎ CallsOther table k
  sequence_call l k (n, s, e) = go s
    where
      go : StandsIn (call n) (sequence l k) → CallsOther table l ⊎ CallsOther table k
      go (in_first h) = inl (n, h, e)
      go (in_second h) = inr (n, h, e)

  pub fork_call : (P Q : Names) (l k : Lens) → CallsOther table (fork P Q l k) → CallsOther table l ⊎ CallsOther table k
  fork_call P Q l k (n, s, e) = go s
    where
      go : StandsIn (call n) (fork P Q l k) → CallsOther table l ⊎ CallsOther table k
      go (inside h) = inl (n, h, e)
      go (outside h) = inr (n, h, e)

  pub concrete_call : (m : Name) (l k : Lens) → CallsOther table (on_concrete m l k) → CallsOther table l ⊎ CallsOther table k
  concrete_call m l k (n, s, e) = go s
    where
      go : StandsIn (call n) (on_concrete m l k) → CallsOther table l ⊎ CallsOther table k
      go (where_it_has h) = inl (n, h, e)
      go (where_it_lacks h) = inr (n, h, e)

  pub view_call : (m o : Name) (l k : Lens) → CallsOther table (on_view m o l k) → CallsOther table l ⊎ CallsOther table k
  view_call m o l k (n, s, e) = go s
    where
      go : StandsIn (call n) (on_view m o l k) → CallsOther table l ⊎ CallsOther table k
      go (where_it_showed h) = inl (n, h, e)
      go (where_it_did_not h) = inr (n, h, e)

  -- ---- named lenses

  at_among : (ts : List (Name × Term)) (i : ℕ) (t : Name × Term) → slice_get ts i ≡ Some t → IsAmong t.0 (lens_of t.1) (lenses_of ts)
  at_among [] i t e = let f : ⊥ = cc in absurd f
  at_among (u ∷ ts) zero t e =
      let same : u ≡ t = cc in
      subst (λ (z : Name × Term). IsAmong t.0 (lens_of t.1) (also z.0 (lens_of z.1) (lenses_of ts))) (sym same) here
  at_among (u ∷ ts) (suc i) t e = further (at_among ts i t e)

  among_at : (ts : List (Name × Term)) (m : Name) (l : Lens) → IsAmong m l (lenses_of ts)
      → (i : ℕ) × (t : Name × Term) × (slice_get ts i ≡ Some t) × (lens_of t.1 ≡ l)
  among_at [] m l h = elim h [ ]
  among_at (u ∷ ts) m l h = go h (among_at ts m l)
    where
      cases : (m : Name) (l n : Lens) (ls : Lenses) → IsAmong m l ls → (k : Name) (rest : Lenses) → ls ≡ also k n rest
          → (n ≡ l) ⊎ IsAmong m l rest
      cases m l n _ here k rest e = let same : l ≡ n = cc in inl (sym same)
      cases m l n _ (further {ls} a) k rest e = let tails : ls ≡ rest = cc in inr (subst (IsAmong m l) tails a)

      go : IsAmong m l (also u.0 (lens_of u.1) (lenses_of ts))
          → (IsAmong m l (lenses_of ts) → (i : ℕ) × (t : Name × Term) × (slice_get ts i ≡ Some t) × (lens_of t.1 ≡ l))
          → (i : ℕ) × (t : Name × Term) × (slice_get (u ∷ ts) i ≡ Some t) × (lens_of t.1 ≡ l)
      go a more = elim (cases m l (lens_of u.1) _ a u.0 (lenses_of ts) refl) [
        | inl e ↦ (0, u, refl, e)
        | inr b ↦ (let r = more b in (suc r.0, r.1, r.2, r.3))
      ]

  -- none of the first terms does
  pub NoneBefore : List (Name × Term) → ℕ → Type 0
  NoneBefore ts i = (j : ℕ) (t : Name × Term) → j < i → slice_get ts j ≡ Some t → ¬ (CallsOther table (lens_of t.1))

  module _ (ts : List (Name × Term)) where
    pub none_first : NoneBefore ts 0
    unfolding NoneBefore
    none_first = λ j t below at c. absurd (omega (arith, below))

    pub none_next : (i : ℕ) (t : Name × Term) → slice_get ts i ≡ Some t → NoneBefore ts i → ¬ (CallsOther table (lens_of t.1))
        → NoneBefore ts (i + 1)
    unfolding NoneBefore
    none_next i t is h not_it = λ j u below at. elim (cases_lt j i) [
      | inl less ↦ h j u less at
      | inr more ↦
          let place : i ≡ j = omega (arith, below, more) in
          let both : Some t ≡ Some u = sym is ∙ ap (slice_get ts) place ∙ at in
          let same : t ≡ u = cc in
          subst (λ (z : Name × Term). ¬ (CallsOther table (lens_of z.1))) same not_it
    ]

    pub none_calls : (i : ℕ) → length ts ≤ i → NoneBefore ts i → ¬ (CallsOther table (among (lenses_of ts)))
    unfolding NoneBefore
    none_calls i past h (n, s, e) = go s
      where
        go : StandsIn (call n) (among (lenses_of ts)) → ⊥
        go (in_among {l} {n = m} a k) =
            let r = among_at ts m l a in
            h r.0 r.1 (omega (arith, past, slice_get_within ts r.0 r.1 r.2)) r.2
            (n, subst (StandsIn (call n)) (sym r.3) k, e)

    pub one_calls : (i : ℕ) (t : Name × Term) → slice_get ts i ≡ Some t → CallsOther table (lens_of t.1) → CallsOther table (among (lenses_of ts))
    one_calls i t is (n, s, e) = (n, in_among (at_among ts i t is) s, e)

  -- ---- what is told of a lens by its parts

  pub each_told : (l : Lens) (b : Bool) → IsTrue b ↔ CallsOther table l → IsTrue b ↔ CallsOther table (each l)
  each_told l b h = same_test b h (λ c. (c.0, in_each c.1, c.2)) (each_call l)

  pub items_told : (l : Lens) (b : Bool) → IsTrue b ↔ CallsOther table l → IsTrue b ↔ CallsOther table (items l)
  items_told l b h = same_test b h (λ c. (c.0, in_items c.1, c.2)) (items_call l)

  module _ (l k : Lens) (b c : Bool) (h : IsTrue b ↔ CallsOther table l) (j : IsTrue c ↔ CallsOther table k) where
    pub sequence_told : IsTrue (b || c) ↔ CallsOther table (sequence l k)
    sequence_told = either b c h j (λ d. (d.0, in_first d.1, d.2)) (λ d. (d.0, in_second d.1, d.2)) (sequence_call l k)

    pub fork_told : (P Q : Names) → IsTrue (b || c) ↔ CallsOther table (fork P Q l k)
    fork_told P Q = either b c h j (λ d. (d.0, inside d.1, d.2)) (λ d. (d.0, outside d.1, d.2)) (fork_call P Q l k)

    pub concrete_told : (m : Name) → IsTrue (b || c) ↔ CallsOther table (on_concrete m l k)
    concrete_told m = either b c h j (λ d. (d.0, where_it_has d.1, d.2)) (λ d. (d.0, where_it_lacks d.1, d.2)) (concrete_call m l k)

    pub view_told : (m o : Name) → IsTrue (b || c) ↔ CallsOther table (on_view m o l k)
    view_told m o = either b c h j (λ d. (d.0, where_it_showed d.1, d.2)) (λ d. (d.0, where_it_did_not d.1, d.2)) (view_call m o l k)

pub always : {R : Type 0} → R → IsTrue true ↔ R
always r = (λ _. r, λ _. refl)

pub none_told : (o : Option ℕ) (b : Bool) → is_some o ≡ not b → IsTrue b ↔ (o ≡ None)
none_told None true h = (λ _. refl, λ _. refl)
none_told None false h = absurd (true≢false (sym h))
none_told (Some n) true h = absurd (true≢false h)
none_told (Some n) false h = (λ e. absurd (true≢false (sym e)), λ e. let f : ⊥ = cc in absurd f)
