-- Entries of finite maps by their places.
use Rattle.std.proofs.Common.{◌≡◌, ◌⊎◌, ◌<◌, ◌≤◌, ◌+◌, ℕ, zero, suc, Bool, true, false, cond, T, List, [], ◌∷◌, ◌++◌, length, map, get_or, slice_get, slice_set, Some, inl, inr, refl, sym, ap, ◌∙◌, arith, length-append}
use Rattle.std.specs.List.{zip}
use Rattle.std.specs.Ordering.{eq_by_cmp}
use Rattle.std.specs.declared.cmp.Ordering.TheVariants.{Less, Equal, Greater}
use Rattle.std.specs.FinMap.{find, is_sorted}
use Rattle.std.proofs.lemmas.Option.{same_Some, none-some, slice_get_within, get_or_from_slice_get, slice_get-map}
use Rattle.std.specs.Option.{option_map}
use Rattle.hm_terms.specs.WellFormedPrograms.{HasOnce}
use Rattle.hm_terms_laws.proofs.CallLists.{tied}
use Rattle.std.proofs.lemmas.Cmp.{tied_itself}
use Rattle.std.proofs.lemmas.Bool.{cases_lt}
use Rattle.hm_tree.specs.Names.{Name, name_cmp}
use Rattle.hm_tree.specs.NameLaws.{name_total}
use Rattle.hm_tree.proofs.Sorted.{rises, place_read, back_less}
use Rattle.hm_schema.proofs.NamesOf.{tie_one}
use Rattle.hm_types_table.specs.Tables.{keys}

module _ {X : Type 0} where
  -- a name that is found stands at a place
  pub record StandsAt (k : Name) (x : X) (es : List (Name × X)) : Type 0 where
    pub place : ℕ
    pub is : slice_get es place ≡ Some (k, x)

  pub found_at : (k : Name) (x : X) (es : List (Name × X)) → find name_cmp k es ≡ Some x → StandsAt k x es
  found_at k x [] e = absurd (none-some x e)
  found_at k x (f ∷ es) e = go (eq_by_cmp name_cmp k f.0) refl e (found_at k x es)
    where
      go : (b : Bool) → eq_by_cmp name_cmp k f.0 ≡ b → cond b (Some f.1) (find name_cmp k es) ≡ Some x → (find name_cmp k es ≡ Some x → StandsAt k x es)
          → StandsAt k x (f ∷ es)
      go true t e rest =
          let name : f.0 ≡ k = sym (tie_one k f.0 t) in
          let value : f.1 ≡ x = same_Some f.1 x e in
          record { place = 0; is = λ t. let p : Name × X = (name t, value t) in Some p }
      go false t e rest = let s = rest e in record { place = suc s.place; is = s.is }

  module _ (es : List (Name × X)) (h : T (is_sorted name_cmp es)) where
    pub at_found : (p : ℕ) (k : Name) (x : X) → slice_get es p ≡ Some (k, x) → find name_cmp k es ≡ Some x
    at_found p k x e =
        let read = get_or_from_slice_get es p (k, x) (k, x) e in
        let f = (place_read k es h p (k, x) (slice_get_within es p (k, x) e) (ap (λ (q : Name × X). q.0) read)).found (k, x) in
        f ∙ ap (λ (q : Name × X). Some q.1) read

    -- a lesser name stands before a greater one
    pub before_at : (p q : ℕ) (k m : Name) (x y : X) → slice_get es p ≡ Some (k, x) → slice_get es q ≡ Some (m, y) → name_cmp m k ≡ Less → q < p
    before_at p q k m x y e f less = go (cases_lt q p) (cases_lt p q)
      where
        one : get_or es p (k, x) ≡ (k, x)
        one = get_or_from_slice_get es p (k, x) (k, x) e

        two : get_or es q (k, x) ≡ (m, y)
        two = get_or_from_slice_get es q (m, y) (k, x) f

        less_itself : name_cmp k k ≡ Less → ⊥
        less_itself l = let no : Less ≡ Equal = sym l ∙ tied_itself name_total k in cc

        go : (q < p) ⊎ (p ≤ q) → (p < q) ⊎ (q ≤ p) → q < p
        go (inl lt) h = lt
        go (inr le) (inl gt) =
            let up : name_cmp k m ≡ Less = (λ t. name_cmp (sym one t).0 (sym two t).0) ∙ rises es h p q (k, x) gt (slice_get_within es q (m, y) f) in
            let down : name_cmp k m ≡ Greater = back_less k m less in
            let no : Less ≡ Greater = sym up ∙ down in
            cc
        go (inr le) (inr ge) =
            let same : q ≡ p = omega (arith, le, ge) in
            let k_is : m ≡ k = ap (λ (z : Name × X). z.0) (sym two ∙ ap (λ i. get_or es i (k, x)) same ∙ one) in
            absurd (less_itself (ap (λ m. name_cmp m k) (sym k_is) ∙ less))

    -- a name stands at one place
    pub once_at : (p q : ℕ) (k : Name) (x y : X) → slice_get es p ≡ Some (k, x) → slice_get es q ≡ Some (k, y) → p ≡ q
    once_at p q k x y e f =
        let one = place_read k es h p (k, x) (slice_get_within es p (k, x) e) (ap (λ (q : Name × X). q.0) (get_or_from_slice_get es p (k, x) (k, x) e)) in
        let two = place_read k es h q (k, x) (slice_get_within es q (k, y) f) (ap (λ (q : Name × X). q.0) (get_or_from_slice_get es q (k, y) (k, x) f)) in
        one.place ∙ sym two.place

  -- ---- things beside the names

  pub beside_at : (es : List (Name × X)) (js : List X) (p : ℕ) (k : Name) (x j : X) → slice_get es p ≡ Some (k, x) → slice_get js p ≡ Some j
      → slice_get (zip (keys es) js) p ≡ Some (k, j)
  beside_at [] js p k x j e f = absurd (none-some (k, x) e)
  beside_at (d ∷ es) [] p k x j e f = absurd (none-some j f)
  beside_at (d ∷ es) (i ∷ js) zero k x j e f =
      let name : d.0 ≡ k = ap (λ (q : Name × X). q.0) (same_Some d (k, x) e) in
      let value : i ≡ j = same_Some i j f in
      λ t. let p : Name × X = (name t, value t) in Some p
  beside_at (d ∷ es) (i ∷ js) (suc p) k x j e f = beside_at es js p k x j e f

-- ---- lists by their places

module _ {X : Type 0} where
  pub there : (xs : List X) (i : ℕ) → i < length xs → (x : X) × (slice_get xs i ≡ Some x)
  there [] i lt = absurd (omega arith)
  there (x ∷ xs) zero lt = (x, refl)
  there (x ∷ xs) (suc i) lt = there xs i (omega arith)

  pub pushed_at : (xs : List X) (x y : X) (p : ℕ) → slice_get (xs ++ x ∷ []) p ≡ Some y → (slice_get xs p ≡ Some y) ⊎ ((p ≡ length xs) × (x ≡ y))
  pushed_at [] x y zero e = inr (refl, same_Some x y e)
  pushed_at [] x y (suc p) e = absurd (none-some y e)
  pushed_at (z ∷ xs) x y zero e = inl e
  pushed_at (z ∷ xs) x y (suc p) e = elim (pushed_at xs x y p e) [ inl f ↦ inl f | inr f ↦ inr (ap suc f.0, f.1) ]

  pub set_at : (xs : List X) (x y : X) (i p : ℕ) → slice_get (slice_set xs i x) p ≡ Some y
      → ((slice_get xs p ≡ Some y) × (p ≡ i → ⊥)) ⊎ ((p ≡ i) × (x ≡ y))
  set_at [] x y i p e = absurd (none-some y e)
  set_at (z ∷ xs) x y zero zero e = inr (refl, same_Some x y e)
  set_at (z ∷ xs) x y zero (suc p) e = inl (e, λ f. absurd (omega (arith, f)))
  set_at (z ∷ xs) x y (suc i) zero e = inl (e, λ f. absurd (omega (arith, f)))
  set_at (z ∷ xs) x y (suc i) (suc p) e = elim (set_at xs x y i p e) [
    | inl f ↦ inl (f.0, λ g. f.1 (omega (arith, g)))
    | inr f ↦ inr (ap suc f.0, f.1)
  ]

  pub pushed_size : (xs : List X) (x : X) → length (xs ++ x ∷ []) ≡ length xs + 1
  pushed_size xs x = omega (arith, length-append xs (x ∷ []))

-- ---- names of which none stands twice

module _ {X : Type 0} where
  -- what stands under its name anywhere is found by it
  pub found_once : (es : List (Name × X)) → HasOnce (map (λ e. e.0) es) → (i : ℕ) (k : Name) (x : X) → slice_get es i ≡ Some (k, x) → find name_cmp k es ≡ Some x
  found_once [] once i k x e = absurd (none-some (k, x) e)
  found_once (f ∷ es) once zero k x e =
      let same = same_Some f (k, x) e in
      ap (λ b. cond b (Some f.1) (find name_cmp k es)) (ap (eq_by_cmp name_cmp k) (ap (λ (q : Name × X). q.0) same) ∙ tied k) ∙ ap (λ (q : Name × X). Some q.1) same
  found_once (f ∷ es) once (suc i) k x e = go (eq_by_cmp name_cmp k f.0) refl (found_once es (λ i j n a b. omega (arith, once (suc i) (suc j) n a b)) i k x e)
    where
      names : slice_get (map (λ (e : Name × X). e.0) es) i ≡ Some k
      names = slice_get-map (λ (e : Name × X). e.0) es i ∙ ap (option_map (λ (e : Name × X). e.0)) e

      go : (b : Bool) → eq_by_cmp name_cmp k f.0 ≡ b → find name_cmp k es ≡ Some x → cond b (Some f.1) (find name_cmp k es) ≡ Some x
      go false t h = h
      go true t h = absurd (omega (arith, once 0 (suc i) k (ap Some (sym (tie_one k f.0 t))) names))
