-- Two edges shown as one: the law of merge.
use Rattle.std.proofs.Common.{◌≡◌, ◌⊎◌, Bool, true, false, cond, not, Option, Some, None, IfSome, refl, sym, ap, subst, ◌∙◌, inl, inr}
use Rattle.std.proofs.lemmas.Cmp.{tied_itself, lists_total}
use Rattle.std.specs.declared.cmp.Ordering.{Ordering}
use Rattle.std.specs.declared.cmp.Ordering.TheVariants.{Less, Equal, Greater}
use Rattle.std.specs.Cmp.Lexicographic.{slice_cmp}
use Rattle.std.specs.FinMap.{slice_cmp-IsAntisymmetric}
use Rattle.std.specs.Ordering.{eq_by_cmp}
use Rattle.hm_tree.specs.Names.{Name, name_cmp}
use Rattle.hm_tree.specs.Nodes.{Tree, below, with_edge, without_edge}
use Rattle.hm_tree.specs.NodeLaws.{flat, flat_one}
use Rattle.std.specs.Str.{IsUtf8}
use Rattle.hm_tree.proofs.Sorted.{below_with, name_total, name_one}
use Rattle.hm_schema.proofs.NamesOf.{tie_one}
use Rattle.hm_terms.specs.Lenses.{merge, Setting}
use Rattle.hm_terms.specs.Shown.{Shows, by_merge}
use Rattle.hm_tree_parts.specs.Twins.{MergedFrom, of_none, of_same, of_other}
use Rattle.hm_terms.specs.Put.{Puts, put_merge}
use Rattle.hm_terms.specs.Kept.{Keeps, keeps_merge_same, keeps_merge_other}
use Rattle.hm_terms.specs.Fitting.{Fits}
use Rattle.hm_tree_parts.proofs.Maps.{tied, below-without, without_with, with_without}
use Rattle.hm_terms.proofs.Laws.{shown_one, put_one}

-- two trees are equal or not
pub same_or_not : (x y : Tree) → (x ≡ y) ⊎ (x ≡ y → ⊥)
same_or_not x y = go (slice_cmp name_cmp (flat x.shape) (flat y.shape)) refl
  where
    differ : (o : Ordering) → slice_cmp name_cmp (flat x.shape) (flat y.shape) ≡ o → (Equal ≡ o → ⊥) → x ≡ y → ⊥
    differ o e f h = f (sym (tied_itself (lists_total name_total) (flat x.shape))
        ∙ ap (λ (y : Tree). slice_cmp name_cmp (flat x.shape) (flat y.shape)) h ∙ e)

    go : (o : Ordering) → slice_cmp name_cmp (flat x.shape) (flat y.shape) ≡ o → (x ≡ y) ⊎ (x ≡ y → ⊥)
    go Equal e = inl (flat_one false x y (slice_cmp-IsAntisymmetric name_one (flat x.shape) (flat y.shape) e))
    go Less e = inr (differ Less e (λ h. let f : ⊥ = cc in f))
    go Greater e = inr (differ Greater e (λ h. let f : ⊥ = cc in f))

-- a tree of the source has both names; a view has the first alone, and with an edge that is merged from a tree of the source it is one
module _ (S : Setting) (m n : Name) (text : IsUtf8 n) (C A : Tree → Type 0) (apart : m ≡ n → ⊥)
    (down : (c : Tree) → C c → (x : Tree) × (y : Tree) × (below m c ≡ Some x) × (below n c ≡ Some y) × A (without_edge n c)) (shown : (v : Tree)
    → A v → (x : Tree) × (below m v ≡ Some x) × (below n v ≡ None)) (up : (v x y : Tree) (b : Option Tree) → A v → IfSome b C
    → below m v ≡ Some x → MergedFrom m n x b y → C (with_edge n y v)) where
  merged : (x : Tree) (b : Option Tree) → IfSome b C → (y : Tree) × MergedFrom m n x b y
  merged x None h = (x, of_none)
  merged x (Some b) h = let d = down b h in elim (same_or_not d.0 d.1) [
    | inl e ↦ (x, of_same d.2 (d.3 ∙ ap Some (sym e)))
    | inr f ↦ (d.1, of_other d.2 d.3 f)
  ]

  other : (b : Bool) → eq_by_cmp name_cmp m n ≡ b → eq_by_cmp name_cmp m n ≡ false
  other true e = absurd (apart (tie_one m n e))
  other false e = e

  below_first : (y v : Tree) → below m (with_edge n y v) ≡ below m v
  below_first y v = below_with m n y v text ∙ ap (λ b. cond b (Some y) (below m v)) (other (eq_by_cmp name_cmp m n) refl)

  below_second : (y v : Tree) → below n (with_edge n y v) ≡ Some y
  below_second y v = below_with n n y v text ∙ ap (λ b. cond b (Some y) (below n v)) (tied n n refl)

  swapped : (b : Bool) → eq_by_cmp name_cmp n m ≡ b → eq_by_cmp name_cmp n m ≡ false
  swapped true e = absurd (apart (sym (tie_one n m e)))
  swapped false e = e

  below_left : (c : Tree) → below m (without_edge n c) ≡ below m c
  below_left c = below-without n c m ∙ ap (λ b. cond (not b) (below m c) None) (swapped (eq_by_cmp name_cmp n m) refl)

  merge_puts : (v : Tree) (b : Option Tree) → A v → IfSome b C → (c : Tree) × Puts S (merge m n) v b c × C c
  merge_puts v b h g = let x = shown v h in let y = merged x.0 b g in (with_edge n y.0 v, put_merge x.1 x.2 y.1 refl, up v x.0 y.0 b h g x.1 y.1)

  pub fits_merge : Fits S (merge m n) C A
  fits_merge = record {
    shows = λ c h. let d = down c h in shown_one S (merge m n) c (without_edge n c) d.4 (by_merge refl);
    puts = λ v b h g. let p = merge_puts v b h g in put_one S (merge m n) v b p.0 p.2 p.1;
    get_put = get_put;
    put_get = λ v b c h g p. put_get p;
    keeps = λ v b c h g p. kept p;
  }
    where
      get_put : (c v : Tree) → C c → Shows S (merge m n) c v → Puts S (merge m n) v (Some c) c
      get_put c v h (by_merge e) =
          let d = down c h in
          let s = shown (without_edge n c) d.4 in
          let m_of : below m (without_edge n c) ≡ Some d.0 = below_left c ∙ d.2 in
          subst (λ v. Puts S (merge m n) v (Some c) c) (sym e) (elim (same_or_not d.0 d.1) [
            | inl q ↦ put_merge m_of s.2 (of_same d.2 (d.3 ∙ ap Some (sym q))) (with_without n d.0 c (d.3 ∙ ap Some (sym q)))
            | inr f ↦ put_merge m_of s.2 (of_other d.2 d.3 f) (with_without n d.1 c d.3)
          ])

      put_get : {v : Tree} {b : Option Tree} {c : Tree} → Puts S (merge m n) v b c → Shows S (merge m n) c v
      put_get (put_merge {a = v} {y = y} {c = c} e none from is) = by_merge (sym (ap (without_edge n) is ∙ without_with n y v text none))

      kept : {v b c : Tree} → Puts S (merge m n) v (Some b) c → Keeps S (merge m n) b c
      kept (put_merge {a = v} {x = x} {c = c} e none (of_same f g) is) = keeps_merge_same f g (ap (below m) is ∙ below_first x v
          ∙ e) (ap (below n) is ∙ below_second x v)
      kept (put_merge {a = v} {y = y} {c = c} e none (of_other f g d) is) = keeps_merge_other f g d (ap (below n) is ∙ below_second y v)
