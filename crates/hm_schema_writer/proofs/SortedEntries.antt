-- Entries that are sorted by their names: none stands twice.
use Rattle.std.proofs.Common.{◌≡◌, ℕ, zero, suc, ◌<◌, true, T, is_some, List, [], ◌∷◌, map, Option, Some, None, refl, sym, ap, subst, ◌∙◌, arith, slice_get}
use Rattle.std.specs.List.{list_any}
use Rattle.std.specs.Ordering.{is_lt, is_eq}
use Rattle.std.specs.FinMap.{is_sorted, find}
use Rattle.std.specs.FinMap.Entries.{is_some-find}
use Rattle.std.proofs.lemmas.Bool.{true≢false}
use Rattle.std.proofs.lemmas.Cmp.{tied_itself}
use Rattle.std.proofs.lemmas.Map.Keys.{any_passes_from_place}
use Rattle.std.proofs.lemmas.Option.{same_Some}
use Rattle.hm_tree.specs.Names.{Name, name_cmp}
use Rattle.hm_tree.specs.Nodes.{first, second, below_all}
use Rattle.hm_tree.proofs.Sorted.{name_total}
use Rattle.hm_tree.proofs.NameSets.{tied}
use Rattle.hm_schema_lines.proofs.Laws.{found_from}
use Rattle.hm_schema_writer.proofs.Lists.{map_at}

module _ {X : Type 0} where
  below_at : (x : Name) (es : List (Name × X)) → T (below_all x es) → (j : ℕ) (e : Name × X) → slice_get es j ≡ Some e → T (is_lt (name_cmp x e.0))
  below_at x [] h j e is = let f : ⊥ = cc in absurd f
  below_at x (d ∷ es) h zero e is = subst (λ (z : Name × X). T (is_lt (name_cmp x z.0))) (same_Some d e is) (first _ _ h)
  below_at x (d ∷ es) h (suc j) e is = below_at x es (second _ _ h) j e is

  pub apart : (es : List (Name × X)) → T (is_sorted name_cmp es) → (i j : ℕ) (d e : Name × X) → i < j → slice_get es i ≡ Some d → slice_get es j ≡ Some e
      → ¬ (d.0 ≡ e.0)
  apart [] h i j d e below at_i at_j same = let f : ⊥ = cc in f
  apart (c ∷ es) h zero zero d e below at_i at_j same = absurd (omega (arith, below))
  apart (c ∷ es) h (suc i) zero d e below at_i at_j same = absurd (omega (arith, below))
  apart (c ∷ es) h zero (suc j) d e below at_i at_j same =
      let lt = below_at c.0 es (first _ _ h) j e at_j in
      let key : c.0 ≡ e.0 = ap (λ (z : Name × X). z.0) (same_Some c d at_i) ∙ same in
      let lt_self = subst (λ (z : Name). T (is_lt (name_cmp z e.0))) key lt in
      subst (λ o. T (is_lt o)) (tied_itself name_total e.0) lt_self
  apart (c ∷ es) h (suc i) (suc j) d e below at_i at_j same = apart es (second _ _ h) i j d e (omega (arith, below)) at_i at_j same

  pub one_place : (es : List (Name × X)) → T (is_sorted name_cmp es) → (i j : ℕ) (d e : Name × X) → slice_get es i ≡ Some d → slice_get es j ≡ Some e
      → d.0 ≡ e.0 → i ≡ j
  one_place es h i j d e at_i at_j same =
      omega (arith, λ (lt : i < j). apart es h i j d e lt at_i at_j same, λ (lt : j < i). apart es h j i e d lt at_j at_i (sym same))

  pub find_in : (es : List (Name × X)) → T (is_sorted name_cmp es) → (m : ℕ) (k : Name) (v : X) → slice_get es m ≡ Some (k, v)
      → find name_cmp k es ≡ Some v
  find_in es h m k v is = go (find name_cmp k es) refl
    where
      go : (o : Option X) → find name_cmp k es ≡ o → find name_cmp k es ≡ Some v
      go None none =
          let any : list_any (tied k) (map (λ (e : Name × X). e.0) es) ≡ true =
          any_passes_from_place (tied k) (map (λ (e : Name × X). e.0) es) m k (map_at (λ (e : Name × X). e.0) es m (k, v) is)
          (ap is_eq (tied_itself name_total k)) in
          absurd (true≢false (sym any ∙ sym (is_some-find name_cmp k es) ∙ ap is_some none))
      go (Some u) at =
          let f = found_from k u es at in
          let d : Name × X = (k, u) in
          let e : Name × X = (k, v) in
          let place : f.0 ≡ m = one_place es h f.0 m d e f.1 is refl in
          let same : d ≡ e = same_Some d e (sym f.1 ∙ ap (slice_get es) place ∙ is) in
          at ∙ ap (λ (z : Name × X). Some z.1) same
