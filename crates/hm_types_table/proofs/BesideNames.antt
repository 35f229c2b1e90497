-- Names that rise and the nodes beside them: what is found by a name.
use Rattle.std.proofs.Common.{◌≡◌, ℕ, zero, suc, true, false, cond, is_some, List, [], ◌∷◌, length, slice_get, Option, Some, None, refl, sym, ap, ◌∙◌, arith}
use mathlib.Core.Bool.{true≢false}
use Rattle.std.specs.List.{zip, list_any, AllByRecursion}
use Rattle.std.specs.List.Sorted.{IsStrictlySortedBy}
use Rattle.std.specs.Ordering.{eq_by_cmp, is_eq}
use Rattle.std.specs.declared.cmp.Ordering.TheVariants.{Less}
use Rattle.std.specs.FinMap.{find}
use Rattle.std.specs.FinMap.Entries.{is_some-find}
use Rattle.std.proofs.lemmas.Option.{same_Some, none-some}
use Rattle.std.proofs.lemmas.Slice.Zip.{firsts-zip}
use Rattle.hm_tree.specs.Names.{Name, name_cmp}
use Rattle.hm_tree.proofs.NameSets.{tied_self}
use Rattle.hm_tree.proofs.Sorted.{back_less}

above_at : (m : Name) (ks : List Name) (p : ℕ) (k : Name) → AllByRecursion (λ y. name_cmp m y ≡ Less) ks → slice_get ks p ≡ Some k → name_cmp m k ≡ Less
above_at m [] p k h e = absurd (none-some k e)
above_at m (y ∷ ks) zero k h e = ap (name_cmp m) (sym (same_Some y k e)) ∙ h.0
above_at m (y ∷ ks) (suc p) k h e = above_at m ks p k h.1 e

module _ {X : Type 0} where
  pub zip_size : (ks : List Name) (js : List X) → length js ≡ length ks → length (zip ks js) ≡ length js
  zip_size [] [] e = refl
  zip_size [] (j ∷ js) e = absurd (omega arith)
  zip_size (k ∷ ks) [] e = absurd (omega arith)
  zip_size (k ∷ ks) (j ∷ js) e = ap suc (zip_size ks js (omega arith))

  pub zip_at : (ks : List Name) (js : List X) (p : ℕ) (k : Name) (j : X) → slice_get ks p ≡ Some k → slice_get js p ≡ Some j
      → slice_get (zip ks js) p ≡ Some (k, j)
  zip_at [] js p k j e f = absurd (none-some k e)
  zip_at (m ∷ ks) [] p k j e f = absurd (none-some j f)
  zip_at (m ∷ ks) (i ∷ js) zero k j e f = λ t. Some (same_Some m k e t, same_Some i j f t)
  zip_at (m ∷ ks) (i ∷ js) (suc p) k j e f = zip_at ks js p k j e f

  -- beside a name that stands at a place
  pub find_beside : (ks : List Name) (js : List X) (p : ℕ) (k : Name) (j : X) → IsStrictlySortedBy name_cmp ks → slice_get ks p ≡ Some k
      → slice_get js p ≡ Some j → find name_cmp k (zip ks js) ≡ Some j
  unfolding IsStrictlySortedBy
  find_beside [] js p k j h e f = absurd (none-some k e)
  find_beside (m ∷ ks) [] p k j h e f = absurd (none-some j f)
  find_beside (m ∷ ks) (i ∷ js) zero k j h e f =
      let t : eq_by_cmp name_cmp k m ≡ true = ap (eq_by_cmp name_cmp k) (same_Some m k e) ∙ tied_self k in
      ap (λ b. cond b (Some i) (find name_cmp k (zip ks js))) t ∙ f
  find_beside (m ∷ ks) (i ∷ js) (suc p) k j h e f =
      let later : eq_by_cmp name_cmp k m ≡ false = ap is_eq (back_less k m (above_at m ks p k h.0 e)) in
      ap (λ b. cond b (Some i) (find name_cmp k (zip ks js))) later ∙ find_beside ks js p k j h.1 e f

  -- which names are listed
  pub listed_beside : (ks : List Name) (js : List X) (k : Name) → length js ≡ length ks
      → is_some (find name_cmp k (zip ks js)) ≡ list_any (eq_by_cmp name_cmp k) ks
  listed_beside ks js k e = is_some-find name_cmp k (zip ks js) ∙ ap (list_any (eq_by_cmp name_cmp k)) (firsts-zip ks js e)

  pub none_beside : (ks : List Name) (js : List X) (k : Name) → length js ≡ length ks → list_any (eq_by_cmp name_cmp k) ks ≡ false
      → find name_cmp k (zip ks js) ≡ None
  none_beside ks js k e off = go (find name_cmp k (zip ks js)) (listed_beside ks js k e ∙ off)
    where
      go : (x : Option X) → is_some x ≡ false → x ≡ None
      go None h = refl
      go (Some x) h = absurd (true≢false h)
