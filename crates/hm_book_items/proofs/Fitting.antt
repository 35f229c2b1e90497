-- PutGet and GetPut for a format that writes only what fits.
use Rattle.std.proofs.Common.{◌≡◌, ℕ, zero, suc, Bool, true, false, cond, List, [], ◌∷◌, ◌++◌, length, slice_get, drop, Option, Some, None, refl, sym, ap, ◌∙◌, subst}
use Rattle.std.specs.Prelude.{IfSome}
use Rattle.std.specs.declared.cmp.Ordering.{Ordering}
use Rattle.std.specs.declared.cmp.Ordering.TheVariants.{Equal}
use Rattle.std.specs.Ordering.{eq_by_cmp}
use Rattle.std.specs.Option.{unwrap_or}
use Rattle.std.specs.Cmp.{IsTotalOrder}
use Rattle.std.specs.FinMap.{find}
use Rattle.hm_book_items.specs.Items.{of_key, below_key, IsTree, IsGrouped, survivor, kept, fresh, added, shown, seen, unchanged, written, Each, IsWriting, IsRewritten}
use Rattle.hm_book_items.proofs.ReadBack.{same, reads_back, unchanged_stays}

module _ {K : Type 0} (R : K → K → Ordering) (total : IsTotalOrder R) (one : (a b : K) → R a b ≡ Equal → a ≡ b)
    {C A : Type 0} (P : K → A → Type 0) (Q : K → C → Type 0) where
  abbrev pub Fits : K × Option C × A → Type 0
  Fits s = P s.0 s.2 × IfSome s.1 (Q s.0)

  abbrev pub AllFit : List (K × List A) → Type 0
  AllFit tree = Each R (λ e. Each R (P e.0) e.1) tree

  each-append : {X : Type 0} (S : X → Type 0) (xs ys : List X) → Each R S xs → Each R S ys → Each R S (xs ++ ys)
  each-append S [] ys a b = b
  each-append S (x ∷ xs) ys a b = (a.0, each-append S xs ys a.1 b)

  pub each-drop : {X : Type 0} (S : X → Type 0) (n : ℕ) (xs : List X) → Each R S xs → Each R S (drop n xs)
  each-drop S zero [] a = a
  each-drop S (suc n) [] a = a
  each-drop S zero (x ∷ xs) a = a
  each-drop S (suc n) (x ∷ xs) a = each-drop S n xs a.1

  pub each_got : {X : Type 0} (S : X → Type 0) (n : ℕ) (xs : List X) → Each R S xs → IfSome (slice_get xs n) S
  each_got S n [] a = tt
  each_got S zero (x ∷ xs) a = a.0
  each_got S (suc n) (x ∷ xs) a = each_got S n xs a.1

  pub below_fits : (k : K) (tree : List (K × List A)) → AllFit tree → Each R (P k) (below_key R k tree)
  below_fits k [] a = tt
  below_fits k (e ∷ es) a = go e es (eq_by_cmp R k e.0) refl a.0 (below_fits k es a.1)
    where
      go : (e : K × List A) (es : List (K × List A)) (b : Bool) → eq_by_cmp R k e.0 ≡ b → Each R (P e.0) e.1 → Each R (P k) (below_key R k es) → Each R (P k) (unwrap_or (cond b (Some e.1) (find R k es)) [])
      go e es true p a r = subst (λ j. Each R (P j) e.1) (sym (same R total one k e.0 p)) a
      go e es false p a r = r

  survivor_fits : (x : K × C) (o : Option A) → Q x.0 x.1 → IfSome o (P x.0) → Each R Fits (survivor R x o)
  survivor_fits x None q p = tt
  survivor_fits x (Some a) q p = ((p, q), tt)

  kept_fits : (tree : List (K × List A)) (before rest : List (K × C)) → AllFit tree → Each R (λ x. Q x.0 x.1) rest → Each R Fits (kept R tree before rest)
  kept_fits tree before [] a q = tt
  kept_fits tree before (x ∷ rest) a q =
      each-append Fits (survivor R x (slice_get (below_key R x.0 tree) (length (of_key R x.0 before)))) (kept R tree (before ++ x ∷ []) rest)
      (survivor_fits x (slice_get (below_key R x.0 tree) (length (of_key R x.0 before))) q.0 (each_got (P x.0) (length (of_key R x.0 before)) (below_key R x.0 tree) (below_fits x.0 tree a)))
      (kept_fits tree (before ++ x ∷ []) rest a q.1)

  fresh_fits : (k : K) (l : List A) → Each R (P k) l → Each R Fits (fresh R k l)
  fresh_fits k [] a = tt
  fresh_fits k (x ∷ l) a = ((a.0, tt), fresh_fits k l a.1)

  added_fits : (old : List (K × C)) (tree : List (K × List A)) → AllFit tree → Each R Fits (added R old tree)
  added_fits old [] a = tt
  added_fits old (e ∷ es) a =
      let n = length (of_key R e.0 old) in
      each-append Fits (fresh R e.0 (drop n e.1)) (added R old es) (fresh_fits e.0 (drop n e.1) (each-drop (P e.0) n e.1 a.0)) (added_fits old es a.1)

  pub all_fit : (old : List (K × C)) (tree : List (K × List A)) (new : List (K × Option C × A)) → AllFit tree → Each R (λ x. Q x.0 x.1) old → IsRewritten R old tree new → Each R Fits new
  all_fit old tree new a q made = subst (Each R Fits) (sym made) (each-append Fits (kept R tree [] old) (added R old tree) (kept_fits tree [] old a q) (added_fits old tree a))

  module _ (show : C → A) (write : K → Option C → A → C) (law : IsWriting R P Q show write) where
    shows_all : (new : List (K × Option C × A)) → Each R Fits new → seen R show (written R write new) ≡ shown R new
    shows_all [] f = refl
    shows_all (s ∷ ss) f = λ i. (s.0, law.shows s.0 s.1 s.2 f.0.0 f.0.1 i) ∷ shows_all ss f.1 i

    sound_all : (new : List (K × Option C × A)) → Each R Fits new → Each R (λ x. Q x.0 x.1) (written R write new)
    sound_all [] f = tt
    sound_all (s ∷ ss) f = (law.sound s.0 s.1 s.2 f.0.0 f.0.1, sound_all ss f.1)

    stay_all : (old : List (K × C)) → Each R (λ x. Q x.0 x.1) old → written R write (unchanged R show old) ≡ old
    stay_all [] q = refl
    stay_all (x ∷ xs) q = λ i. (x.0, law.stays x.0 x.1 q.0 i) ∷ stay_all xs q.1 i

    module _ (old : List (K × C)) (tree : List (K × List A)) (new : List (K × Option C × A)) (stand : Each R (λ x. Q x.0 x.1) old) (made : IsRewritten R old tree new) where
      pub put_get_fit : IsTree R tree → AllFit tree → IsGrouped R (seen R show (written R write new)) tree
      put_get_fit good a = subst (λ l. IsGrouped R l tree) (sym (shows_all new (all_fit old tree new a stand made))) (reads_back R total one old tree new good made)

      pub sound_fit : AllFit tree → Each R (λ x. Q x.0 x.1) (written R write new)
      sound_fit a = sound_all new (all_fit old tree new a stand made)

      pub get_put_fit : IsGrouped R (seen R show old) tree → written R write new ≡ old
      get_put_fit g = ap (written R write) (unchanged_stays R total one show old tree new g made) ∙ stay_all old stand
