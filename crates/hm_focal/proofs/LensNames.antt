-- The first place of the name of each lens, and lists that are built one line after another.
use Rattle.std.proofs.Common.{◌≡◌, ℕ, zero, suc, ◌+◌, ◌<◌, ◌≤◌, cond, List, [], ◌∷◌, ◌++◌, length, take, drop, map, get_or, slice_get, count_by, Option, Some, None, refl, sym, ap, ◌∙◌, subst, arith}
use Rattle.indexmap.specs.IndexMap.{get_by_text}
use Rattle.std.specs.List.{cons_option}
use Rattle.std.proofs.lemmas.List.{length_push, map-append, length-map, length-take, take_all, take-append-drop}
use Rattle.std.proofs.lemmas.List.Elements.{filter_map-append}
use Rattle.std.proofs.lemmas.List.Sums.{sum_by-cons}
use Rattle.std.specs.Option.{option_map}
use Rattle.std.proofs.lemmas.Option.{slice_get_read, slice_get-map}
use Rattle.std.proofs.Math.Seq.{take-suc}
use mathlib.Core.List.{append-nil}
use Rattle.hm_tree.specs.Names.{Name}
use Rattle.hm_schema_lines.specs.Firsts.{place_in, kept_first, AreFirsts, FirstPlaces}
use Rattle.hm_schema_lines.proofs.Laws.{place_next, there, not_there, first_at, not_before}
use Rattle.hm_focal.specs.declared.own.Own.{Own}
use Rattle.hm_focal.specs.OwnLines.{LensValue, OwnValue, nothing, header, format, lens, main, own_value, own_values, is_lens, name_in, lens_names}
use Rattle.hm_focal.specs.BadLines.{DeclaresLens}

-- one element more
pub one_more : {X Y : Type 0} (f : X → Y) (xs : List X) (i : ℕ) (x : X) → i < length xs → x ≡ get_or xs i x
    → map f (take (i + 1) xs) ≡ map f (take i xs) ++ f x ∷ []
one_more f xs i x below is =
    ap (λ z. map f (take z xs)) (suc_is i)
    ∙ ap (map f) (take-suc xs i x below)
    ∙ ap (λ z. map f (take i xs ++ z ∷ [])) (sym is)
    ∙ map-append f (take i xs) (x ∷ [])
  where
    suc_is : (n : ℕ) → n + 1 ≡ suc n
    suc_is n = omega arith

-- a table and the place behind its names, after some lines
pub record ArePlaced (os : List OwnValue) (table : FirstPlaces) (place : ℕ) : Type 0 where
  pub firsts : AreFirsts table (lens_names os)
  pub behind : place ≡ length (lens_names os)
  pub bound : place ≤ length os

names_more : (os : List OwnValue) (o : OwnValue) → lens_names (os ++ o ∷ []) ≡ lens_names os ++ cons_option (name_in o) []
names_more os o = filter_map-append name_in os (o ∷ [])

module _ (os : List OwnValue) (o : OwnValue) (old : FirstPlaces) (p : ℕ) (h : ArePlaced os old p) where
  pub placed_name : (name : Name) → name_in o ≡ Some name → (new : FirstPlaces)
      → ((q : Name) → get_by_text new q ≡ kept_first (get_by_text old q) q name p) → ArePlaced (os ++ o ∷ []) new (p + 1)
  placed_name name is new kept =
      let names : lens_names (os ++ o ∷ []) ≡ lens_names os ++ name ∷ [] = names_more os o ∙ ap (λ z. lens_names os ++ cons_option z []) is in
      record {
        firsts = λ q.
            kept q
            ∙ ap (λ z. kept_first z q name p) (h.firsts q)
            ∙ ap (kept_first (place_in q (lens_names os)) q name) h.behind
            ∙ sym (place_next q name (lens_names os))
            ∙ ap (place_in q) (sym names);
        behind = let l = length_push (lens_names os) name in let m = ap length names in let b = h.behind in omega arith;
        bound = let l = length_push os o in let b = h.bound in omega arith;
      }

  pub placed_none : name_in o ≡ None → ArePlaced (os ++ o ∷ []) old p
  placed_none is =
      let names : lens_names (os ++ o ∷ []) ≡ lens_names os = names_more os o ∙ ap (λ z. lens_names os ++ cons_option z []) is
      ∙ append-nil (lens_names os) in
      record {
        firsts = λ q. h.firsts q ∙ ap (place_in q) (sym names);
        behind = h.behind ∙ ap length (sym names);
        bound = let l = length_push os o in let b = h.bound in omega arith;
      }

pub at_most : (xs : List Own) (i : ℕ) → length (own_values (take i xs)) ≤ i
at_most xs i = let m = length-map (take i xs) own_value in let t = length-take i xs in omega arith

pub places_end : (xs : List Own) (i : ℕ) (table : FirstPlaces) (p : ℕ) → ArePlaced (own_values (take i xs)) table p
    → length xs ≤ i → AreFirsts table (lens_names (own_values xs))
places_end xs i table p h past = subst (λ z. AreFirsts table (lens_names (own_values z))) (take_all i xs past) h.firsts

-- a line as it is read
pub own_at : (xs : List Own) (i : ℕ) (x : Own) → i < length xs → x ≡ get_or xs i x → slice_get (own_values xs) i ≡ Some (own_value x)
own_at xs i x within is = slice_get-map own_value xs i ∙ ap (option_map own_value) (slice_get_read xs (length xs) i x refl within is)

-- ---- whether a lens line is the first of its name

pub count_lenses : (os : List OwnValue) → count_by is_lens os ≡ length (lens_names os)
count_lenses [] = refl
count_lenses (o ∷ os) = by o (count_lenses os)
  where
    by : (o : OwnValue) → count_by is_lens os ≡ length (lens_names os) → count_by is_lens (o ∷ os) ≡ length (lens_names (o ∷ os))
    by (lens d) more = let c = sum_by-cons (λ z. cond (is_lens z) 1 0) (lens d) os in omega arith
    by nothing more = let c = sum_by-cons (λ z. cond (is_lens z) 1 0) nothing os in omega arith
    by header more = let c = sum_by-cons (λ z. cond (is_lens z) 1 0) header os in omega arith
    by (format w ps) more = let c = sum_by-cons (λ z. cond (is_lens z) 1 0) (format w ps) os in omega arith
    by (main b) more = let c = sum_by-cons (λ z. cond (is_lens z) 1 0) (main b) os in omega arith

cut : {X : Type 0} (xs : List X) (i : ℕ) (x : X) → slice_get xs i ≡ Some x → drop i xs ≡ x ∷ drop (suc i) xs
cut [] i x e = let f : ⊥ = cc in absurd f
cut (y ∷ xs) zero x e = let same : y ≡ x = cc in (λ j. same j ∷ xs)
cut (y ∷ xs) (suc i) x e = cut xs i x e

module _ (os : List OwnValue) (i : ℕ) (d : LensValue) (is : slice_get os i ≡ Some (lens d)) (table : FirstPlaces)
    (h : AreFirsts table (lens_names os)) where
  front : List Name
  front = lens_names (take i os)

  back : List Name
  back = lens_names (drop (suc i) os)

  all_names : lens_names os ≡ front ++ d.name ∷ back
  unfolding front back
  all_names = ap lens_names (sym (take-append-drop i os) ∙ ap (λ z. take i os ++ z) (cut os i (lens d) is))
      ∙ filter_map-append name_in (take i os) (lens d ∷ drop (suc i) os)

  pub declared_first : ¬ (DeclaresLens (take i os) d.name) → get_by_text table d.name ≡ Some (count_by is_lens (take i os))
  unfolding front back
  declared_first none = h d.name ∙ ap (place_in d.name) all_names ∙ first_at d.name front back none ∙ ap Some (sym (count_lenses (take i os)))

  pub declared_again : get_by_text table d.name ≡ Some (count_by is_lens (take i os)) → ¬ (DeclaresLens (take i os) d.name)
  unfolding front back
  declared_again e c = not_before d.name front back (ap (place_in d.name) (sym all_names) ∙ sym (h d.name) ∙ e ∙ ap Some (count_lenses (take i os))) c

  pub twice_declared : (get_by_text table d.name ≡ Some (count_by is_lens (take i os)) → ⊥) → DeclaresLens (take i os) d.name
  unfolding front back
  twice_declared none = go (place_in d.name front) refl
    where
      go : (o : Option ℕ) → place_in d.name front ≡ o → DeclaresLens (take i os) d.name
      go (Some p) e = there d.name front p e
      go None e = absurd (none (declared_first (λ c. not_there d.name front e c)))

module _ (os : List OwnValue) (table : FirstPlaces) (h : AreFirsts table (lens_names os)) (n : Name) where
  pub undeclared : get_by_text table n ≡ None → ¬ (DeclaresLens os n)
  undeclared e = not_there n (lens_names os) (sym (h n) ∙ e)

  pub no_place : ¬ (DeclaresLens os n) → get_by_text table n ≡ None
  no_place none = go (get_by_text table n) refl
    where
      go : (o : Option ℕ) → get_by_text table n ≡ o → o ≡ None
      go None e = refl
      go (Some p) e = absurd (none (there n (lens_names os) p (sym (h n) ∙ e)))
