-- Names with the places where they stand first among others.
use Rattle.std.proofs.Common.{◌≡◌, ℕ, suc, ◌+◌, ◌<◌, Bool, true, false, cond, T, List, [], ◌∷◌, ◌++◌, length, get_or, take, Option, Some, None, is_none, refl, sym, ap, subst, ◌∙◌, arith}
use Rattle.std.specs.List.{insert}
use Rattle.std.specs.Option.{option_map, option_or}
use Rattle.std.specs.Ordering.{eq_by_cmp}
use Rattle.std.specs.FinMap.{find, put, is_sorted}
use Rattle.std.specs.FinMap.Entries.{find-put}
use Rattle.std.proofs.lemmas.List.{length-map, length-take-le, map-append}
use Rattle.hm_tree.specs.Names.{Name, name_cmp}
use Rattle.hm_tree.specs.Edges.{IsPlaceOf, IsGapFor}
use Rattle.hm_tree.proofs.Sorted.{name_total, put_rank, sorted_put}
use Rattle.hm_schema.proofs.NamesOf.{tie_one}
use Rattle.hm_terms.specs.declared.term.Definition.{Definition}
use Rattle.hm_terms_cycles.proofs.Elements.{take_next}
use Rattle.hm_terms_cycles.specs.Places.{names_by, place_in, ArePlaces, IsPutLast}
use Rattle.hm_facts.proofs.Options.{or_none}

-- ---- one name more

module _ {V : Type 0} (name : Name) (place : V) (old : List (Name × V)) (sorted : T (is_sorted name_cmp old)) where
  there : (es : List (Name × V)) (i : ℕ) → IsPlaceOf name es i → (p : V) × (find name_cmp name es ≡ Some p)
  there [] i at = absurd (omega (arith, at.in_range))
  there (e ∷ es) i at = (_, at.found e)

  -- the code looks for the name in es
  pub known_name : (es : List (Name × V)) → es ≡ old → (i : ℕ) → IsPlaceOf name es i → false ≡ is_none (find name_cmp name old)
  known_name es seen i at = sym (ap is_none (ap (find name_cmp name) (sym seen) ∙ (there es i at).1))

  pub put_known : (es : List (Name × V)) → es ≡ old → (i : ℕ) → IsPlaceOf name es i → IsPutLast name place old old
  put_known es seen i at = record { sorted = sorted; all = λ n. go n (eq_by_cmp name_cmp n name) refl }
    where
      go : (n : Name) (b : Bool) → eq_by_cmp name_cmp n name ≡ b → find name_cmp n old ≡ option_or (find name_cmp n old) (cond b (Some place) None)
      go n false e = or_none (find name_cmp n old)
      go n true e =
          let p = there es i at in
          let some : find name_cmp n old ≡ Some p.0 = ap (λ m. find name_cmp m old) (tie_one n name e) ∙ ap (find name_cmp name) (sym seen) ∙ p.1 in
          some ∙ sym (ap (λ x. option_or x (Some place)) some)

  pub put_new : (es : List (Name × V)) → es ≡ old → (gap : ℕ) (k : Name) (new : List (Name × V)) → IsGapFor name es gap → k ≡ name
      → new ≡ insert old gap (k, place)
      → IsPutLast name place old new
  put_new es seen gap k new is_free same made = record {
    sorted = subst (λ l. T (is_sorted name_cmp l)) (sym is_put) (sorted_put name place old sorted);
    all = λ n. ap (find name_cmp n) is_put ∙ find-put name_cmp name_total n name place old ∙ go n (eq_by_cmp name_cmp n name) refl;
  }
    where
      free : IsGapFor name old gap
      free = subst (λ l. IsGapFor name l gap) seen is_free

      is_put : new ≡ put name_cmp name place old
      is_put = made ∙ ap (λ m. insert old gap (m, place)) same ∙ ap (λ j. insert old j (name, place)) free.place ∙ sym (put_rank name place old free.absent)

      go : (n : Name) (b : Bool) → eq_by_cmp name_cmp n name ≡ b
          → cond b (Some place) (find name_cmp n old) ≡ option_or (find name_cmp n old) (cond b (Some place) None)
      go n false e = or_none (find name_cmp n old)
      go n true e = sym (ap (λ x. option_or x (Some place)) (ap (λ m. find name_cmp m old) (tie_one n name e) ∙ free.absent))

-- ---- the names of definitions

-- the first place of a name counts
place_last : (ks : List Name) (k n : Name) → place_in (ks ++ k ∷ []) n ≡ option_or (place_in ks n) (cond (eq_by_cmp name_cmp n k) (Some (length ks)) None)
place_last [] k n = go (eq_by_cmp name_cmp n k)
  where
    go : (b : Bool) → cond b (Some 0) (option_map suc None) ≡ cond b (Some 0) None
    go true = refl
    go false = refl
place_last (m ∷ ks) k n = go (eq_by_cmp name_cmp n m) (eq_by_cmp name_cmp n k) (place_last ks k n)
  where
    next : (o : Option ℕ) (c : Bool) → option_map suc (option_or o (cond c (Some (length ks)) None))
        ≡ option_or (option_map suc o) (cond c (Some (suc (length ks))) None)
    next None true = refl
    next None false = refl
    next (Some i) c = refl

    go : (b c : Bool) → place_in (ks ++ k ∷ []) n ≡ option_or (place_in ks n) (cond c (Some (length ks)) None)
        → cond b (Some 0) (option_map suc (place_in (ks ++ k ∷ []) n))
        ≡ option_or (cond b (Some 0) (option_map suc (place_in ks n))) (cond c (Some (suc (length ks))) None)
    go true c e = refl
    go false c e = ap (option_map suc) e ∙ next (place_in ks n) c

pub places_more : (ds : List Definition) (i : ℕ) (d : Definition) (old new : List (Name × ℕ)) → i < length ds → d ≡ get_or ds i d
    → ArePlaces (names_by (take i ds)) old → IsPutLast d.name i old new → ArePlaces (names_by (take (i + 1) ds)) new
places_more ds i d old new lt is so h = record {
  sorted = h.sorted;
  all = λ n. h.all n ∙ ap (λ o. option_or o (cond (eq_by_cmp name_cmp n d.name) (Some i) None)) (so.all n)
      ∙ ap (λ j. option_or (place_in (names_by (take i ds)) n) (cond (eq_by_cmp name_cmp n d.name) (Some j) None)) count
      ∙ sym (place_last (names_by (take i ds)) d.name n) ∙ ap (λ ks. place_in ks n) (sym further);
}
  where
    count : i ≡ length (names_by (take i ds))
    count = sym (length-map (take i ds) (λ (d : Definition). d.name) ∙ length-take-le i ds (omega (arith, lt)))

    further : names_by (take (i + 1) ds) ≡ names_by (take i ds) ++ d.name ∷ []
    further = ap names_by (take_next ds i d lt is) ∙ map-append (λ (d : Definition). d.name) (take i ds) (d ∷ [])
