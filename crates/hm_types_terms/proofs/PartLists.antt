-- Lists of the lenses in a lens.
use Rattle.std.proofs.Common.{◌≡◌, ◌<◌, ◌+◌, ℕ, true, false, List, [], ◌∷◌, ◌++◌, length, map, take, get_or, slice_get, slice_set, Some, refl, sym, ap, subst, inl, inr, ◌∙◌, arith, length-append, append_assoc}
use Rattle.std.specs.Option.{option_map}
use Rattle.std.proofs.lemmas.List.{length-map, map-append, append-nil}
use Rattle.std.proofs.lemmas.Option.{slice_get-map, slice_get_within, same_Some}
use Rattle.hm_tree.specs.Names.{Name}
use Rattle.hm_terms.specs.declared.term.Term.{Term}
use Rattle.hm_terms.specs.Lenses.{Lens}
use Rattle.hm_terms.specs.Programs.{lens_of, lenses_of}
use Rattle.hm_types_rules.specs.Faults.{size_of}
use Rattle.hm_types_rules.specs.Texts.{HasTexts, HaveTexts}
use Rattle.hm_types_terms.specs.declared.part.Part.{Part}
use Rattle.hm_types_terms.specs.Numbers.{parts_of, parts_of_all}
use Rattle.hm_types_terms.specs.Parts.{part_of, parts_inside, behind_head, IsFirstCopy, copies_first, none_copies}
use Rattle.hm_types_terms.proofs.Named.{Terms, one_more}
use Rattle.std.proofs.lemmas.Bool.{cases_lt}
use Rattle.hm_types_terms.proofs.Entries.{there}
use Rattle.hm_types_terms.proofs.Standing.{begins, count}

-- ---- a lens before those inside it

set_first : (old inside : List Part) (p q : Part) → slice_set (old ++ (p ∷ inside)) (length old) q ≡ old ++ (q ∷ inside)
set_first [] inside p q = refl
set_first (x ∷ old) inside p q = ap (λ l. x ∷ l) (set_first old inside p q)

pub head_inside : (l : Lens) → parts_of l ≡ l ∷ parts_inside l
head_inside l = let b = begins l in b.1 ∙ ap (λ xs. l ∷ xs) (sym (ap behind_head b.1))

pub size_inside : (l : Lens) → 1 + length (parts_inside l) ≡ size_of l
size_inside l = let same = ap length (head_inside l) in omega (arith, same, count l)

module _ (old new : List Part) (p : Part) (l : Lens) (is : new ≡ (old ++ p ∷ []) ++ map part_of (parts_inside l)) where
  spread : new ≡ old ++ (p ∷ map part_of (parts_inside l))
  spread = is ∙ append_assoc old (p ∷ []) (map part_of (parts_inside l))

  pub new_length : length new ≡ length old + size_of l
  new_length =
      let inside = length-map (parts_inside l) part_of in
      omega (arith, ap length spread, length-append old (p ∷ map part_of (parts_inside l)), inside, size_inside l)

  pub first_read : (place : ℕ) (d : Part) → place ≡ length old → get_or new place d ≡ p
  first_read place d e = (λ t. get_or (spread t) (e t) d) ∙ go old
    where
      go : (old : List Part) → get_or (old ++ (p ∷ map part_of (parts_inside l))) (length old) d ≡ p
      go [] = refl
      go (x ∷ old) = go old

  pub parts_set : (place : ℕ) (q : Part) → place ≡ length old → q ≡ part_of l → slice_set new place q ≡ old ++ map part_of (parts_of l)
  parts_set place q e f =
      (λ t. slice_set (spread t) (e t) (f t)) ∙ set_first old (map part_of (parts_inside l)) p (part_of l) ∙ ap (λ xs. old ++ map part_of xs) (sym (head_inside l))

-- ---- rows

parts_all_append : (xs ys : Terms) → parts_of_all (lenses_of (xs ++ ys)) ≡ parts_of_all (lenses_of xs) ++ parts_of_all (lenses_of ys)
parts_all_append [] ys = refl
parts_all_append (x ∷ xs) ys = ap (λ l. parts_of (lens_of x.1) ++ l) (parts_all_append xs ys)
    ∙ sym (append_assoc (parts_of (lens_of x.1)) (parts_of_all (lenses_of xs)) (parts_of_all (lenses_of ys)))

texts_append : (xs ys : Terms) → HaveTexts (lenses_of xs) → HaveTexts (lenses_of ys) → HaveTexts (lenses_of (xs ++ ys))
texts_append [] ys h k = k
texts_append (x ∷ xs) ys h k = (h.0, texts_append xs ys h.1 k)

module _ (rows : Terms) (i : ℕ) (row : Name × Term) (at : slice_get rows i ≡ Some row) where
  pub rows_next : (old mid new : List Part) → mid ≡ old ++ map part_of (parts_of_all (lenses_of (take i rows)))
      → new ≡ mid ++ map part_of (parts_of (lens_of row.1)) → new ≡ old ++ map part_of (parts_of_all (lenses_of (take (i + 1) rows)))
  rows_next old mid new e f =
      let xs = parts_of_all (lenses_of (take i rows)) in
      let ys = parts_of (lens_of row.1) in
      f ∙ ap (λ l. l ++ map part_of ys) e ∙ append_assoc old (map part_of xs) (map part_of ys) ∙ ap (λ l. old ++ l) (sym (map-append part_of xs ys))
      ∙ ap (λ l. old ++ map part_of (xs ++ l)) (sym (append-nil ys))
      ∙ ap (λ l. old ++ map part_of l) (sym (parts_all_append (take i rows) (row ∷ [])))
      ∙ ap (λ r. old ++ map part_of (parts_of_all (lenses_of r))) (sym (one_more rows i row at))

  pub lenses_next : (old mid new : List Lens) → mid ≡ old ++ parts_of_all (lenses_of (take i rows)) → new ≡ mid ++ parts_of (lens_of row.1)
      → new ≡ old ++ parts_of_all (lenses_of (take (i + 1) rows))
  lenses_next old mid new e f =
      let xs = parts_of_all (lenses_of (take i rows)) in
      let ys = parts_of (lens_of row.1) in
      f ∙ ap (λ l. l ++ ys) e ∙ append_assoc old xs ys ∙ ap (λ l. old ++ (xs ++ l)) (sym (append-nil ys))
      ∙ ap (λ l. old ++ l) (sym (parts_all_append (take i rows) (row ∷ []))) ∙ ap (λ r. old ++ parts_of_all (lenses_of r)) (sym (one_more rows i row at))

  pub texts_next : HaveTexts (lenses_of (take i rows)) → HasTexts (lens_of row.1) → HaveTexts (lenses_of (take (i + 1) rows))
  texts_next h k = subst (λ r. HaveTexts (lenses_of r)) (sym (one_more rows i row at)) (texts_append (take i rows) (row ∷ []) h (k, tt))

pub both_parts : (xs ys : List Lens) (old mid new : List Part) → mid ≡ old ++ map part_of xs → new ≡ mid ++ map part_of ys → new ≡ old ++ map part_of (xs ++ ys)
both_parts xs ys old mid new e f =
    f ∙ ap (λ l. l ++ map part_of ys) e ∙ append_assoc old (map part_of xs) (map part_of ys) ∙ ap (λ l. old ++ l) (sym (map-append part_of xs ys))

-- ---- the first copy

module _ (l : Lens) (parts : List Part) (is : parts ≡ map part_of (parts_of l)) where
  part_at : (j : ℕ) (x : Lens) → slice_get (parts_of l) j ≡ Some x → slice_get parts j ≡ Some (part_of x)
  part_at j x e = ap (λ xs. slice_get xs j) is ∙ slice_get-map part_of (parts_of l) j ∙ ap (option_map part_of) e

  pub copy_found : (i : ℕ) (p : Part) → slice_get parts i ≡ Some p → p.copies ≡ true → ((j : ℕ) (p : Part) → j < i → slice_get parts j ≡ Some p → p.copies ≡ false)
      → IsFirstCopy l (i + 1)
  copy_found i p at c before =
      let x = there (parts_of l) i (omega (arith, slice_get_within parts i p at, ap length is, length-map (parts_of l) part_of)) in
      let same = same_Some p (part_of x.0) (sym at ∙ part_at i x.0 x.1) in
      copies_first x.1 (ap (λ (p : Part). p.copies) (sym same) ∙ c) (λ j y lt e. before j (part_of y) lt (part_at j y e))

  pub copy_missing : ((j : ℕ) (p : Part) → j < length parts → slice_get parts j ≡ Some p → p.copies ≡ false) → IsFirstCopy l 1
  copy_missing off = none_copies (λ j y e. off j (part_of y) (slice_get_within parts j (part_of y) (part_at j y e)) (part_at j y e))

-- one more doesn't copy
pub none_next : (parts : List Part) (i : ℕ) (p : Part) → slice_get parts i ≡ Some p → p.copies ≡ false
    → ((j : ℕ) (p : Part) → j < i → slice_get parts j ≡ Some p → p.copies ≡ false) → (j : ℕ) (p : Part) → j < i + 1 → slice_get parts j ≡ Some p → p.copies ≡ false
none_next parts i p at c before j q lt e = elim (cases_lt j i) [
  | inl less ↦ before j q less e
  | inr ge ↦
      let same : j ≡ i = omega (arith, lt, ge) in
      ap (λ (p : Part). p.copies) (same_Some q p (sym e ∙ ap (slice_get parts) same ∙ at)) ∙ c
]
