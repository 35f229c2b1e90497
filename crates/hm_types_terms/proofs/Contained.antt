-- What is among the lenses in a lens stands in it.
use Rattle.std.proofs.Common.{◌≡◌, ◌⊎◌, List, [], ◌∷◌, ◌++◌, Contains, inl, inr, subst, zero, suc, arith}
use Rattle.std.proofs.lemmas.List.Elements.{Contains-append_cases}
use Rattle.hm_tree.specs.Names.{Name}
use Rattle.hm_terms.specs.Lenses.{Lens, Lenses, none, also, identity, sequence, constant, hoist, plunge, fork, each, among, items, copy, merge, on_concrete, on_view, text, call}
use Rattle.hm_terms.specs.WellFormedPrograms.{StandsIn, itself, in_first, in_second, inside, outside, in_each, in_among, in_items, where_it_has, where_it_lacks, where_it_showed, where_it_did_not, IsAmong, here, further}
use Rattle.hm_types_terms.specs.Numbers.{parts_of, parts_of_all}

-- the first one, or one of the others
head_or : {X : Type 0} (x y : X) (xs : List X) → Contains (x ∷ xs) y → (x ≡ y) ⊎ Contains xs y
head_or x y xs (zero, lt, e) = inl e
head_or x y xs (suc k, lt, e) = inr (k, omega (arith, lt), e)

one_only : (x l : Lens) → Contains (x ∷ []) l → StandsIn l x
one_only x l c = elim (head_or x l [] c) [ inl e ↦ subst (λ y. StandsIn y x) e itself | inr d ↦ absurd (let lt = d.1 in omega (arith, lt)) ]

-- among some lenses, in one of them
record IsInside (l : Lens) (ls : Lenses) : Type 0 where
  name : Name
  lens : Lens
  is : IsAmong name lens ls
  stands : StandsIn l lens

mutual
  pub contained_stands : (x l : Lens) → Contains (parts_of x) l → StandsIn l x
  contained_stands identity l c = one_only identity l c
  contained_stands (sequence a b) l c = elim (head_or (sequence a b) l (parts_of a ++ parts_of b) c) [
    | inl e ↦ subst (λ y. StandsIn y (sequence a b)) e itself
    | inr d ↦ elim (Contains-append_cases (parts_of a) (parts_of b) l d) [ inl f ↦ in_first (contained_stands a l f) | inr f ↦ in_second (contained_stands b l f) ]
  ]
  contained_stands (constant t d) l c = one_only (constant t d) l c
  contained_stands (hoist n) l c = one_only (hoist n) l c
  contained_stands (plunge n) l c = one_only (plunge n) l c
  contained_stands (fork P Q a b) l c = elim (head_or (fork P Q a b) l (parts_of a ++ parts_of b) c) [
    | inl e ↦ subst (λ y. StandsIn y (fork P Q a b)) e itself
    | inr d ↦ elim (Contains-append_cases (parts_of a) (parts_of b) l d) [ inl f ↦ inside (contained_stands a l f) | inr f ↦ outside (contained_stands b l f) ]
  ]
  contained_stands (each a) l c = elim (head_or (each a) l (parts_of a) c) [
    | inl e ↦ subst (λ y. StandsIn y (each a)) e itself
    | inr d ↦ in_each (contained_stands a l d)
  ]
  contained_stands (among ls) l c = elim (head_or (among ls) l (parts_of_all ls) c) [
    | inl e ↦ subst (λ y. StandsIn y (among ls)) e itself
    | inr d ↦ let i = contained_inside ls l d in in_among i.is i.stands
  ]
  contained_stands (items a) l c = elim (head_or (items a) l (parts_of a) c) [
    | inl e ↦ subst (λ y. StandsIn y (items a)) e itself
    | inr d ↦ in_items (contained_stands a l d)
  ]
  contained_stands (copy m n) l c = one_only (copy m n) l c
  contained_stands (merge m n) l c = one_only (merge m n) l c
  contained_stands (text x) l c = one_only (text x) l c
  contained_stands (on_concrete m a b) l c = elim (head_or (on_concrete m a b) l (parts_of a ++ parts_of b) c) [
    | inl e ↦ subst (λ y. StandsIn y (on_concrete m a b)) e itself
    | inr d ↦ elim (Contains-append_cases (parts_of a) (parts_of b) l d) [ inl f ↦ where_it_has (contained_stands a l f) | inr f ↦ where_it_lacks (contained_stands b l f) ]
  ]
  contained_stands (on_view m n a b) l c = elim (head_or (on_view m n a b) l (parts_of a ++ parts_of b) c) [
    | inl e ↦ subst (λ y. StandsIn y (on_view m n a b)) e itself
    | inr d ↦ elim (Contains-append_cases (parts_of a) (parts_of b) l d) [ inl f ↦ where_it_showed (contained_stands a l f) | inr f ↦ where_it_did_not (contained_stands b l f) ]
  ]
  contained_stands (call n) l c = one_only (call n) l c

  contained_inside : (ls : Lenses) (l : Lens) → Contains (parts_of_all ls) l → IsInside l ls
  contained_inside none l c = absurd (let lt = c.1 in omega (arith, lt))
  contained_inside (also n a ls) l c = elim (Contains-append_cases (parts_of a) (parts_of_all ls) l c) [
    | inl f ↦ record { name = n; lens = a; is = here; stands = contained_stands a l f }
    | inr f ↦ let i = contained_inside ls l f in record { name = i.name; lens = i.lens; is = further i.is; stands = i.stands }
  ]
