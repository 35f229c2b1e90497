-- The numbers of the lenses in a lens: a lens comes before those inside it, and these come from left to right.
use Rattle.std.specs.Prelude.{◌≡◌, ℕ, suc, List, [], ◌∷◌, ◌++◌, length}
use Rattle.hm_terms.specs.Lenses.{Lens, Lenses, none, also, identity, sequence, constant, hoist, plunge, fork, each, among, items, copy, merge, on_concrete, on_view, text, call}

-- a lens and all lenses in it, in their order
abbrev mutual
  pub parts_of : Lens → List Lens
  parts_of identity = identity ∷ []
  parts_of (sequence l k) = sequence l k ∷ (parts_of l ++ parts_of k)
  parts_of (constant t d) = constant t d ∷ []
  parts_of (hoist n) = hoist n ∷ []
  parts_of (plunge n) = plunge n ∷ []
  parts_of (fork P Q l k) = fork P Q l k ∷ (parts_of l ++ parts_of k)
  parts_of (each l) = each l ∷ parts_of l
  parts_of (among ls) = among ls ∷ parts_of_all ls
  parts_of (items l) = items l ∷ parts_of l
  parts_of (copy m n) = copy m n ∷ []
  parts_of (merge m n) = merge m n ∷ []
  parts_of (text x) = text x ∷ []
  parts_of (on_concrete m l k) = on_concrete m l k ∷ (parts_of l ++ parts_of k)
  parts_of (on_view m n l k) = on_view m n l k ∷ (parts_of l ++ parts_of k)
  parts_of (call n) = call n ∷ []

  pub parts_of_all : Lenses → List Lens
  parts_of_all none = []
  parts_of_all (also n l ls) = parts_of l ++ parts_of_all ls

-- lenses stand among others, the first of them with a number
pub record StandFrom (all : List Lens) (n : ℕ) (xs : List Lens) : Type 0 where
  pub before : List Lens
  pub after : List Lens
  pub is : all ≡ before ++ (xs ++ after)
  pub number : n ≡ suc (length before)
