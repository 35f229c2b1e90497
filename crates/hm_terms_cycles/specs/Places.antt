-- The places of definitions, by name.
use Rattle.std.specs.Prelude.{◌≡◌, ℕ, suc, T, cond, List, [], ◌∷◌, map, Option, Some, None}
use Rattle.std.specs.FinMap.{find, is_sorted}
use Rattle.std.specs.Option.{option_map, option_or}
use Rattle.std.specs.Ordering.{eq_by_cmp}
use Rattle.hm_tree.specs.Names.{Name, name_cmp}
use Rattle.hm_terms.specs.declared.term.Definition.{Definition}

abbrev pub names_by : List Definition → List Name
names_by ds = map (λ (d : Definition). d.name) ds

-- the place where a name stands first among others
abbrev pub place_in : List Name → Name → Option ℕ
place_in [] n = None
place_in (k ∷ ks) n = cond (eq_by_cmp name_cmp n k) (Some 0) (option_map suc (place_in ks n))

-- names in their order, each with its first place among others
pub record ArePlaces (names : List Name) (places : List (Name × ℕ)) : Type 0 where
  pub sorted : T (is_sorted name_cmp places)
  pub all : (n : Name) → find name_cmp n places ≡ place_in names n

-- a name is put in with a value where it had none
pub record IsPutLast {V : Type 0} (name : Name) (place : V) (old new : List (Name × V)) : Type 0 where
  pub sorted : T (is_sorted name_cmp new)
  pub all : (n : Name) → find name_cmp n new ≡ option_or (find name_cmp n old) (cond (eq_by_cmp name_cmp n name) (Some place) None)
