-- When a program is well formed.
use Rattle.std.specs.Prelude.{◌≡◌, ◌≢◌, ℕ, ◌<◌, All, List, [], ◌∷◌, length, map, slice_get, Some}
use Rattle.std.specs.List.{Contains}
use Rattle.hm_tree.specs.Names.{Name}
use Rattle.hm_schema.specs.Values.{Names}
use Rattle.hm_schema.specs.WellFormed.{IsWellFormedNode}
use Rattle.hm_terms.specs.Lenses.{Lens, Lenses, none, also, sequence, fork, each, among, items, on_concrete, on_view, call, DefinitionValue}
use Rattle.hm_terms.specs.Programs.{ProgramValue}

-- ---- what stands anywhere in a lens

-- a name stands with its lens among others
pub data IsAmong : Name → Lens → Lenses → Type 0 where
  here : {n : Name} {l : Lens} {ls : Lenses} → IsAmong n l (also n l ls)
  further : {n m : Name} {l k : Lens} {ls : Lenses} → IsAmong n l ls → IsAmong n l (also m k ls)

-- a lens stands in another one, or is that one
pub data StandsIn : Lens → Lens → Type 0 where
  itself : {l : Lens} → StandsIn l l
  in_first : {x l k : Lens} → StandsIn x l → StandsIn x (sequence l k)
  in_second : {x l k : Lens} → StandsIn x k → StandsIn x (sequence l k)
  inside : {x l k : Lens} {P Q : Names} → StandsIn x l → StandsIn x (fork P Q l k)
  outside : {x l k : Lens} {P Q : Names} → StandsIn x k → StandsIn x (fork P Q l k)
  in_each : {x l : Lens} → StandsIn x l → StandsIn x (each l)
  in_among : {x l : Lens} {n : Name} {ls : Lenses} → IsAmong n l ls → StandsIn x l → StandsIn x (among ls)
  in_items : {x l : Lens} → StandsIn x l → StandsIn x (items l)
  where_it_has : {x l k : Lens} {m : Name} → StandsIn x l → StandsIn x (on_concrete m l k)
  where_it_lacks : {x l k : Lens} {m : Name} → StandsIn x k → StandsIn x (on_concrete m l k)
  where_it_showed : {x l k : Lens} {m o : Name} → StandsIn x l → StandsIn x (on_view m o l k)
  where_it_did_not : {x l k : Lens} {m o : Name} → StandsIn x k → StandsIn x (on_view m o l k)

-- a lens calls a definition, anywhere
abbrev pub HasCall : Lens → Name → Type 0
HasCall l n = StandsIn (call n) l

-- no name stands in a list twice
abbrev pub HasOnce : List Name → Type 0
HasOnce ks = (i j : ℕ) (k : Name) → slice_get ks i ≡ Some k → slice_get ks j ≡ Some k → i ≡ j

-- the names of some lenses
abbrev pub row_names : Lenses → List Name
row_names none = []
row_names (also n l ls) = n ∷ row_names ls

-- at least one name, and none twice
pub record IsSoundRow (ls : Lenses) : Type 0 where
  pub some : ls ≢ none
  pub once : HasOnce (row_names ls)

-- ---- programs

-- a lens is the body of a definition of a program, or its main lens
pub data IsLensOf (p : ProgramValue) : Lens → Type 0 where
  a_body : (i : ℕ) {n : Name} {d : DefinitionValue} → slice_get p.definitions i ≡ Some (n, d) → IsLensOf p d.body
  the_main : IsLensOf p p.main

pub record IsWellFormed (p : ProgramValue) : Type 0 where
  -- each type has a name of its own, and is well formed and without twins
  pub named : length p.options.type_names ≡ length p.options.types
  pub type_names : HasOnce p.options.type_names
  pub types : All (λ n. IsWellFormedNode (length p.options.types) n × (n.twins ≡ [])) p.options.types
  -- each definition has a name of its own, and goes between two of the types
  pub definition_names : HasOnce (map (λ d. d.0) p.definitions)
  pub in_range : All (λ d. (d.1.source.place < length p.options.types) × (d.1.view.place < length p.options.types)) p.definitions
  -- each call is of a definition, and each row of named lenses has names, each once
  pub calls : (l : Lens) (n : Name) → IsLensOf p l → HasCall l n → Contains (map (λ d. d.0) p.definitions) n
  pub rows : (l : Lens) (ls : Lenses) → IsLensOf p l → StandsIn (among ls) l → IsSoundRow ls
