-- The text lenses that a program names.
use Rattle.std.specs.Prelude.{◌≡◌, List, [], ◌∷◌, ◌++◌, IsSome, None, All}
use Rattle.hm_tree.specs.Names.{Name}
use Rattle.hm_terms.specs.Lenses.{Lens, Lenses, Definitions, identity, sequence, constant, hoist, plunge, fork, each, among, items, copy, merge, on_concrete, on_view, text, call, none, also}
use Rattle.hm_terms.specs.Programs.{ProgramValue}
use Rattle.hm_types_rules.specs.Typing.{Classes}

-- by a lens, in reading order
abbrev mutual
  pub text_names : Lens → List Name
  text_names identity = []
  text_names (sequence l k) = text_names l ++ text_names k
  text_names (constant t d) = []
  text_names (hoist n) = []
  text_names (plunge n) = []
  text_names (fork P Q l k) = text_names l ++ text_names k
  text_names (each l) = text_names l
  text_names (among ls) = text_names_of ls
  text_names (items l) = text_names l
  text_names (copy m n) = []
  text_names (merge m n) = []
  text_names (on_concrete m l k) = text_names l ++ text_names k
  text_names (on_view m n l k) = text_names l ++ text_names k
  text_names (text x) = x ∷ []
  text_names (call n) = []

  pub text_names_of : Lenses → List Name
  text_names_of none = []
  text_names_of (also n l ls) = text_names l ++ text_names_of ls

-- by the bodies of definitions, in file order
abbrev pub body_text_names : Definitions → List Name
body_text_names [] = []
body_text_names (d ∷ ds) = text_names d.1.body ++ body_text_names ds

-- by a program, whose main lens is read last
abbrev pub program_text_names : ProgramValue → List Name
program_text_names p = body_text_names p.definitions ++ text_names p.main

-- there is a text lens of each name
abbrev pub AreKnown : Classes → List Name → Type 0
AreKnown texts = All (λ x. IsSome (texts x))

-- the first of some names of which there is no text lens
pub record IsFirstUnknown (texts : Classes) (names : List Name) (x : Name) : Type 0 where
  pub before : List Name
  pub after : List Name
  pub names_are : names ≡ before ++ x ∷ after
  pub known : AreKnown texts before
  pub unknown : texts x ≡ None
