-- What the readers of a part of a term say.
use Rattle.std.specs.Prelude.{◌≡◌, ◌≢◌, ℕ, ◌≤◌, List, ◌++◌, length, take, drop, Option, Some, None}
use Rattle.std.specs.Borrow.{Bor}
use Rattle.hm_tree.specs.Names.{Name}
use Rattle.hm_schema_lines.specs.declared.token.Token.{Token}
use Rattle.hm_schema_lines.specs.Tokens.{token_text, IsToken, Stops}
use Rattle.hm_schema_lines.specs.NodeLines.{edge_name}
use Rattle.hm_terms.specs.Lenses.{Lens}
use Rattle.hm_terms.specs.declared.term.Term.{Term}
use Rattle.hm_terms.specs.Programs.{lens_of}

-- the token of an edge's name at the front of bytes, and its length; none where no such token stands there
abbrev pub IsFirstEdge : List ℕ → Option (Token × ℕ) → Type 0
IsFirstEdge bytes None = (t : Token) (n : Name) (rest : List ℕ) → edge_name t ≡ Some n → IsToken t → bytes ≢ token_text t ++ rest
IsFirstEdge bytes (Some found) = IsToken found.0 × (found.1 ≤ length bytes) × (take found.1 bytes ≡ token_text found.0)
    × Stops found.0 (drop found.1 bytes)

-- what was found of a form at the front of bytes, and what is left behind it; none where nothing of this form stands there
abbrev pub IsFound : {X : Type 0} → (List ℕ → X → List ℕ → Type 0) → List ℕ → Option (X × Bor (List ℕ)) → Type 0
IsFound {X} F bytes None = (x : X) (rest : List ℕ) → ¬ (F bytes x rest)
IsFound F bytes (Some found) = F bytes found.0 found.1.now

-- the same of a form with two values
abbrev pub IsFoundTwo : {X Y : Type 0} → (List ℕ → X → Y → List ℕ → Type 0) → List ℕ → Option (X × Y × Bor (List ℕ)) → Type 0
IsFoundTwo {X} {Y} F bytes None = (x : X) (y : Y) (rest : List ℕ) → ¬ (F bytes x y rest)
IsFoundTwo F bytes (Some found) = F bytes found.0 found.1 found.2.now

-- the same of a form of lenses, which terms stand for
abbrev pub IsTermFound : (List ℕ → Lens → List ℕ → Type 0) → List ℕ → Option (Term × Bor (List ℕ)) → Type 0
IsTermFound F bytes None = (l : Lens) (rest : List ℕ) → ¬ (F bytes l rest)
IsTermFound F bytes (Some found) = F bytes (lens_of found.0) found.1.now

abbrev pub AreTermsFound : (List ℕ → Lens → Lens → List ℕ → Type 0) → List ℕ → Option (Term × Term × Bor (List ℕ)) → Type 0
AreTermsFound F bytes None = (l k : Lens) (rest : List ℕ) → ¬ (F bytes l k rest)
AreTermsFound F bytes (Some found) = F bytes (lens_of found.0) (lens_of found.1) found.2.now
