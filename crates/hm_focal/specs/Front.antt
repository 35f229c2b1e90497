-- What stands at the front of some bytes, as far as it goes, and what follows.
use Rattle.std.specs.Prelude.{◌≡◌, ◌≢◌, ℕ, ◌≤◌, List, ◌∷◌, ◌++◌, length, drop, Option, Some, None}
use Rattle.std.specs.Borrow.{Bor}
use Rattle.hm_tree.specs.Names.{Name}
use Rattle.hm_schema_lines.specs.declared.token.Token.{Token}
use Rattle.hm_schema_lines.specs.declared.token.Token.TheVariants.{Word}
use Rattle.hm_schema_lines.specs.Tokens.{token_text, IsToken, Stops, AreSpaces}
use Rattle.hm_schema_lines.specs.NodeLines.{edge_name}

-- a token
pub record IsFront (bytes : List ℕ) (t : Token) (rest : List ℕ) : Type 0 where
  pub sound : IsToken t
  pub is : bytes ≡ token_text t ++ rest
  pub stops : Stops t rest

abbrev pub IsFrontWord : List ℕ → Name → List ℕ → Type 0
IsFrontWord bytes w rest = IsFront bytes (Word w) rest

-- the name of an edge: a word, or a name between quotes
abbrev pub IsFrontEdge : List ℕ → Name → List ℕ → Type 0
IsFrontEdge bytes k rest = (t : Token) × (edge_name t ≡ Some k) × IsFront bytes t rest

-- one or more spaces
pub record IsGap (bytes rest : List ℕ) : Type 0 where
  pub gap : List ℕ
  pub spaces : AreSpaces gap
  pub is : bytes ≡ gap ++ rest
  pub stops : (r : List ℕ) → rest ≢ 32 ∷ r

-- a word, and the spaces behind it
abbrev pub IsWordBefore : List ℕ → Name → List ℕ → Type 0
IsWordBefore bytes w rest = (behind : List ℕ) × IsFrontWord bytes w behind × IsGap behind rest

-- ---- what is read: something of whose value P holds with what follows; none where P holds of nothing

abbrev pub IsReadFront : {X Y : Type 0} → (X → Y) → (Y → List ℕ → Type 0) → Option (X × Bor (List ℕ)) → Type 0
IsReadFront value P None = (y : _) (rest : List ℕ) → ¬ (P y rest)
IsReadFront value P (Some found) = P (value found.0) found.1.now

abbrev pub IsReadName : (Name → List ℕ → Type 0) → Option (Name × Bor (List ℕ)) → Type 0
IsReadName P found = IsReadFront (λ (k : Name). k) P found

-- the token of an edge's name, and its length; none where no such token stands there
abbrev pub IsFirstEdge : List ℕ → Option (Token × ℕ) → Type 0
IsFirstEdge bytes None = (t : Token) (k : Name) (rest : List ℕ) → edge_name t ≡ Some k → ¬ (IsFront bytes t rest)
IsFirstEdge bytes (Some found) = (found.1 ≤ length bytes) × IsFront bytes found.0 (drop found.1 bytes)
