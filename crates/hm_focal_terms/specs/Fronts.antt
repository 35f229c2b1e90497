-- What stands at the front of bytes, behind any spaces, and what is left behind it.
use Rattle.std.specs.Prelude.{◌≡◌, ℕ, ◌≤◌, ◌==◌, List, [], ◌∷◌, ◌++◌, drop, Some}
use Rattle.std.specs.List.{prefix_len}
use Rattle.std.specs.FinSet.{from_list}
use Rattle.hm_tree.specs.Names.{Name}
use Rattle.hm_tree.specs.Nodes.{Tree, depth}
use Rattle.hm_schema.specs.Values.{Names}
use Rattle.hm_schema_lines.specs.declared.token.Token.{Token}
use Rattle.hm_schema_lines.specs.declared.token.Token.TheVariants.{Word}
use Rattle.hm_schema_lines.specs.Tokens.{token_text, IsToken, Stops}
use Rattle.hm_schema_lines.specs.NodeLines.{edge_name}
use Rattle.hm_tree_text.specs.Text.{whole, text}

-- what is left behind the spaces at the front
abbrev pub unspaced : List ℕ → List ℕ
unspaced bytes = drop (prefix_len (λ b. b == 32) bytes) bytes

-- a byte, as a comma or a brace
abbrev pub IsSign : ℕ → List ℕ → List ℕ → Type 0
IsSign sign bytes rest = unspaced bytes ≡ sign ∷ rest

-- a word, which goes as far as it can, or a name between quotes
pub record IsFront (bytes : List ℕ) (t : Token) (rest : List ℕ) : Type 0 where
  pub token : IsToken t
  pub is : unspaced bytes ≡ token_text t ++ rest
  pub stops : Stops t rest

abbrev pub IsWord : List ℕ → Name → List ℕ → Type 0
IsWord bytes w rest = IsFront bytes (Word w) rest

-- the name of an edge: a word, or between quotes
pub record IsEdge (bytes : List ℕ) (n : Name) (rest : List ℕ) : Type 0 where
  pub token : Token
  pub names : edge_name token ≡ Some n
  pub front : IsFront bytes token rest

-- a tree as it is spelled in tree text, so without spaces inside; at most 1,000 edges lie one below another
pub record IsTree (bytes : List ℕ) (t : Tree) (rest : List ℕ) : Type 0 where
  pub is : unspaced bytes ≡ text whole t.shape ++ rest
  pub shallow : depth t ≤ 1000

-- names up to a brace, and the brace
pub data AreNames : List ℕ → List Name → List ℕ → Type 0 where
  no_names : {bytes rest : List ℕ} → IsSign 125 bytes rest → AreNames bytes [] rest
  a_name : {bytes inner rest : List ℕ} {n : Name} {ns : List Name} → IsEdge bytes n inner → AreNames inner ns rest → AreNames bytes (n ∷ ns) rest

-- a set: names between braces
pub record IsSet (bytes : List ℕ) (P : Names) (rest : List ℕ) : Type 0 where
  pub names : List Name
  pub inner : List ℕ
  pub opens : IsSign 123 bytes inner
  pub listed : AreNames inner names rest
  pub is : P ≡ from_list names

-- something behind a sign
pub record Behind {X : Type 0} (sign : ℕ) (F : List ℕ → X → List ℕ → Type 0) (bytes : List ℕ) (x : X) (rest : List ℕ) : Type 0 where
  pub inner : List ℕ
  pub begins : IsSign sign bytes inner
  pub form : F inner x rest

-- one thing in parentheses, and two with a comma between them
pub record One {X : Type 0} (F : List ℕ → X → List ℕ → Type 0) (bytes : List ℕ) (x : X) (rest : List ℕ) : Type 0 where
  pub inner : List ℕ
  pub first : Behind 40 F bytes x inner
  pub closes : IsSign 41 inner rest

pub record Two {X Y : Type 0} (F : List ℕ → X → List ℕ → Type 0) (G : List ℕ → Y → List ℕ → Type 0) (bytes : List ℕ) (x : X) (y : Y)
    (rest : List ℕ) : Type 0 where
  pub middle : List ℕ
  pub inner : List ℕ
  pub first : Behind 40 F bytes x middle
  pub second : Behind 44 G middle y inner
  pub closes : IsSign 41 inner rest
