-- What the lines of nodes say.
use Rattle.std.specs.Prelude.{◌≡◌, ◌≢◌, ℕ, Bool, true, false, cond, List, [], ◌∷◌, ◌++◌, codes, Option, Some, None}
use Rattle.std.specs.List.{AllZip}
use Rattle.hm_tree.specs.Names.{Name}
use Rattle.hm_tree.specs.declared.class.Class.{Class}
use Rattle.hm_tree.specs.declared.class.Class.TheVariants.{Any, Clean, Filled, Trimmed, Folded}
use Rattle.hm_schema_lines.specs.declared.token.Token.{Token}
use Rattle.hm_schema_lines.specs.declared.token.Token.TheVariants.{Word, Quoted, Question, Plus}
use Rattle.hm_schema_lines.specs.declared.count.Count.{Count}
use Rattle.hm_schema_lines.specs.declared.node_line.NodeLine.{NodeLine}
use Rattle.hm_schema_lines.specs.declared.node_line.ShapeLine.{ShapeLine}
use Rattle.hm_schema_lines.specs.declared.node_line.NodeLine.TheVariants.{Node, Edge, Other, Shape}
use Rattle.hm_schema_lines.specs.Tokens.{Spaced}
use Rattle.hm_schema_lines.specs.Counts.{IsCount}

-- ---- what a line says

pub record ShapeValue : Type 0 where
  pub required : List Name
  pub optional : List Name
  pub count : Count

pub data NodeLineValue : Type 0 where
  node : Name → NodeLineValue
  edge : Name → Name → NodeLineValue
  other : Class → Name → NodeLineValue
  shape : ShapeValue → NodeLineValue

abbrev pub shape_value : ShapeLine → ShapeValue
shape_value s = record { required = s.required.items; optional = s.optional.items; count = s.count }

abbrev pub node_line_value : NodeLine → NodeLineValue
node_line_value (Node w) = node w
node_line_value (Edge k w) = edge k w
node_line_value (Other c w) = other c w
node_line_value (Shape s) = shape (shape_value s)

-- ---- names, and the parts of a shape

-- the name of an edge is a word, or spelled between quotes
abbrev pub edge_name : Token → Option Name
edge_name (Word w) = Some w
edge_name (Quoted k) = Some k
edge_name Question = None
edge_name Plus = None

-- a name for each token
abbrev pub AreNames : List Token → List Name → Type 0
AreNames ts ks = AllZip (λ t k. edge_name t ≡ Some k) ts ks

-- names behind a question mark; without it there are none
abbrev pub AreOptional : List Token → List Name → Type 0
AreOptional [] ks = ks ≡ []
AreOptional (t ∷ ts) ks = (t ≡ Question) × AreNames ts ks

-- a count behind `+`; without it there are none
abbrev pub IsTail : List Token → Count → Type 0
IsTail [] c = (c.least ≡ 0) × (c.most ≡ Some 0)
IsTail (t ∷ ts) c = (word : Name) × (t ∷ ts ≡ Plus ∷ Word word ∷ []) × IsCount word c

-- tokens are the parts of a shape, one part behind another
pub record IsShape (ts : List Token) (s : ShapeValue) : Type 0 where
  pub front : List Token
  pub middle : List Token
  pub tail : List Token
  pub is : ts ≡ front ++ (middle ++ tail)
  pub required : AreNames front s.required
  pub optional : AreOptional middle s.optional
  pub count : IsTail tail s.count

abbrev pub class_word : Class → Name
class_word Any = codes "any"
class_word Clean = codes "clean"
class_word Filled = codes "filled"
class_word Trimmed = codes "trimmed"
class_word Folded = codes "folded"

-- ---- lines

-- tokens are those of a line, behind its spaces
abbrev pub AreItsTokens : List Token → NodeLineValue → Type 0
AreItsTokens ts (node w) = ts ≡ Word (codes "node") ∷ Word w ∷ []
AreItsTokens ts (edge k w) = (t : Token) × (edge_name t ≡ Some k) × (ts ≡ Word (codes "edge") ∷ t ∷ Word w ∷ [])
AreItsTokens ts (other c w) = ts ≡ Word (codes "other") ∷ Word (class_word c) ∷ Word w ∷ []
AreItsTokens ts (shape s) = (rest : List Token) × (ts ≡ Word (codes "shape") ∷ rest) × IsShape rest s

-- whether a line stands inside a node
abbrev pub is_inside : NodeLineValue → Bool
is_inside (edge k w) = true
is_inside (other c w) = true
is_inside (shape s) = true
is_inside (node w) = false

-- what stands in front of the tokens: two spaces inside a node
abbrev pub indent : NodeLineValue → List ℕ
indent i = cond (is_inside i) (codes "  ") []

-- some bytes are a line of a node
pub record IsNodeLine (line : List ℕ) (i : NodeLineValue) : Type 0 where
  pub tokens : List Token
  pub text : List ℕ
  pub is : line ≡ indent i ++ text
  pub spaced : Spaced tokens text
  pub says : AreItsTokens tokens i

-- ---- what is read

abbrev pub IsReadTail : List Token → Option Count → Type 0
IsReadTail ts None = (c : Count) → ¬ (IsTail ts c)
IsReadTail ts (Some c) = IsTail ts c

abbrev pub IsReadShape : List Token → Option ShapeLine → Type 0
IsReadShape ts None = (s : ShapeValue) → ¬ (IsShape ts s)
IsReadShape ts (Some s) = IsShape ts (shape_value s)

abbrev pub IsReadClass : Name → Option Class → Type 0
IsReadClass word None = (c : Class) → word ≢ class_word c
IsReadClass word (Some c) = word ≡ class_word c

-- what a reader of lines found: one of which P holds; none where P holds of none
abbrev pub IsReadLine : (NodeLineValue → Type 0) → Option NodeLine → Type 0
IsReadLine P None = (i : NodeLineValue) → ¬ (P i)
IsReadLine P (Some i) = P (node_line_value i)

-- tokens are those of a line without spaces in front, or with two of them
abbrev pub IsFlushLine : List Token → NodeLineValue → Type 0
IsFlushLine ts i = (is_inside i ≡ false) × AreItsTokens ts i

abbrev pub IsIndentedLine : List Token → NodeLineValue → Type 0
IsIndentedLine ts i = (is_inside i ≡ true) × AreItsTokens ts i
