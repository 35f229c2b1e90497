-- How the lines of nodes are written: one space between two tokens, names of edges between quotes, and a count only where
-- it isn't 0..0.
use Rattle.std.specs.Prelude.{ℕ, zero, List, [], ◌∷◌, ◌++◌, map, codes, decimal, Option, Some, None}
use Rattle.hm_tree.specs.Names.{Name}
use Rattle.hm_tree_spelling.specs.Spelling.{spelled}
use Rattle.hm_schema_lines.specs.declared.token.Token.{Token}
use Rattle.hm_schema_lines.specs.declared.token.Token.TheVariants.{Word, Quoted, Question, Plus}
use Rattle.hm_schema_lines.specs.declared.count.Count.{Count}
use Rattle.hm_schema_lines.specs.Tokens.{token_text}
use Rattle.hm_schema_lines.specs.NodeLines.{NodeLineValue, node, edge, other, shape, class_word, indent}

-- ---- tokens

abbrev pub quoted : List Name → List Token
quoted ks = map Quoted ks

-- names behind a question mark, where there are some
abbrev pub optional_tokens : List Name → List Token
optional_tokens [] = []
optional_tokens (k ∷ ks) = Question ∷ quoted (k ∷ ks)

abbrev pub most_text : Option ℕ → List ℕ
most_text None = []
most_text (Some n) = decimal n

abbrev pub count_word : Count → List ℕ
count_word c = decimal c.least ++ (codes ".." ++ most_text c.most)

abbrev pub counted : ℕ → Option ℕ → List Token → List Token
counted zero (Some zero) ts = []
counted least most ts = ts

abbrev pub count_tokens : Count → List Token
count_tokens c = counted c.least c.most (Plus ∷ Word (count_word c) ∷ [])

abbrev pub tokens_of : NodeLineValue → List Token
tokens_of (node w) = Word (codes "node") ∷ Word w ∷ []
tokens_of (edge k w) = Word (codes "edge") ∷ Quoted k ∷ Word w ∷ []
tokens_of (other c w) = Word (codes "other") ∷ Word (class_word c) ∷ Word w ∷ []
tokens_of (shape s) = Word (codes "shape") ∷ (quoted s.required ++ (optional_tokens s.optional ++ count_tokens s.count))

-- ---- lines

-- a space in front of each token
abbrev pub behind_spaces : List Token → List ℕ
behind_spaces [] = []
behind_spaces (t ∷ ts) = 32 ∷ (token_text t ++ behind_spaces ts)

abbrev pub spaced_text : List Token → List ℕ
spaced_text [] = []
spaced_text (t ∷ ts) = token_text t ++ behind_spaces ts

abbrev pub line_text : NodeLineValue → List ℕ
line_text i = indent i ++ spaced_text (tokens_of i)

-- a line and its end
abbrev pub ended : List ℕ → List ℕ
ended line = line ++ codes "\n"

-- a name between quotes behind a space
abbrev pub spaced_name : Name → List ℕ
spaced_name k = 32 ∷ spelled k

-- a word at the end of a line behind a space
abbrev pub ending : Name → List ℕ
ending w = codes " " ++ (w ++ codes "\n")
