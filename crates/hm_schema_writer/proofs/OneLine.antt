-- What stands on one line: it has no control character, so no end of a line.
use Rattle.std.proofs.Common.{◌≡◌, ℕ, ◌/◌, ◌%◌, ◌≤◌, true, List, [], ◌∷◌, ◌++◌, inl, inr, sym, subst, arith}
use Rattle.std.specs.Prelude.{◌||◌, ◌==◌}
use Rattle.std.specs.Bool.{nat_lt}
use Rattle.std.specs.Char.{digit_char}
use Rattle.std.proofs.lemmas.Bool.{or_cases, or_parts, and_parts, not-true, eqb-true, ltb-false}
use Rattle.std.proofs.lemmas.Bool.Decides.{nat_tests}
use Rattle.hm_tree.specs.Names.{Name}
use Rattle.hm_tree_spelling.specs.Spelling.{is_quote_or_backslash, is_control, is_plain, spelled_byte, escaped, spelled}
use Rattle.hm_tree_spelling.specs.SpellingLaws.{Kind, plain, backslashed, control, kind}
use Rattle.hm_schema_lines.specs.declared.token.Token.{Token}
use Rattle.hm_schema_lines.specs.declared.token.Token.TheVariants.{Word, Quoted, Question, Plus}
use Rattle.hm_schema_lines.specs.Tokens.{is_word_byte, is_word, token_text, IsToken, AreSpaces, one, more, Spaced, alone, before}
use Rattle.hm_schema_lines.specs.NodeLines.{NodeLineValue, node, edge, other, shape, indent, IsNodeLine}
use Rattle.hm_facts.proofs.Booleans.{is_true}

abbrev pub IsOneLine : List ℕ → Type 0
IsOneLine [] = Unit {0}
IsOneLine (b ∷ bytes) = (32 ≤ b) × IsOneLine bytes

pub line_both : (xs ys : List ℕ) → IsOneLine xs → IsOneLine ys → IsOneLine (xs ++ ys)
line_both [] ys h k = k
line_both (x ∷ xs) ys h k = (h.0, line_both xs ys h.1 k)

-- ---- names

word_byte : (b : ℕ) → is_word_byte b ≡ true → 32 ≤ b
word_byte b h = grind (arith, nat_tests)

word_all : (w : List ℕ) → is_word w ≡ true → IsOneLine w
word_all [] h = tt
word_all (b ∷ w) h = let p = and_parts (is_word_byte b) (is_word w) h in (word_byte b p.0, word_all w p.1)

quote_byte : (b : ℕ) → is_quote_or_backslash b ≡ true → 32 ≤ b
quote_byte b h = elim (or_cases (b == 34) (b == 92) h)
    [ inl e ↦ (let f = eqb-true b 34 e in omega arith) | inr e ↦ (let f = eqb-true b 92 e in omega arith) ]

plain_byte : (b : ℕ) → is_plain b ≡ true → 32 ≤ b
plain_byte b h =
    let apart = or_parts (is_quote_or_backslash b) (is_control b) (not-true (is_quote_or_backslash b || is_control b) h) in
    let control = or_parts (nat_lt b 32) (b == 127) apart.1 in
    ltb-false b 32 control.0

digit_byte : (n : ℕ) → 32 ≤ digit_char n
digit_byte n = grind (arith, nat_tests)

spelled_byte_line : (b : ℕ) → IsOneLine (spelled_byte b)
spelled_byte_line b = go (kind b)
  where
    go : Kind b → IsOneLine (spelled_byte b)
    go (plain h e) = subst IsOneLine (sym e) (plain_byte b h, tt)
    go (backslashed h e) = subst IsOneLine (sym e) (omega arith, (quote_byte b h, tt))
    go (control h e) = subst IsOneLine (sym e) (omega arith, (omega arith, (digit_byte (b / 16), (digit_byte (b % 16), tt))))

escaped_line : (n : List ℕ) → IsOneLine (escaped n)
escaped_line [] = tt
escaped_line (b ∷ n) = line_both (spelled_byte b) (escaped n) (spelled_byte_line b) (escaped_line n)

pub spelled_line : (n : Name) → IsOneLine (spelled n)
unfolding spelled
spelled_line n = (omega arith, line_both (escaped n) (34 ∷ []) (escaped_line n) (omega arith, tt))

-- ---- tokens, and lines of nodes

pub token_line : (t : Token) → IsToken t → IsOneLine (token_text t)
token_line (Word w) h = word_all w (is_true (is_word w) h.1)
token_line (Quoted n) h = spelled_line n
token_line Question h = (omega arith, tt)
token_line Plus h = (omega arith, tt)

pub spaces_line : (gap : List ℕ) → AreSpaces gap → IsOneLine gap
spaces_line _ one = (omega arith, tt)
spaces_line _ (more {gap} s) = (omega arith, spaces_line gap s)

pub spaced_line : (ts : List Token) (line : List ℕ) → Spaced ts line → IsOneLine line
spaced_line _ _ (alone {t} h) = token_line t h
spaced_line _ _ (before {t} {ts} {gap} {rest} h g s) =
    line_both (token_text t) (gap ++ rest) (token_line t h) (line_both gap rest (spaces_line gap g) (spaced_line ts rest s))

pub node_line_line : (line : List ℕ) (x : NodeLineValue) → IsNodeLine line x → IsOneLine line
node_line_line line x h = subst IsOneLine (sym h.is) (indented x (spaced_line h.tokens h.text h.spaced))
  where
    indented : (x : NodeLineValue) → IsOneLine h.text → IsOneLine (indent x ++ h.text)
    indented (node w) k = k
    indented (edge n w) k = (omega arith, (omega arith, k))
    indented (other c w) k = (omega arith, (omega arith, k))
    indented (shape s) k = (omega arith, (omega arith, k))
