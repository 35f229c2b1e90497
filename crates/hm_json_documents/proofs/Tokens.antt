-- The strings and keys among the tokens of a text are UTF-8.
use Rattle.std.proofs.Common.{◌≡◌, ℕ, Bool, true, false, cond, ◌==◌, List, [], ◌∷◌, ◌++◌, Option, Some, None, ◌<◌, refl, sym, subst, arith}
use Rattle.std.specs.Prelude.{IfSome, ⊤}
use Rattle.std.specs.Str.{IsUtf8}
use Rattle.std.proofs.lemmas.Bool.{eqb-true}
use Rattle.std.proofs.lemmas.List.{append_assoc}
use Rattle.json.specs.Token.{Token}
use Rattle.json.specs.Text.{content, plain}
use Rattle.json.specs.Word.{is_operator, is_space, head, ends_word, after_number, number_before, word}
use Rattle.json.specs.Lex.{Lexeme, token, comma, colon, Class, quote, backslash, operator, space, other, class, operator_lexeme, string_token, Mode, between, in_word, in_string, in_escape, lex_byte, lex}
use Rattle.json.specs.Lex.{Place, fresh, after_value, after_comma, after_key, begins_colon, may_begin, may_close, if_allowed, place_token, punctuate, tokens}
use Rattle.hm_json_documents.proofs.Strings.{behind_ascii, content_utf8}

-- what a token holds of a string or a key is UTF-8
abbrev pub TokenIsText : Token → Type 0
TokenIsText Token.begin_object = ⊤
TokenIsText Token.end_object = ⊤
TokenIsText Token.begin_array = ⊤
TokenIsText Token.end_array = ⊤
TokenIsText (Token.key s) = IsUtf8 s
TokenIsText (Token.string s) = IsUtf8 s
TokenIsText (Token.number s) = ⊤
TokenIsText (Token.boolean b) = ⊤
TokenIsText Token.null = ⊤
TokenIsText Token.bad = ⊤

abbrev pub TokensAreTexts : List Token → Type 0
TokensAreTexts [] = ⊤
TokensAreTexts (t ∷ ts) = TokenIsText t × TokensAreTexts ts

abbrev LexemeIsText : Lexeme → Type 0
LexemeIsText (token t) = TokenIsText t
LexemeIsText comma = ⊤
LexemeIsText colon = ⊤

abbrev LexemesAreTexts : List Lexeme → Type 0
LexemesAreTexts [] = ⊤
LexemesAreTexts (l ∷ ls) = LexemeIsText l × LexemesAreTexts ls

-- ---- lexemes

either : (b : Bool) (t u : Token) → TokenIsText t → TokenIsText u → TokenIsText (cond b t u)
either true t u p q = p
either false t u p q = q

either_lexeme : (b : Bool) (l m : Lexeme) → LexemeIsText l → LexemeIsText m → LexemeIsText (cond b l m)
either_lexeme true l m p q = p
either_lexeme false l m p q = q

operator_text : (x : ℕ) → LexemeIsText (operator_lexeme x)
operator_text x =
    either_lexeme (x == 123) (token Token.begin_object) _ tt (either_lexeme (x == 125) (token Token.end_object) _ tt
    (either_lexeme (x == 91) (token Token.begin_array) _ tt (either_lexeme (x == 93) (token Token.end_array) _ tt (either_lexeme (x == 44) comma colon tt tt))))

string_text : (o : Option (List ℕ)) → IfSome o IsUtf8 → TokenIsText (string_token o)
string_text None utf8 = tt
string_text (Some s) utf8 = utf8

number_text : (t : List ℕ) (o : Option (List ℕ)) → TokenIsText (number_before t o)
number_text t None = tt
number_text t (Some rest) = either (ends_word rest) _ Token.bad tt tt

word_text : (t : List ℕ) → TokenIsText (word t)
unfolding word
word_text t =
    either (head t == 116) _ _ (either _ (Token.boolean true) Token.bad tt tt) (either (head t == 102) _ _ (either _ (Token.boolean false) Token.bad tt tt)
    (either (head t == 110) _ _ (either _ Token.null Token.bad tt tt) (number_text t (after_number t))))

byte_texts : (m : Mode) (c : Class) (x : ℕ) (xs : List ℕ) (k : Mode → List Lexeme) → (c ≡ quote → IfSome (content plain xs) IsUtf8)
    → ((next : Mode) → LexemesAreTexts (k next)) → LexemesAreTexts (lex_byte m c x xs k)
byte_texts between quote x xs k text more = (string_text (content plain xs) (text refl), more in_string)
byte_texts between backslash x xs k text more = (tt, more in_word)
byte_texts between operator x xs k text more = (operator_text x, more between)
byte_texts between space x xs k text more = more between
byte_texts between other x xs k text more = (word_text (x ∷ xs), more in_word)
byte_texts in_word quote x xs k text more = more in_word
byte_texts in_word backslash x xs k text more = more in_word
byte_texts in_word operator x xs k text more = (operator_text x, more between)
byte_texts in_word space x xs k text more = more between
byte_texts in_word other x xs k text more = more in_word
byte_texts in_string quote x xs k text more = more between
byte_texts in_string backslash x xs k text more = more in_escape
byte_texts in_string operator x xs k text more = more in_string
byte_texts in_string space x xs k text more = more in_string
byte_texts in_string other x xs k text more = more in_string
byte_texts in_escape c x xs k text more = more in_string

quoted : (b s o w : Bool) → cond b quote (cond s backslash (cond o operator (cond w space other))) ≡ quote → b ≡ true
quoted true s o w is = refl
quoted false true o w is = let bad : ⊥ = cc in absurd bad
quoted false false true w is = let bad : ⊥ = cc in absurd bad
quoted false false false true is = let bad : ⊥ = cc in absurd bad
quoted false false false false is = let bad : ⊥ = cc in absurd bad

quote_low : (x : ℕ) → class x ≡ quote → x < 128
quote_low x is = subst (λ b. b < 128) (sym (eqb-true x 34 (quoted (x == 34) (x == 92) (is_operator x) (is_space x) is))) (omega arith)

lex_texts : (m : Mode) (xs front : List ℕ) → IsUtf8 (front ++ xs) → LexemesAreTexts (lex m xs)
unfolding lex
lex_texts m [] front utf8 = tt
lex_texts m (x ∷ xs) front utf8 =
    byte_texts m (class x) x xs (λ next. lex next xs) (λ is. content_utf8 xs (behind_ascii front x xs (quote_low x is) utf8))
    (λ next. lex_texts next xs (front ++ x ∷ []) (subst IsUtf8 (sym (append_assoc front (x ∷ []) xs)) utf8))

-- ---- commas and colons

allowed : (b : Bool) (t : Token) (k : Place → List Token) (next : Place) → TokenIsText t → TokensAreTexts (k next) → TokensAreTexts (if_allowed b t k next)
allowed true t k next text more = (text, more)
allowed false t k next text more = (tt, tt)

place_texts : (p : Place) (t : Token) (b : Bool) (k : Place → List Token) → TokenIsText t → ((next : Place) → TokensAreTexts (k next)) → TokensAreTexts (place_token p t b k)
place_texts p Token.begin_object b k text more = allowed (may_begin p) Token.begin_object k fresh tt (more fresh)
place_texts p Token.end_object b k text more = allowed (may_close p) Token.end_object k after_value tt (more after_value)
place_texts p Token.begin_array b k text more = allowed (may_begin p) Token.begin_array k fresh tt (more fresh)
place_texts p Token.end_array b k text more = allowed (may_close p) Token.end_array k after_value tt (more after_value)
place_texts p (Token.key s) b k text more = (tt, tt)
place_texts p (Token.string s) true k text more = allowed (may_begin p) (Token.key s) k after_key text (more after_key)
place_texts p (Token.string s) false k text more = allowed (may_begin p) (Token.string s) k after_value text (more after_value)
place_texts p (Token.number s) b k text more = allowed (may_begin p) (Token.number s) k after_value tt (more after_value)
place_texts p (Token.boolean v) b k text more = allowed (may_begin p) (Token.boolean v) k after_value tt (more after_value)
place_texts p Token.null b k text more = allowed (may_begin p) Token.null k after_value tt (more after_value)
place_texts p Token.bad b k text more = (tt, tt)

punctuate_texts : (p : Place) (ls : List Lexeme) → LexemesAreTexts ls → TokensAreTexts (punctuate p ls)
unfolding punctuate
punctuate_texts fresh [] texts = tt
punctuate_texts after_value [] texts = tt
punctuate_texts after_comma [] texts = (tt, tt)
punctuate_texts after_key [] texts = (tt, tt)
punctuate_texts p (token t ∷ ls) texts =
    place_texts p t (begins_colon ls) (λ next. punctuate next ls) texts.0 (λ next. punctuate_texts next ls texts.1)
punctuate_texts fresh (comma ∷ ls) texts = (tt, tt)
punctuate_texts after_value (comma ∷ ls) texts = punctuate_texts after_comma ls texts.1
punctuate_texts after_comma (comma ∷ ls) texts = (tt, tt)
punctuate_texts after_key (comma ∷ ls) texts = (tt, tt)
punctuate_texts fresh (colon ∷ ls) texts = (tt, tt)
punctuate_texts after_value (colon ∷ ls) texts = (tt, tt)
punctuate_texts after_comma (colon ∷ ls) texts = (tt, tt)
punctuate_texts after_key (colon ∷ ls) texts = punctuate_texts fresh ls texts.1

pub tokens_texts : (bytes : List ℕ) → IsUtf8 bytes → TokensAreTexts (tokens bytes)
tokens_texts bytes utf8 = punctuate_texts fresh (lex between bytes) (lex_texts between bytes [] utf8)
