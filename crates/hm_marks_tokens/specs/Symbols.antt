-- What tokens mean in a bookmark file: the symbols of its grammar, and which of them are skipped.
use Rattle.std.specs.Prelude.{◌≡◌, ℕ, Bool, true, false, not, cond, ◌&&◌, List, [], ◌∷◌, take, drop, codes}
use Rattle.std.specs.List.{position_or_len}
use Rattle.std.specs.Char.{is_ascii_whitespace}
use Rattle.std.specs.Str.{str_eq_ignore_ascii_case}
use Rattle.hm_marks_tokens.specs.Bytes.{is_white}
use Rattle.hm_marks_tokens.specs.Tokens.{Token, tag, text, IsNext}

-- what a token means; of a tag that may have attributes the bytes between its name and its `>`
pub data Symbol : Type 0 where
  list : Symbol  -- <DL>
  list_end : Symbol  -- </DL>
  entry : Symbol  -- <DT>
  link : List ℕ → Symbol  -- <A attributes>
  link_end : Symbol  -- </A>
  heading : List ℕ → Symbol  -- <H3 attributes>
  heading_end : Symbol  -- </H3>
  note : Symbol  -- <DD>
  rule : List ℕ → Symbol  -- <HR attributes>
  paragraph : Symbol  -- <p>
  words : List ℕ → Symbol  -- a text
  stray : Symbol  -- another tag

-- how long the name of a tag is, which goes to the first white space
abbrev pub name_len : List ℕ → ℕ
name_len inside = position_or_len is_ascii_whitespace inside

-- a tag that has nothing but its name
abbrev pub bare_symbol : List ℕ → Symbol
bare_symbol name =
    cond (str_eq_ignore_ascii_case name (codes "dt")) entry
    (cond (str_eq_ignore_ascii_case name (codes "/a")) link_end
    (cond (str_eq_ignore_ascii_case name (codes "dd")) note
    (cond (str_eq_ignore_ascii_case name (codes "dl")) list
    (cond (str_eq_ignore_ascii_case name (codes "/dl")) list_end
    (cond (str_eq_ignore_ascii_case name (codes "/h3")) heading_end
    (cond (str_eq_ignore_ascii_case name (codes "p")) paragraph stray))))))

-- a tag by its name, and the bytes behind the name
abbrev pub symbol_named : List ℕ → List ℕ → Symbol
symbol_named name rest =
    cond (str_eq_ignore_ascii_case name (codes "a")) (link rest)
    (cond (str_eq_ignore_ascii_case name (codes "h3")) (heading rest)
    (cond (str_eq_ignore_ascii_case name (codes "hr")) (rule rest)
    (cond (is_white rest) (bare_symbol name) stray)))

-- what a token means
abbrev pub symbol_of : Token → Symbol
symbol_of (tag inside) = symbol_named (take (name_len inside) inside) (drop (name_len inside) inside)
symbol_of (text bytes) = words bytes

-- a text, where it isn't empty
abbrev pub words_of : List ℕ → List Symbol
words_of [] = []
words_of (b ∷ bytes) = words (b ∷ bytes) ∷ []

-- white space and `<p>`
abbrev pub is_skipped : Symbol → Bool
is_skipped paragraph = true
is_skipped (words bytes) = is_white bytes
is_skipped list = false
is_skipped list_end = false
is_skipped entry = false
is_skipped (link rest) = false
is_skipped link_end = false
is_skipped (heading rest) = false
is_skipped heading_end = false
is_skipped note = false
is_skipped (rule rest) = false
is_skipped stray = false

-- what stands behind a symbol is within an A or H3, where the symbol itself is or isn't
abbrev pub is_titled_behind : Bool → Symbol → Bool
is_titled_behind titled (link rest) = true
is_titled_behind titled (heading rest) = true
is_titled_behind titled (words bytes) = titled
is_titled_behind titled list = false
is_titled_behind titled list_end = false
is_titled_behind titled entry = false
is_titled_behind titled link_end = false
is_titled_behind titled heading_end = false
is_titled_behind titled note = false
is_titled_behind titled (rule rest) = false
is_titled_behind titled paragraph = false
is_titled_behind titled stray = false

-- the first symbol of bytes that isn't skipped, and what stands behind it
pub data IsNextSymbol (titled : Bool) : List ℕ → Symbol → List ℕ → Type 0 where
  here : {bytes : List ℕ} {m : Symbol} {rest : List ℕ} {p : Token} → IsNext bytes p rest → symbol_of p ≡ m → (not titled && is_skipped m) ≡ false
      → IsNextSymbol titled bytes m rest
  behind : {bytes : List ℕ} {m : Symbol} {rest more : List ℕ} {p : Token} → IsNext bytes p more → (not titled && is_skipped (symbol_of p)) ≡ true
      → IsNextSymbol titled more m rest → IsNextSymbol titled bytes m rest

-- all symbols of bytes are skipped
abbrev pub HasNoSymbol : Bool → List ℕ → Type 0
HasNoSymbol titled bytes = (m : Symbol) (rest : List ℕ) → IsNextSymbol titled bytes m rest → ⊥

-- bytes begin with these symbols and what is skipped before each, and this rest stands behind the last; bytes stand within an A
-- or H3, or don't
abbrev pub HasSymbols : Bool → List ℕ → List Symbol → List ℕ → Type 0
HasSymbols titled bytes [] rest = bytes ≡ rest
HasSymbols titled bytes (m ∷ ms) rest = (more : List ℕ) × (IsNextSymbol titled bytes m more × HasSymbols (is_titled_behind titled m) more ms rest)
