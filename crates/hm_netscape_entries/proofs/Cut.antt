-- Bytes of UTF-8 that are cut where a byte of ASCII stands are UTF-8: so are the symbols of a file, and the addresses of links.
use Rattle.std.proofs.Common.{◌≡◌, ℕ, suc, ◌+◌, ◌<◌, Bool, true, false, not, cond, List, [], ◌∷◌, ◌++◌, codes, length, take, drop, refl, sym, subst, arith}
use Rattle.std.specs.Char.{is_ascii_whitespace}
use Rattle.std.specs.Str.{IsUtf8, str_eq_ignore_ascii_case}
use Rattle.std.proofs.Math.Seq.{get_or-append_seam}
use Rattle.std.proofs.lemmas.Bool.{cond_both}
use Rattle.std.proofs.lemmas.Bool.Decides.{nat_tests}
use Rattle.std.proofs.lemmas.List.{append-nil, append_assoc, length-append, take_at, drop_at, take-append-drop}
use Rattle.std.proofs.lemmas.Str.{IsUtf8-nil, IsUtf8-take, IsUtf8-drop, IsCharBoundary-before_ascii, IsCharBoundary-after_ascii}
use Rattle.hm_marks_tokens.specs.Bytes.{less, greater, is_white, begins_white}
use Rattle.hm_marks_tokens.specs.Tokens.{Token, tag, text, begins_tag, IsNext}
use Rattle.hm_marks_tokens.specs.Symbols as symbols
use Rattle.hm_marks_tokens.specs.Symbols.{Symbol, name_len, bare_symbol, symbol_named, symbol_of, IsNextSymbol, here, behind}

-- bytes end, or begin with one of ASCII
unfoldable pub IsSeam : List ℕ → Type 0
IsSeam [] = Unit {0}
IsSeam (b ∷ rest) = b < 128

-- bytes that are UTF-8, in two parts
abbrev pub AreUtf8 : List ℕ → List ℕ → Type 0
AreUtf8 xs ys = IsUtf8 xs × IsUtf8 ys

pub parts : (xs ys : List ℕ) → IsSeam ys → IsUtf8 (xs ++ ys) → AreUtf8 xs ys
unfolding IsSeam
parts xs [] seam utf8 = (subst IsUtf8 (append-nil xs) utf8, IsUtf8-nil)
parts xs (b ∷ ys) seam utf8 =
    let all = xs ++ b ∷ ys in
    let len = length-append xs (b ∷ ys) in
    let at = IsCharBoundary-before_ascii all (length xs) (omega (arith, len)) (subst (λ n. n < 128) (sym (get_or-append_seam xs b ys 0)) seam) in (
      subst IsUtf8 (take_at xs (b ∷ ys) (length xs) refl) (IsUtf8-take all (length xs) utf8 at),
      subst IsUtf8 (drop_at xs (b ∷ ys) (length xs) refl) (IsUtf8-drop all (length xs) utf8 at),
    )

pub behind_ascii : (b : ℕ) (rest : List ℕ) → b < 128 → IsUtf8 (b ∷ rest) → IsUtf8 rest
behind_ascii b rest low utf8 = IsUtf8-drop (b ∷ rest) 1 utf8 (IsCharBoundary-after_ascii (b ∷ rest) 0 utf8 (omega arith) low)

-- bytes before a byte of ASCII and behind it
pub around : (xs : List ℕ) (b : ℕ) (ys : List ℕ) → b < 128 → IsUtf8 (xs ++ b ∷ ys) → AreUtf8 xs ys
unfolding IsSeam
around xs b ys low utf8 = let two = parts xs (b ∷ ys) low utf8 in (two.0, behind_ascii b ys low two.1)

white_low : (b : ℕ) → is_ascii_whitespace b ≡ true → b < 128
white_low b e = grind (arith, nat_tests)

pub white_seam : (bytes : List ℕ) → begins_white bytes ≡ true → IsSeam bytes
unfolding IsSeam
white_seam [] e = tt
white_seam (b ∷ rest) e = white_low b e

tag_seam : (bytes : List ℕ) → begins_tag bytes ≡ true → IsSeam bytes
unfolding IsSeam
tag_seam [] e = tt
tag_seam (b ∷ rest) e = grind (arith, nat_tests)

-- ---- symbols

-- the bytes of a token
token_bytes : Token → List ℕ
token_bytes (tag inside) = inside
token_bytes (text bytes) = bytes

token_utf8 : (bytes rest : List ℕ) (t : Token) → IsNext bytes t rest → IsUtf8 bytes → AreUtf8 (token_bytes t) rest
unfolding token_bytes
token_utf8 bytes rest (tag inside) next utf8 =
    around inside greater rest (omega arith)
    (subst IsUtf8 (append_assoc inside (greater ∷ []) rest)
    (behind_ascii less ((inside ++ greater ∷ []) ++ rest) (omega arith) (subst IsUtf8 next.are utf8)))
token_utf8 bytes rest (text w) next utf8 = parts w rest (tag_seam rest next.may.2) (subst IsUtf8 next.are utf8)

-- behind the name of a tag
name_seam : (bytes : List ℕ) → begins_white (drop (name_len bytes) bytes) ≡ true
name_seam [] = refl
name_seam (b ∷ bytes) = go (is_ascii_whitespace b) refl (name_seam bytes)
  where
    go : (t : Bool) → is_ascii_whitespace b ≡ t → begins_white (drop (name_len bytes) bytes) ≡ true
        → begins_white (drop (cond (not t) (1 + name_len bytes) 0) (b ∷ bytes)) ≡ true
    go true e more = e
    go false e more = let one : 1 + name_len bytes ≡ suc (name_len bytes) = omega arith in rw one more

named_utf8 : (inside : List ℕ) → IsUtf8 inside → IsUtf8 (drop (name_len inside) inside)
named_utf8 inside utf8 =
    let n = name_len inside in
    (parts (take n inside) (drop n inside) (white_seam (drop n inside) (name_seam inside)) (subst IsUtf8 (sym (take-append-drop n inside)) utf8)).1

-- the bytes of a symbol
abbrev pub IsUtf8Symbol : Symbol → Type 0
IsUtf8Symbol symbols.list = Unit {0}
IsUtf8Symbol symbols.list_end = Unit {0}
IsUtf8Symbol symbols.entry = Unit {0}
IsUtf8Symbol (symbols.link a) = IsUtf8 a
IsUtf8Symbol symbols.link_end = Unit {0}
IsUtf8Symbol (symbols.heading a) = IsUtf8 a
IsUtf8Symbol symbols.heading_end = Unit {0}
IsUtf8Symbol symbols.note = Unit {0}
IsUtf8Symbol (symbols.rule a) = IsUtf8 a
IsUtf8Symbol symbols.paragraph = Unit {0}
IsUtf8Symbol (symbols.words w) = IsUtf8 w
IsUtf8Symbol symbols.stray = Unit {0}

bare_utf8 : (name : List ℕ) → IsUtf8Symbol (bare_symbol name)
bare_utf8 name =
    cond_both (str_eq_ignore_ascii_case name (codes "dt")) _ _ IsUtf8Symbol (λ _. tt)
    (λ _. cond_both (str_eq_ignore_ascii_case name (codes "/a")) _ _ IsUtf8Symbol (λ _. tt)
    (λ _. cond_both (str_eq_ignore_ascii_case name (codes "dd")) _ _ IsUtf8Symbol (λ _. tt)
    (λ _. cond_both (str_eq_ignore_ascii_case name (codes "dl")) _ _ IsUtf8Symbol (λ _. tt)
    (λ _. cond_both (str_eq_ignore_ascii_case name (codes "/dl")) _ _ IsUtf8Symbol (λ _. tt)
    (λ _. cond_both (str_eq_ignore_ascii_case name (codes "/h3")) _ _ IsUtf8Symbol (λ _. tt)
    (λ _. cond_both (str_eq_ignore_ascii_case name (codes "p")) symbols.paragraph symbols.stray IsUtf8Symbol (λ _. tt) (λ _. tt)))))))

tag_utf8 : (name rest : List ℕ) → IsUtf8 rest → IsUtf8Symbol (symbol_named name rest)
tag_utf8 name rest utf8 =
    cond_both (str_eq_ignore_ascii_case name (codes "a")) _ _ IsUtf8Symbol (λ _. utf8)
    (λ _. cond_both (str_eq_ignore_ascii_case name (codes "h3")) _ _ IsUtf8Symbol (λ _. utf8)
    (λ _. cond_both (str_eq_ignore_ascii_case name (codes "hr")) _ _ IsUtf8Symbol (λ _. utf8)
    (λ _. cond_both (is_white rest) (bare_symbol name) symbols.stray IsUtf8Symbol (λ _. bare_utf8 name) (λ _. tt))))

symbol_of_utf8 : (t : Token) → IsUtf8 (token_bytes t) → IsUtf8Symbol (symbol_of t)
unfolding token_bytes
symbol_of_utf8 (tag inside) utf8 = tag_utf8 (take (name_len inside) inside) (drop (name_len inside) inside) (named_utf8 inside utf8)
symbol_of_utf8 (text w) utf8 = utf8

-- the next symbol, and what stands behind it
pub symbol_utf8 : (titled : Bool) (bytes : List ℕ) (m : Symbol) (rest : List ℕ) → IsNextSymbol titled bytes m rest → IsUtf8 bytes
    → IsUtf8Symbol m × IsUtf8 rest
symbol_utf8 titled bytes m rest (here {p = p} next is stays) utf8 =
    let two = token_utf8 bytes rest p next utf8 in (subst IsUtf8Symbol is (symbol_of_utf8 p two.0), two.1)
symbol_utf8 titled bytes m rest (behind {more = more} {p = p} next skipped symbol) utf8 =
    symbol_utf8 titled more m rest symbol (token_utf8 bytes more p next utf8).1
