-- What a string of JSON spells is UTF-8.
use Rattle.std.proofs.Common.{◌≡◌, ℕ, ◌+◌, ◌*◌, ◌<◌, true, false, cond, ◌&&◌, ◌||◌, ◌==◌, nat_lt, List, [], ◌∷◌, ◌++◌, length, get_or, drop, Option, Some, None, option_and_then, refl, sym, ap, ◌∙◌, subst, arith}
use Rattle.std.specs.Prelude.{IfSome}
use Rattle.std.specs.Char.{digit_value, is_digit, encode_utf8}
use Rattle.std.specs.Str.{IsUtf8}
use lib.Utf8.{scalar}
use Rattle.std.proofs.lemmas.Bool.{cond_both, eqb-true, and_parts}
use Rattle.std.proofs.lemmas.Bool.Decides.{nat_tests}
use Rattle.std.proofs.lemmas.List.{append-nil, append_assoc, length-append, get_or_at, take_at, drop_at}
use Rattle.std.proofs.lemmas.Str.{IsUtf8-append, IsUtf8-encode, IsUtf8-take, IsUtf8-drop, IsCharBoundary-before_ascii, IsCharBoundary-after_ascii}
use Rattle.json.specs.Text.{code_unit, short_escape, is_high_surrogate, is_low_surrogate, surrogate_pair, Within, plain, after_backslash, after_u, after_high, prepend, content}
use Rattle.hm_facts.proofs.Bytes.{one_ascii}

-- ---- a byte of ASCII parts a text

module _ (front : List ℕ) (b : ℕ) (rest : List ℕ) (low : b < 128) (utf8 : IsUtf8 (front ++ b ∷ rest)) where
  within : length front < length (front ++ b ∷ rest)
  within = let more = length-append front (b ∷ rest) in omega arith

  there : get_or (front ++ b ∷ rest) (length front) 0 < 128
  there = subst (λ x. x < 128) (sym (get_or_at front b rest 0 (length front) refl)) low

  pub before_ascii : IsUtf8 front
  before_ascii =
      subst IsUtf8 (take_at front (b ∷ rest) (length front) refl)
      (IsUtf8-take (front ++ b ∷ rest) (length front) utf8 (IsCharBoundary-before_ascii (front ++ b ∷ rest) (length front) within there))

  behind : drop (length front + 1) (front ++ b ∷ rest) ≡ rest
  behind = ap (drop (length front + 1)) (sym (append_assoc front (b ∷ []) rest)) ∙ drop_at (front ++ b ∷ []) rest (length front + 1) (length-append front (b ∷ []))

  pub behind_ascii : IsUtf8 rest
  behind_ascii =
      subst IsUtf8 behind
      (IsUtf8-drop (front ++ b ∷ rest) (length front + 1) utf8 (IsCharBoundary-after_ascii (front ++ b ∷ rest) (length front) utf8 within there))

-- ---- what is read behind some bytes

abbrev IsText : Option (List ℕ) → Type 0
IsText o = IfSome o IsUtf8

abbrev IsTextBehind : List ℕ → Option (List ℕ) → Type 0
IsTextBehind front o = IfSome o (λ s. IsUtf8 (front ++ s))

prepended : (bytes : List ℕ) (o : Option (List ℕ)) → IsUtf8 bytes → IsText o → IsText (prepend bytes o)
prepended bytes None utf8 text = tt
prepended bytes (Some s) utf8 text = IsUtf8-append bytes s utf8 text

put_behind : (front : List ℕ) (o : Option (List ℕ)) → IsUtf8 front → IsText o → IsTextBehind front o
put_behind front None utf8 text = tt
put_behind front (Some s) utf8 text = IsUtf8-append front s utf8 text

one_more : (front : List ℕ) (b : ℕ) (o : Option (List ℕ)) → IsTextBehind (front ++ b ∷ []) o → IsTextBehind front (prepend (b ∷ []) o)
one_more front b None text = tt
one_more front b (Some s) text = subst IsUtf8 (append_assoc front (b ∷ []) s) text

-- ---- escapes

-- an escape of one byte is of ASCII, and stands for ASCII
short_low : (x : ℕ) → IfSome (short_escape x) (λ c. (x < 128) × (c < 128))
unfolding short_escape
short_low x =
    let P = λ (o : Option ℕ). IfSome o (λ c. (x < 128) × (c < 128)) in
    cond_both ((x == 34) || (x == 92) || (x == 47)) (Some x) _ P (λ e. grind (arith, nat_tests))
    (λ _. cond_both (x == 98) (Some 8) _ P (λ e. grind (arith, nat_tests))
    (λ _. cond_both (x == 102) (Some 12) _ P (λ e. grind (arith, nat_tests))
    (λ _. cond_both (x == 110) (Some 10) _ P (λ e. grind (arith, nat_tests))
    (λ _. cond_both (x == 114) (Some 13) _ P (λ e. grind (arith, nat_tests))
    (λ _. cond_both (x == 116) (Some 9) None P (λ e. grind (arith, nat_tests)) (λ _. tt))))))

digit_low : (x : ℕ) → is_digit x 16 ≡ true → (x < 128) × (digit_value x < 16)
digit_low x e = grind (arith, nat_tests)

-- four bytes that spell a code unit
record AreUnit (a b c d u : ℕ) : Type 0 where
  a_low : a < 128
  b_low : b < 128
  c_low : c < 128
  d_low : d < 128
  fits : u < 65536

unit_low : (a b c d : ℕ) → IfSome (code_unit a b c d) (AreUnit a b c d)
unfolding code_unit
unit_low a b c d =
    cond_both (is_digit a 16 && is_digit b 16 && is_digit c 16 && is_digit d 16) _ None (λ (o : Option ℕ). IfSome o (AreUnit a b c d)) digits (λ _. tt)
  where
    digits : (is_digit a 16 && is_digit b 16 && is_digit c 16 && is_digit d 16) ≡ true
        → AreUnit a b c d (digit_value a * 4096 + digit_value b * 256 + digit_value c * 16 + digit_value d)
    digits e =
        let three = and_parts (is_digit a 16 && is_digit b 16 && is_digit c 16) (is_digit d 16) e in
        let two = and_parts (is_digit a 16 && is_digit b 16) (is_digit c 16) three.0 in
        let one = and_parts (is_digit a 16) (is_digit b 16) two.0 in
        let p = digit_low a one.0 in
        let q = digit_low b one.1 in
        let r = digit_low c two.1 in
        let s = digit_low d three.1 in
        record { a_low = p.0; b_low = q.0; c_low = r.0; d_low = s.0; fits = omega (arith, p.1, q.1, r.1, s.1) }

behind_unit : (a b c d u : ℕ) (rest : List ℕ) → AreUnit a b c d u → IsUtf8 (a ∷ b ∷ c ∷ d ∷ rest) → IsUtf8 rest
behind_unit a b c d u rest unit utf8 =
    let one = behind_ascii [] a (b ∷ c ∷ d ∷ rest) unit.a_low utf8 in
    let two = behind_ascii [] b (c ∷ d ∷ rest) unit.b_low one in
    let three = behind_ascii [] c (d ∷ rest) unit.c_low two in
    behind_ascii [] d rest unit.d_low three

-- a code unit that is no surrogate is a character, and so is a pair of surrogates
unit_scalar : (u : ℕ) → u < 65536 → is_high_surrogate u ≡ false → is_low_surrogate u ≡ false → scalar u ≡ true
unit_scalar u fits high low = grind (arith, nat_tests)

pair_scalar : (h l : ℕ) → is_high_surrogate h ≡ true → is_low_surrogate l ≡ true → scalar (surrogate_pair h l) ≡ true
pair_scalar h l high low = grind (arith, nat_tests)

-- ---- what a string spells

-- In each place within a string, what is read from there on is UTF-8. Plain bytes may stand in front.
abbrev Reads : Within → List ℕ → Type 0
Reads plain xs = (front : List ℕ) → IsUtf8 (front ++ xs) → IsTextBehind front (content plain xs)
Reads after_backslash xs = IsUtf8 xs → IsText (content after_backslash xs)
Reads after_u xs = IsUtf8 xs → IsText (content after_u xs)
Reads (after_high h) xs = is_high_surrogate h ≡ true → IsUtf8 xs → IsText (content (after_high h) xs)

plain_reads : (x : ℕ) (xs : List ℕ) → Reads plain xs → Reads after_backslash xs → Reads plain (x ∷ xs)
unfolding content
plain_reads x xs more escaped front utf8 =
    let ascii = λ (b : ℕ) (lt : b < 128) (e : (x == b) ≡ true). subst (λ c. c < 128) (sym (eqb-true x b e)) lt in
    cond_both (x == 34) (Some []) _ (IsTextBehind front) (λ e. subst IsUtf8 (sym (append-nil front)) (before_ascii front x xs (ascii 34 (omega arith) e) utf8))
    (λ _. cond_both (x == 92) (content after_backslash xs) _ (IsTextBehind front)
    (λ e. put_behind front (content after_backslash xs) (before_ascii front x xs (ascii 92 (omega arith) e) utf8)
    (escaped (behind_ascii front x xs (ascii 92 (omega arith) e) utf8)))
    (λ _. cond_both (nat_lt x 32) None _ (IsTextBehind front) (λ _. tt)
    (λ _. one_more front x (content plain xs) (more (front ++ x ∷ []) (subst IsUtf8 (sym (append_assoc front (x ∷ []) xs)) utf8)))))

escape_reads : (x : ℕ) (xs : List ℕ) → Reads plain xs → Reads after_u xs → Reads after_backslash (x ∷ xs)
unfolding content
escape_reads x xs more unicode utf8 =
    cond_both (x == 117) (content after_u xs) _ IsText
    (λ e. unicode (behind_ascii [] x xs (subst (λ c. c < 128) (sym (eqb-true x 117 e)) (omega arith)) utf8)) (λ _. short (short_escape x) (short_low x))
  where
    short : (o : Option ℕ) → IfSome o (λ c. (x < 128) × (c < 128)) → IsText (option_and_then (λ c. prepend (c ∷ []) (content plain xs)) o)
    short None low = tt
    short (Some c) low = prepended (c ∷ []) (content plain xs) (one_ascii c low.1) (more [] (behind_ascii [] x xs low.0 utf8))

unicode_reads : (a b c d : ℕ) (xs : List ℕ) → Reads plain xs → ((h : ℕ) → Reads (after_high h) xs) → Reads after_u (a ∷ b ∷ c ∷ d ∷ xs)
unfolding content
unicode_reads a b c d xs more pair utf8 = go (code_unit a b c d) (unit_low a b c d)
  where
    go : (o : Option ℕ) → IfSome o (AreUnit a b c d)
        → IsText (option_and_then (λ u. cond (is_high_surrogate u) (content (after_high u) xs) (cond (is_low_surrogate u) None (prepend (encode_utf8 u) (content plain xs)))) o)
    go None unit = tt
    go (Some u) unit =
        let rest = behind_unit a b c d u xs unit utf8 in
        cond_both (is_high_surrogate u) (content (after_high u) xs) _ IsText (λ high. pair u high rest)
        (λ high. cond_both (is_low_surrogate u) None _ IsText (λ _. tt)
        (λ low. prepended (encode_utf8 u) (content plain xs) (IsUtf8-encode u (unit_scalar u unit.fits high low)) (more [] rest)))

pair_reads : (h s t a b c d : ℕ) (xs : List ℕ) → Reads plain xs → Reads (after_high h) (s ∷ t ∷ a ∷ b ∷ c ∷ d ∷ xs)
unfolding content
pair_reads h s t a b c d xs more high utf8 =
    cond_both ((s == 92) && (t == 117)) _ None IsText (λ both. go both (code_unit a b c d) (unit_low a b c d)) (λ _. tt)
  where
    units : ((s == 92) && (t == 117)) ≡ true → IsUtf8 (a ∷ b ∷ c ∷ d ∷ xs)
    units both =
        let parts = and_parts (s == 92) (t == 117) both in
        behind_ascii [] t (a ∷ b ∷ c ∷ d ∷ xs) (subst (λ c. c < 128) (sym (eqb-true t 117 parts.1)) (omega arith))
        (behind_ascii [] s (t ∷ a ∷ b ∷ c ∷ d ∷ xs) (subst (λ c. c < 128) (sym (eqb-true s 92 parts.0)) (omega arith)) utf8)

    go : ((s == 92) && (t == 117)) ≡ true → (o : Option ℕ) → IfSome o (AreUnit a b c d)
        → IsText (option_and_then (λ l. cond (is_low_surrogate l) (prepend (encode_utf8 (surrogate_pair h l)) (content plain xs)) None) o)
    go both None unit = tt
    go both (Some l) unit =
        cond_both (is_low_surrogate l) _ None IsText
        (λ low. prepended (encode_utf8 (surrogate_pair h l)) (content plain xs) (IsUtf8-encode (surrogate_pair h l) (pair_scalar h l high low))
        (more [] (behind_unit a b c d l xs unit (units both)))) (λ _. tt)

reads : (m : Within) (xs : List ℕ) → Reads m xs
unfolding content
reads plain [] = λ front utf8. tt
reads plain (x ∷ xs) = plain_reads x xs (reads plain xs) (reads after_backslash xs)
reads after_backslash [] = λ utf8. tt
reads after_backslash (x ∷ xs) = escape_reads x xs (reads plain xs) (reads after_u xs)
reads after_u [] = λ utf8. tt
reads after_u (a ∷ []) = λ utf8. tt
reads after_u (a ∷ b ∷ []) = λ utf8. tt
reads after_u (a ∷ b ∷ c ∷ []) = λ utf8. tt
reads after_u (a ∷ b ∷ c ∷ d ∷ xs) = unicode_reads a b c d xs (reads plain xs) (λ h. reads (after_high h) xs)
reads (after_high h) [] = λ high utf8. tt
reads (after_high h) (s ∷ []) = λ high utf8. tt
reads (after_high h) (s ∷ t ∷ []) = λ high utf8. tt
reads (after_high h) (s ∷ t ∷ a ∷ []) = λ high utf8. tt
reads (after_high h) (s ∷ t ∷ a ∷ b ∷ []) = λ high utf8. tt
reads (after_high h) (s ∷ t ∷ a ∷ b ∷ c ∷ []) = λ high utf8. tt
reads (after_high h) (s ∷ t ∷ a ∷ b ∷ c ∷ d ∷ xs) = pair_reads h s t a b c d xs (reads plain xs)

-- what a text spells up to a closing quote is UTF-8
pub content_utf8 : (xs : List ℕ) → IsUtf8 xs → IfSome (content plain xs) IsUtf8
content_utf8 xs utf8 = reads plain xs [] utf8
