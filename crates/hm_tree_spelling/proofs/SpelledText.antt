-- The spelling of a name is text.
use Rattle.std.proofs.Common.{◌≡◌, ℕ, suc, ◌+◌, ◌<◌, ◌≤◌, ◌/◌, ◌%◌, true, List, [], ◌∷◌, ◌++◌, refl, sym, ap, ◌∙◌, subst, arith, inl, inr}
use Rattle.std.specs.Bool.{nat_lt}
use Rattle.std.specs.Char.{digit_char}
use Rattle.std.specs.List.{All}
use Rattle.std.specs.Str.{IsUtf8}
use lib.Utf8.{scalar, scalars, encodes, encode}
use Rattle.std.proofs.lemmas.Bool.{ne_eqb, le-ltb, cases_lt, cond_both, and_parts, and_from}
use Rattle.std.proofs.lemmas.List.{append-nil}
use Rattle.std.proofs.lemmas.List.Elements.{All-nil, All-cons}
use Rattle.std.proofs.lemmas.Str.{IsUtf8-nil, IsUtf8-append, IsUtf8-from_ascii, encode_ascii}
use Rattle.std.proofs.lemmas.Str.Ascii.{IsAscii-from_all}
use Rattle.hm_tree.specs.Names.{Name}
use Rattle.hm_tree_spelling.specs.Spelling.{is_plain, spelled_byte, escaped, spelled}
use Rattle.hm_tree_spelling.specs.SpellingLaws.{Kind, plain, backslashed, control, kind, spelled_plain}
use Rattle.hm_tree.proofs.CleanText.{high_bytes}

abbrev IsLow : ℕ → Type 0
IsLow b = b < 128

low_text : (bytes : List ℕ) → All IsLow bytes → IsUtf8 bytes
low_text bytes all = IsUtf8-from_ascii bytes (IsAscii-from_all bytes all)

digit_low : (d : ℕ) → d < 16 → digit_char d < 128
digit_low d lt = cond_both (nat_lt d 10) (48 + d) (87 + d) IsLow (λ _. omega arith) (λ _. omega arith)

-- ---- a character of ASCII

low_spelled : (b : ℕ) → b < 128 → IsUtf8 (spelled_byte b)
low_spelled b lt = go (kind b)
  where
    one : (x : ℕ) (xs : List ℕ) → x < 128 → All IsLow xs → All IsLow (x ∷ xs)
    one x xs l all = All-cons IsLow x xs l all

    go : Kind b → IsUtf8 (spelled_byte b)
    go (plain h is) = subst IsUtf8 (sym is) (low_text (b ∷ []) (one b [] lt (All-nil IsLow)))
    go (backslashed h is) = subst IsUtf8 (sym is) (low_text (92 ∷ b ∷ []) (one 92 (b ∷ []) (omega arith) (one b [] lt (All-nil IsLow))))
    go (control h is) =
        let high = digit_low (b / 16) (omega arith) in
        let low = digit_low (b % 16) (omega arith) in
        let digits = one (digit_char (b / 16)) (digit_char (b % 16) ∷ []) high (one (digit_char (b % 16)) [] low (All-nil IsLow)) in
        subst IsUtf8 (sym is)
        (low_text (92 ∷ 120 ∷ digit_char (b / 16) ∷ digit_char (b % 16) ∷ [])
        (one 92 (120 ∷ digit_char (b / 16) ∷ digit_char (b % 16) ∷ []) (omega arith)
        (one 120 (digit_char (b / 16) ∷ digit_char (b % 16) ∷ []) (omega arith) digits)))

-- ---- a character of more than one byte, none of which is ASCII

high_plain : (b : ℕ) → 128 ≤ b → is_plain b ≡ true
high_plain b h = rw (ne_eqb b 34 (λ e. omega arith), ne_eqb b 92 (λ e. omega arith), le-ltb b 32 (omega arith), ne_eqb b 127 (λ e. omega arith)) refl

high_escaped : (bs t : List ℕ) → All (λ x. 128 ≤ x) bs → escaped (bs ++ t) ≡ bs ++ escaped t
high_escaped [] t all = refl
high_escaped (b ∷ bs) t all =
    ap (λ l. l ++ escaped (bs ++ t)) (spelled_plain b (high_plain b (all 0 0 (omega arith))))
    ∙ ap (λ l. b ∷ l) (high_escaped bs t (λ k d lt. all (suc k) d (omega arith)))

character : (c : ℕ) (t : List ℕ) → IsUtf8 (encode c) → IsUtf8 (escaped t) → IsUtf8 (escaped (encode c ++ t))
character c t one rest = elim (cases_lt c 128) [
  | inl low ↦ subst (λ l. IsUtf8 (escaped (l ++ t))) (sym (encode_ascii c low)) (IsUtf8-append (spelled_byte c) (escaped t) (low_spelled c low) rest)
  | inr high ↦ subst IsUtf8 (sym (high_escaped (encode c) t (high_bytes c high))) (IsUtf8-append (encode c) (escaped t) one rest)
]

characters : (cs : List ℕ) → scalars cs ≡ true → IsUtf8 (escaped (encodes cs))
characters [] h = IsUtf8-nil
characters (c ∷ cs) h =
    let parts = and_parts (scalar c) (scalars cs) h in
    character c (encodes cs) (c ∷ [], (and_from (scalar c) true parts.0 refl, append-nil (encode c))) (characters cs parts.1)

quote : IsUtf8 (34 ∷ [])
quote = low_text (34 ∷ []) (All-cons IsLow 34 [] (omega arith) (All-nil IsLow))

pub spelled_utf8 : (name : Name) → IsUtf8 name → IsUtf8 (spelled name)
unfolding spelled
spelled_utf8 name u =
    IsUtf8-append (34 ∷ []) (escaped name ++ 34 ∷ []) quote
    (IsUtf8-append (escaped name) (34 ∷ []) (subst (λ l. IsUtf8 (escaped l)) u.1.1 (characters u.0 u.1.0)) quote)
