-- What cleaning leaves of a text is text.
use Rattle.std.proofs.Common.{◌≡◌, ℕ, suc, ◌<◌, ◌≤◌, Bool, true, false, cond, ◌&&◌, List, [], ◌∷◌, ◌++◌, get_or, refl, sym, ap, ◌∙◌, subst, arith, inl, inr}
use Rattle.std.specs.Bool.{◌==◌}
use Rattle.std.specs.List.{All, filter}
use Rattle.std.specs.Str.{IsUtf8}
use lib.Utf8.{scalar, scalars, encodes, encode}
use Rattle.std.proofs.lemmas.Bool.{ne_eqb, cases_lt, cond_both, cond-true, cond-false, and_parts, and_from, and_right, le-leb}
use Rattle.std.proofs.lemmas.List.{append-nil, get_or_default}
use Rattle.std.proofs.lemmas.List.Elements.{All-cons, All-filter, filter-append}
use Rattle.std.proofs.lemmas.Str.{IsUtf8-nil, IsUtf8-append, IsUtf8-from_ascii, encode_ascii, inside_one}
use Rattle.std.proofs.lemmas.Str.Ascii.{IsAscii-from_all}
use Rattle.hm_tree.specs.Cleaned.{is_kept, cleaned}
use Rattle.hm_tree.specs.LineEnds.{line_end}
use Rattle.hm_tree.proofs.LineEnds.{line_ends, cleaned-line_ends}

abbrev cleaned_from : Bool → List ℕ → List ℕ
cleaned_from behind t = filter is_kept (line_ends behind t)

-- ---- an ASCII character

All_one : (b : ℕ) → b < 128 → All (λ x. x < 128) (b ∷ [])
All_one b lt = All-cons (λ x. x < 128) b [] lt (λ k d l. absurd (omega arith))

ascii_line_end : (behind : Bool) (b : ℕ) → b < 128 → All (λ x. x < 128) (line_end behind b)
ascii_line_end behind b lt =
    cond_both (b == 13) (10 ∷ []) (cond (behind && (b == 10)) [] (b ∷ [])) (All (λ x. x < 128)) (λ _. All_one 10 (omega arith))
    (λ _. cond_both (behind && (b == 10)) [] (b ∷ []) (All (λ x. x < 128)) (λ _ k d l. absurd (omega arith)) (λ _. All_one b lt))

ascii_step : (behind : Bool) (b : ℕ) (t : List ℕ) → b < 128 → IsUtf8 (cleaned_from (b == 13) t) → IsUtf8 (cleaned_from behind (b ∷ t))
ascii_step behind b t lt rest =
    subst IsUtf8 (sym (filter-append is_kept (line_end behind b) (line_ends (b == 13) t)))
    (IsUtf8-append (filter is_kept (line_end behind b)) (cleaned_from (b == 13) t)
    (IsUtf8-from_ascii (filter is_kept (line_end behind b))
    (IsAscii-from_all _ (All-filter is_kept (λ x. x < 128) (line_end behind b) (ascii_line_end behind b lt)))) rest)

-- ---- a character of more than one byte, none of which is ASCII

pub not_low : (b c : ℕ) → 128 ≤ b → c < 128 → (b == c) ≡ false
not_low b c high low = ne_eqb b c (λ e. omega arith)

high_kept : (b : ℕ) → 128 ≤ b → is_kept b ≡ true
high_kept b h = rw (not_low b 9 h (omega arith), not_low b 10 h (omega arith), le-leb 32 b (omega arith), not_low b 127 h (omega arith)) refl

high_line_end : (behind : Bool) (b : ℕ) → 128 ≤ b → line_end behind b ≡ b ∷ []
high_line_end behind b h = cond-false (b == 13) _ _ (not_low b 13 h (omega arith))
    ∙ cond-false (behind && (b == 10)) _ _ (and_right behind (b == 10) (not_low b 10 h (omega arith)))

high_step : (behind : Bool) (b : ℕ) (t : List ℕ) → 128 ≤ b → cleaned_from behind (b ∷ t) ≡ b ∷ cleaned_from false t
high_step behind b t h =
    ap (λ l. filter is_kept (l ++ line_ends (b == 13) t)) (high_line_end behind b h)
    ∙ cond-true (is_kept b) _ _ (high_kept b h)
    ∙ ap (λ r. b ∷ filter is_kept (line_ends r t)) (not_low b 13 h (omega arith))

high_steps : (behind : Bool) (b : ℕ) (bs t : List ℕ) → All (λ x. 128 ≤ x) (b ∷ bs)
    → cleaned_from behind (b ∷ (bs ++ t)) ≡ b ∷ (bs ++ cleaned_from false t)
high_steps behind b [] t all = high_step behind b t (all 0 0 (omega arith))
high_steps behind b (x ∷ bs) t all =
    high_step behind b (x ∷ (bs ++ t)) (all 0 0 (omega arith))
    ∙ ap (λ l. b ∷ l) (high_steps false x bs t (λ k d lt. all (suc k) d (omega arith)))

pub high_bytes : (c : ℕ) → 128 ≤ c → All (λ x. 128 ≤ x) (encode c)
high_bytes c h k d lt = elim (cases_lt (get_or (encode c) k 0) 128) [
  | inl low ↦ let same = inside_one c [] (encode c) k (sym (append-nil (encode c))) lt low in absurd (omega arith)
  | inr high ↦ let other = get_or_default (encode c) k d 0 lt in omega arith
]

character : (behind : Bool) (c : ℕ) (t : List ℕ) → IsUtf8 (encode c) → ((r : Bool) → IsUtf8 (cleaned_from r t))
    → IsUtf8 (cleaned_from behind (encode c ++ t))
character behind c t one rest = elim (cases_lt c 128) [
  | inl low ↦ subst (λ l. IsUtf8 (cleaned_from behind (l ++ t))) (sym (encode_ascii c low)) (ascii_step behind c t low (rest (c == 13)))
  | inr high ↦ by (encode c) one (high_bytes c high)
]
  where
    by : (bs : List ℕ) → IsUtf8 bs → All (λ x. 128 ≤ x) bs → IsUtf8 (cleaned_from behind (bs ++ t))
    by [] one all = rest behind
    by (b ∷ bs) one all = subst IsUtf8 (sym (high_steps behind b bs t all)) (IsUtf8-append (b ∷ bs) (cleaned_from false t) one (rest false))

characters : (cs : List ℕ) → scalars cs ≡ true → (behind : Bool) → IsUtf8 (cleaned_from behind (encodes cs))
characters [] h behind = IsUtf8-nil
characters (c ∷ cs) h behind =
    let parts = and_parts (scalar c) (scalars cs) h in
    character behind c (encodes cs) (c ∷ [], (and_from (scalar c) true parts.0 refl, append-nil (encode c))) (characters cs parts.1)

pub cleaned_utf8 : (t : List ℕ) → IsUtf8 t → IsUtf8 (cleaned t)
cleaned_utf8 t u = subst IsUtf8 (sym (cleaned-line_ends t)) (subst (λ l. IsUtf8 (cleaned_from false l)) u.1.1 (characters u.0 u.1.0 false))
