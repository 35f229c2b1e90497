-- The pieces of UTF-8 are UTF-8.
use Rattle.std.proofs.Common.{◌≡◌, ℕ, suc, ◌<◌, ◌≤◌, Bool, true, false, cond, List, [], ◌∷◌, ◌++◌, All, refl, sym, ap, ◌∙◌, subst, arith, inl, inr}
use Rattle.std.specs.Bool.{◌==◌}
use Rattle.std.specs.Str.{IsUtf8}
use lib.Utf8.{scalar, scalars, encodes, encode}
use Rattle.std.proofs.lemmas.Bool.{cases_lt, cond_both, and_parts, and_from}
use Rattle.std.proofs.lemmas.List.{append-nil}
use Rattle.std.proofs.lemmas.List.Elements.{All-cons}
use Rattle.std.proofs.lemmas.Str.{IsUtf8-nil, IsUtf8-append, IsUtf8-from_ascii, encode_ascii}
use Rattle.std.proofs.lemmas.Str.Ascii.{IsAscii-from_all}
use Rattle.std.proofs.lemmas.Grind.{flat_map-append}
use Rattle.hm_csv_fields.specs.Pieces.{stroke, backslash, is_special, spelled_byte, spelled, led, pieces_behind, pieces, written}
use Rattle.hm_csv_fields.proofs.Led.{led_led, led_nothing}
use Rattle.hm_facts.proofs.Bytes.{one_ascii}
use Rattle.hm_tree.proofs.CleanText.{not_low, high_bytes}

abbrev AreUtf8 : List (List ℕ) → Type 0
AreUtf8 ps = All IsUtf8 ps

-- ---- pieces in a list

all_nil : AreUtf8 []
all_nil k d lt = absurd (omega arith)

all_led : (bytes : List ℕ) (ps : List (List ℕ)) → IsUtf8 bytes → AreUtf8 ps → AreUtf8 (led bytes ps)
all_led bytes [] one all = All-cons IsUtf8 bytes [] one all_nil
all_led bytes (p ∷ ps) one all =
    All-cons IsUtf8 (bytes ++ p) ps (IsUtf8-append bytes p one (all 0 p (omega arith))) (λ k d lt. all (suc k) d (omega arith))

ascii : (bytes : List ℕ) → All (λ x. x < 128) bytes → IsUtf8 bytes
ascii bytes all = IsUtf8-from_ascii bytes (IsAscii-from_all bytes all)

two_ascii : (b : ℕ) → b < 128 → IsUtf8 (backslash ∷ b ∷ [])
two_ascii b lt = IsUtf8-append (backslash ∷ []) (b ∷ []) (one_ascii backslash (omega arith)) (one_ascii b lt)

-- ---- a character of one byte

low_step : (behind : Bool) (b : ℕ) (t : List ℕ) → b < 128 → ((r : Bool) → AreUtf8 (pieces_behind r t)) → AreUtf8 (pieces_behind behind (b ∷ t))
low_step false b t lt rest =
    cond_both (b == stroke) ([] ∷ pieces_behind false t) (cond (b == backslash) (pieces_behind true t) (led (b ∷ []) (pieces_behind false t))) AreUtf8
    (λ _. All-cons IsUtf8 [] (pieces_behind false t) IsUtf8-nil (rest false))
    (λ _. cond_both (b == backslash) (pieces_behind true t) (led (b ∷ []) (pieces_behind false t)) AreUtf8 (λ _. rest true)
    (λ _. all_led (b ∷ []) (pieces_behind false t) (one_ascii b lt) (rest false)))
low_step true b t lt rest =
    cond_both (is_special b) (led (b ∷ []) (pieces_behind false t)) (led (backslash ∷ b ∷ []) (pieces_behind false t)) AreUtf8
    (λ _. all_led (b ∷ []) (pieces_behind false t) (one_ascii b lt) (rest false))
    (λ _. all_led (backslash ∷ b ∷ []) (pieces_behind false t) (two_ascii b lt) (rest false))

-- ---- a character of more bytes, none of which is ASCII

high_plain : (b : ℕ) (t : List ℕ) → 128 ≤ b → pieces_behind false (b ∷ t) ≡ led (b ∷ []) (pieces_behind false t)
high_plain b t h = rw (not_low b 124 h (omega arith), not_low b 92 h (omega arith)) refl

high_behind : (b : ℕ) (t : List ℕ) → 128 ≤ b → pieces_behind true (b ∷ t) ≡ led (backslash ∷ b ∷ []) (pieces_behind false t)
high_behind b t h = rw (not_low b 124 h (omega arith), not_low b 92 h (omega arith)) refl

high_run : (bs t : List ℕ) → All (λ x. 128 ≤ x) bs → pieces_behind false (bs ++ t) ≡ led bs (pieces_behind false t)
high_run [] t all = sym (led_nothing false t)
high_run (b ∷ bs) t all =
    high_plain b (bs ++ t) (all 0 0 (omega arith))
    ∙ ap (led (b ∷ [])) (high_run bs t (λ k d lt. all (suc k) d (omega arith)))
    ∙ led_led (b ∷ []) bs (pieces_behind false t)

high_step : (behind : Bool) (bs t : List ℕ) → IsUtf8 bs → All (λ x. 128 ≤ x) bs → ((r : Bool) → AreUtf8 (pieces_behind r t))
    → AreUtf8 (pieces_behind behind (bs ++ t))
high_step behind [] t one all rest = rest behind
high_step false (b ∷ bs) t one all rest =
    subst AreUtf8 (sym (high_run (b ∷ bs) t all)) (all_led (b ∷ bs) (pieces_behind false t) one (rest false))
high_step true (b ∷ bs) t one all rest =
    subst AreUtf8
    (sym (high_behind b (bs ++ t) (all 0 0 (omega arith))
    ∙ ap (led (backslash ∷ b ∷ [])) (high_run bs t (λ k d lt. all (suc k) d (omega arith)))
    ∙ led_led (backslash ∷ b ∷ []) bs (pieces_behind false t)))
    (all_led (backslash ∷ b ∷ bs) (pieces_behind false t) (IsUtf8-append (backslash ∷ []) (b ∷ bs) (one_ascii backslash (omega arith)) one)
    (rest false))

character : (behind : Bool) (c : ℕ) (t : List ℕ) → IsUtf8 (encode c) → ((r : Bool) → AreUtf8 (pieces_behind r t))
    → AreUtf8 (pieces_behind behind (encode c ++ t))
character behind c t one rest = elim (cases_lt c 128) [
  | inl low ↦ subst (λ l. AreUtf8 (pieces_behind behind (l ++ t))) (sym (encode_ascii c low)) (low_step behind c t low rest)
  | inr high ↦ high_step behind (encode c) t one (high_bytes c high) rest
]

characters : (cs : List ℕ) → scalars cs ≡ true → (behind : Bool) → AreUtf8 (pieces_behind behind (encodes cs))
characters [] h false = All-cons IsUtf8 [] [] IsUtf8-nil all_nil
characters [] h true = All-cons IsUtf8 (backslash ∷ []) [] (one_ascii backslash (omega arith)) all_nil
characters (c ∷ cs) h behind =
    let parts = and_parts (scalar c) (scalars cs) h in
    character behind c (encodes cs) (c ∷ [], (and_from (scalar c) true parts.0 refl, append-nil (encode c))) (characters cs parts.1)

pub pieces_utf8 : (bytes : List ℕ) → IsUtf8 bytes → All IsUtf8 (pieces bytes)
pieces_utf8 [] u = all_nil
pieces_utf8 (b ∷ rest) u = subst (λ l. AreUtf8 (pieces_behind false l)) u.1.1 (characters u.0 u.1.0 false)

-- ---- and so are those that are written

spelled_high : (bs : List ℕ) → All (λ x. 128 ≤ x) bs → spelled bs ≡ bs
spelled_high [] all = refl
spelled_high (b ∷ bs) all =
    let h : 128 ≤ b = all 0 b (omega arith) in
    rw (not_low b 124 h (omega arith), not_low b 92 h (omega arith)) (ap (λ l. b ∷ l) (spelled_high bs (λ k d lt. all (suc k) d (omega arith))))

spelled_low : (b : ℕ) → b < 128 → IsUtf8 (spelled (b ∷ []))
spelled_low b lt =
    subst IsUtf8 (sym (append-nil (spelled_byte b)))
    (cond_both (is_special b) (backslash ∷ b ∷ []) (b ∷ []) IsUtf8 (λ _. two_ascii b lt) (λ _. one_ascii b lt))

spelled_character : (c : ℕ) → IsUtf8 (encode c) → IsUtf8 (spelled (encode c))
spelled_character c one = elim (cases_lt c 128) [
  | inl low ↦ subst (λ l. IsUtf8 (spelled l)) (sym (encode_ascii c low)) (spelled_low c low)
  | inr high ↦ subst IsUtf8 (sym (spelled_high (encode c) (high_bytes c high))) one
]

spelled_characters : (cs : List ℕ) → scalars cs ≡ true → IsUtf8 (spelled (encodes cs))
spelled_characters [] h = IsUtf8-nil
spelled_characters (c ∷ cs) h =
    let parts = and_parts (scalar c) (scalars cs) h in
    subst IsUtf8 (sym (flat_map-append spelled_byte (encode c) (encodes cs)))
    (IsUtf8-append (spelled (encode c)) (spelled (encodes cs))
    (spelled_character c (c ∷ [], (and_from (scalar c) true parts.0 refl, append-nil (encode c)))) (spelled_characters cs parts.1))

spelled_utf8 : (p : List ℕ) → IsUtf8 p → IsUtf8 (spelled p)
spelled_utf8 p u = subst (λ l. IsUtf8 (spelled l)) u.1.1 (spelled_characters u.0 u.1.0)

pub written_utf8 : (ps : List (List ℕ)) → All IsUtf8 ps → IsUtf8 (written ps)
written_utf8 [] all = IsUtf8-nil
written_utf8 (p ∷ []) all = spelled_utf8 p (all 0 p (omega arith))
written_utf8 (p ∷ q ∷ ps) all =
    IsUtf8-append (spelled p) (stroke ∷ written (q ∷ ps)) (spelled_utf8 p (all 0 p (omega arith)))
    (IsUtf8-append (stroke ∷ []) (written (q ∷ ps)) (one_ascii stroke (omega arith)) (written_utf8 (q ∷ ps) (λ k d lt. all (suc k) d (omega arith))))
