-- What holds of all UTF-8, character by character.
use Rattle.std.proofs.Common.{◌≡◌, ℕ, ◌<◌, ◌≤◌, true, List, [], ◌∷◌, ◌++◌, length, get_or, All, refl, sym, ap, subst, arith, inl, inr}
use Rattle.std.specs.Str.{IsUtf8, IsCharBoundary}
use lib.Utf8.{scalar, scalars, encodes, encode}
use Rattle.std.proofs.lemmas.Bool.{cases_lt, and_parts, and_from}
use Rattle.std.proofs.lemmas.List.{append-nil, get_or_default}
use Rattle.std.proofs.lemmas.Str.{IsCharBoundary-at_seam, encode_ascii, inside_one, length-encode, len_utf8_bounds}

-- bytes none of which is ASCII
abbrev pub AreHigh : List ℕ → Type 0
AreHigh bytes = All (λ x. 128 ≤ x) bytes

high_bytes : (c : ℕ) → 128 ≤ c → AreHigh (encode c)
high_bytes c h k d lt = elim (cases_lt (get_or (encode c) k 0) 128) [
  | inl low ↦ let same = inside_one c [] (encode c) k (sym (append-nil (encode c))) lt low in absurd (omega arith)
  | inr high ↦ let other = get_or_default (encode c) k d 0 lt in omega arith
]

one_character : (c : ℕ) → scalar c ≡ true → IsUtf8 (encode c)
one_character c e = (c ∷ [], (and_from (scalar c) true e refl, append-nil (encode c)))

module _ (P : List ℕ → Type 0) (none : P []) (low : (b : ℕ) (t : List ℕ) → b < 128 → P t → P (b ∷ t))
    (high : (bs t : List ℕ) → IsUtf8 bs → AreHigh bs → P t → P (bs ++ t)) where
  character : (c : ℕ) (t : List ℕ) → IsUtf8 (encode c) → P t → P (encode c ++ t)
  character c t one rest = elim (cases_lt c 128) [
    | inl lt ↦ subst (λ l. P (l ++ t)) (sym (encode_ascii c lt)) (low c t lt rest)
    | inr le ↦ high (encode c) t one (high_bytes c le) rest
  ]

  characters : (cs : List ℕ) → scalars cs ≡ true → P (encodes cs)
  characters [] e = none
  characters (c ∷ cs) e =
      let parts = and_parts (scalar c) (scalars cs) e in character c (encodes cs) (one_character c parts.0) (characters cs parts.1)

  -- what holds of nothing, and with some text of a byte of ASCII before it and of other bytes before it, holds of each text
  pub by_characters : (bytes : List ℕ) → IsUtf8 bytes → P bytes
  by_characters bytes u = subst P u.1.1 (characters u.0 u.1.0)

-- a text ends somewhere within its first four bytes between characters
pub record Steps (bytes : List ℕ) : Type 0 where
  pub count : ℕ
  pub some : 1 ≤ count
  pub few : count ≤ 4
  pub boundary : IsCharBoundary bytes count

pub steps : (bytes : List ℕ) → IsUtf8 bytes → 0 < length bytes → Steps bytes
steps bytes u some = go u.0 u.1.0 u.1.1
  where
    go : (cs : List ℕ) → scalars cs ≡ true → encodes cs ≡ bytes → Steps bytes
    go [] e is = let none = ap length is in absurd (omega arith)
    go (c ∷ cs) e is =
        let parts = and_parts (scalar c) (scalars cs) e in
        let bounds = len_utf8_bounds c in
        let len = length-encode c in
        record {
          count = length (encode c);
          some = omega (arith, bounds.0, len);
          few = omega (arith, bounds.1, len);
          boundary = IsCharBoundary-at_seam bytes (encode c) (encodes cs) (sym is) (cs, (parts.1, refl));
        }
