-- Bytes up to the first one of a kind.
use Rattle.std.proofs.Common.{◌≡◌, ℕ, ◌+◌, ◌-◌, ◌<◌, false, List, [], ◌∷◌, ◌++◌, length, get_or, take, drop, Option, Some, None, sym, ap, ◌∙◌, subst, arith}
use Rattle.std.specs.Option.{is_some}
use Rattle.std.specs.Bool.{◌==◌}
use Rattle.std.proofs.lemmas.Bool.{false_from_ne_true, eqb-true}
use Rattle.std.proofs.lemmas.List.{drop_more, take_more, get_or-take, get_or_default, length-take-le, take-append-drop, take_rest}
use Rattle.memchr.specs.Find.{IsFirstByte, is_byte}
use Rattle.hm_lines.specs.Folding.{HasNone}

-- what stands before the first byte of a kind, and behind it
pub record IsFound (x : ℕ) (bytes front tail : List ℕ) : Type 0 where
  pub none : HasNone x front
  pub parts : bytes ≡ front ++ x ∷ tail

module _ (x : ℕ) (bytes : List ℕ) where
  pub none_found : IsFirstByte (is_byte x) bytes None → HasNone x bytes
  none_found none k d lt = false_from_ne_true (get_or bytes k d == x) (λ e.
      none k (omega arith) lt (ap (λ b. b == x) (get_or_default bytes k 0 d lt) ∙ e))

  module _ (at : ℕ) (found : IsFirstByte (is_byte x) bytes (Some at)) where
    pub found_within : at < length bytes
    found_within = found.0.high

    before : HasNone x (take at bytes)
    before k d lt =
        let within = found.0.high in
        let short = length-take-le at bytes (omega arith) in
        let low : k < at = omega arith in
        false_from_ne_true (get_or (take at bytes) k d == x) (λ e.
        found.0.before k (omega arith) low
        (ap (λ b. b == x) (get_or_default bytes k 0 d (omega arith) ∙ sym (get_or-take at bytes k d low)) ∙ e))

    pub found_tail : drop at bytes ≡ x ∷ drop (at + 1) bytes
    found_tail = drop_more bytes at 0 found.0.high ∙ ap (λ b. b ∷ drop (at + 1) bytes) (eqb-true (get_or bytes at 0) x found.1)

    pub found_front : take (at + 1) bytes ≡ take at bytes ++ x ∷ []
    found_front = take_more bytes at 0 found.0.high ∙ ap (λ b. take at bytes ++ b ∷ []) (eqb-true (get_or bytes at 0) x found.1)

    pub found_length : length (take at bytes) ≡ at
    found_length = let within = found.0.high in length-take-le at bytes (omega arith)

    pub is_found : IsFound x bytes (take at bytes) (drop (at + 1) bytes)
    is_found = record { none = before; parts = sym (take-append-drop at bytes) ∙ ap (λ l. take at bytes ++ l) found_tail }

    pub front_found : (front : List ℕ) → front ≡ take at bytes → IsFound x bytes front (drop (at + 1) bytes)
    front_found front is = subst (λ l. IsFound x bytes l (drop (at + 1) bytes)) (sym is) is_found

    -- what stands behind it, as ranges of what begins with it
    module _ (behind : List ℕ) (is : behind ≡ drop at bytes) where
      pub one_behind : take (length behind - 1) (drop 1 behind) ≡ drop (at + 1) bytes
      one_behind = take_rest behind 1 ∙ ap (drop 1) (is ∙ found_tail)

      pub two_behind : take (length behind - 2) (drop 2 behind) ≡ drop 1 (drop (at + 1) bytes)
      two_behind = take_rest behind 2 ∙ ap (drop 2) (is ∙ found_tail)

pub not_found : (x : ℕ) (bytes : List ℕ) (r : Option ℕ) → is_some r ≡ false → IsFirstByte (is_byte x) bytes r → HasNone x bytes
not_found x bytes None e found = none_found x bytes found
not_found x bytes (Some at) e found = let no_place : ⊥ = cc in absurd no_place
