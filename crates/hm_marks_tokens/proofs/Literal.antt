-- Bytes without `&`.
use Rattle.std.proofs.Common.{◌≡◌, ℕ, true, false, List, [], ◌∷◌, get_or, Some, None, refl, ap, arith}
use Rattle.std.specs.Bool.{◌==◌}
use Rattle.std.proofs.lemmas.Bool.{false_from_ne_true, or_parts}
use Rattle.std.proofs.lemmas.List.Elements.{All-from_get_or}
use Rattle.std.proofs.lemmas.List.Folds.{list_any_at, list_any_none}
use Rattle.memchr.specs.Find.{IsFirstByte, is_byte}
use Rattle.hm_marks_tokens.specs.Entities.{ampersand, has_ampersand, unescaped}

pub some_ampersand : (bytes : List ℕ) (at : ℕ) → IsFirstByte (is_byte ampersand) bytes (Some at) → has_ampersand bytes ≡ true
some_ampersand bytes at found = let within = found.0.high in list_any_at (λ b. b == ampersand) bytes at 0 within found.1

pub no_ampersand : (bytes : List ℕ) → IsFirstByte (is_byte ampersand) bytes None → has_ampersand bytes ≡ false
no_ampersand bytes none =
    list_any_none (λ b. b == ampersand) bytes
    (All-from_get_or (λ b. (b == ampersand) ≡ false) bytes 0 (λ k lt. false_from_ne_true (get_or bytes k 0 == ampersand) (none k (omega arith) lt)))

-- they are read as they are
pub literal_read : (bytes : List ℕ) → has_ampersand bytes ≡ false → unescaped bytes ≡ bytes
literal_read [] none = refl
literal_read (b ∷ bytes) none =
    let parts = or_parts (b == ampersand) (has_ampersand bytes) none in
    rw (parts.0) (ap (λ l. b ∷ l) (literal_read bytes parts.1))
