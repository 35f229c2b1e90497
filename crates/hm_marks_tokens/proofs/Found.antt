-- How many bytes stand before the first of a kind.
use Rattle.std.proofs.Common.{◌≡◌, ℕ, List, length, get_or, Some, None, sym, arith}
use Rattle.std.specs.Bool.{◌==◌}
use Rattle.std.specs.List.{position_or_len}
use Rattle.std.proofs.lemmas.Bool.{false_from_ne_true}
use Rattle.std.proofs.lemmas.List.Sums.{position_or_len_is}
use Rattle.memchr.specs.Find.{IsFirstByte, is_byte}

module _ (x : ℕ) (bytes : List ℕ) where
  pub before_found : (at : ℕ) → IsFirstByte (is_byte x) bytes (Some at) → at ≡ position_or_len (λ b. b == x) bytes
  before_found at found =
      let within = found.0.high in
      sym (position_or_len_is (λ b. b == x) bytes at 0 (omega arith) (λ k lt. false_from_ne_true (get_or bytes k 0 == x) (found.0.before k (omega arith) lt)) (λ lt. found.1))

  pub before_end : IsFirstByte (is_byte x) bytes None → length bytes ≡ position_or_len (λ b. b == x) bytes
  before_end none =
      sym (position_or_len_is (λ b. b == x) bytes (length bytes) 0 (omega arith) (λ k lt. false_from_ne_true (get_or bytes k 0 == x) (none k (omega arith) lt)) (λ lt. absurd (omega arith)))
