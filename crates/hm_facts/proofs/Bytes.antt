-- Facts on bytes.
use Rattle.std.proofs.Common.{ℕ, ◌<◌, [], ◌∷◌, IsUtf8, arith}
use Rattle.std.proofs.lemmas.List.Elements.{All-cons}
use Rattle.std.proofs.lemmas.Str.{IsUtf8-from_ascii}
use Rattle.std.proofs.lemmas.Str.Ascii.{IsAscii-from_all}

pub one_ascii : (b : ℕ) → b < 128 → IsUtf8 (b ∷ [])
one_ascii b lt = IsUtf8-from_ascii (b ∷ []) (IsAscii-from_all (b ∷ []) (All-cons (λ x. x < 128) b [] lt (λ k d l. absurd (omega arith))))
