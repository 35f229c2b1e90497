-- The white space that bytes begin with.
use Rattle.std.proofs.Common.{◌≡◌, ℕ, suc, ◌+◌, Bool, true, false, cond, List, [], ◌∷◌, ◌++◌, take, drop, refl, ap, subst, arith}
use Rattle.std.specs.Char.{is_ascii_whitespace}
use Rattle.std.proofs.lemmas.Bool.{and_parts}
use Rattle.std.proofs.lemmas.List.{append-nil}
use Rattle.hm_marks_tokens.specs.Bytes.{is_white}
use Rattle.hm_marks_tokens.specs.Attributes.{white_len}
use Rattle.hm_netscape_files.specs.Heads.{behind_white}

pub white_front : (bytes : List ℕ) → is_white (take (white_len bytes) bytes) ≡ true
white_front [] = refl
white_front (b ∷ bytes) = go (is_ascii_whitespace b) refl (white_front bytes)
  where
    go : (t : Bool) → is_ascii_whitespace b ≡ t → is_white (take (white_len bytes) bytes) ≡ true
        → is_white (take (cond t (1 + white_len bytes) 0) (b ∷ bytes)) ≡ true
    go true e more = let one : 1 + white_len bytes ≡ suc (white_len bytes) = omega arith in rw (one, e) more
    go false e more = refl

-- what stands behind white space
pub past_white : (front rest : List ℕ) → is_white front ≡ true → white_len rest ≡ 0 → behind_white (front ++ rest) ≡ rest
past_white [] rest white none = ap (λ n. drop n rest) none
past_white (b ∷ front) rest white none =
    let parts = and_parts (is_ascii_whitespace b) (is_white front) white in
    go (is_ascii_whitespace b) parts.0 (past_white front rest parts.1 none)
  where
    go : (t : Bool) → t ≡ true → behind_white (front ++ rest) ≡ rest → drop (cond t (1 + white_len (front ++ rest)) 0) (b ∷ (front ++ rest)) ≡ rest
    go true e more = let one : 1 + white_len (front ++ rest) ≡ suc (white_len (front ++ rest)) = omega arith in rw one more
    go false e more = let bad : ⊥ = cc in absurd bad

pub all_white : (bytes : List ℕ) → is_white bytes ≡ true → behind_white bytes ≡ []
all_white bytes white = subst (λ l. behind_white l ≡ []) (append-nil bytes) (past_white bytes [] white refl)
