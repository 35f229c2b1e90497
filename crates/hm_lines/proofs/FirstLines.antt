-- The first line of bytes.
use Rattle.std.proofs.Common.{◌≡◌, ℕ, suc, ◌+◌, ◌<◌, ◌≤◌, inl, inr, false, List, [], ◌∷◌, ◌++◌, length, take, drop, map, get_or, Some, None, refl, sym, ap, ◌∙◌, subst, arith}
use Rattle.std.specs.Bool.{◌==◌}
use Rattle.std.specs.List.{onto_first}
use Rattle.std.specs.Str.{IsUtf8, IsCharBoundary}
use Rattle.std.proofs.lemmas.Bool.{eqb-true}
use Rattle.std.proofs.lemmas.List.{append-nil, append_assoc, length-append, get_or_at, take_at}
use Rattle.std.proofs.Math.Seq.{drop-length}
use Rattle.std.proofs.lemmas.Str.{IsCharBoundary-end, IsCharBoundary-before_ascii, IsCharBoundary-after_ascii}
use Rattle.memchr.specs.Find.{IsFirstByte, is_byte}
use Rattle.hm_lines.specs.Unfolding.{feed, return, cut, lines, without_return, IsFirstLine}
use Rattle.hm_lines.specs.Folding.{HasNone}
use Rattle.hm_lines.proofs.Found.{none_found, is_found, found_within, found_length}
use Rattle.hm_lines.proofs.Returns.{stays_or_goes}

-- a line that ends at a line feed
pub cut_line : (chunk t : List ℕ) → HasNone feed chunk → cut (chunk ++ feed ∷ t) ≡ chunk ∷ cut t
cut_line [] t none = refl
cut_line (b ∷ chunk) t none =
    let e : (b == feed) ≡ false = none 0 b (omega arith) in
    rw e (ap (onto_first b) (cut_line chunk t (λ k d lt. none (suc k) d (omega arith))))

-- a line without one
pub cut_rest : (line : List ℕ) → 0 < length line → HasNone feed line → cut line ≡ line ∷ []
cut_rest [] some none = absurd (omega (arith, some))
cut_rest (b ∷ []) some none = let e : (b == feed) ≡ false = none 0 b (omega arith) in rw e refl
cut_rest (b ∷ c ∷ line) some none =
    let e : (b == feed) ≡ false = none 0 b (omega arith) in
    rw e (ap (onto_first b) (cut_rest (c ∷ line) (omega arith) (λ k d lt. none (suc k) d (omega arith))))

-- ---- what stays of a piece without its carriage return

-- it stands at the beginning, whatever stands behind the piece
begins : (piece tail : List ℕ) → take (length (without_return piece)) (piece ++ tail) ≡ without_return piece
begins piece tail = elim (stays_or_goes piece) [
  | inl same ↦ ap (λ (l : List ℕ). take (length l) (piece ++ tail)) same ∙ take_at piece tail (length piece) refl ∙ sym same
  | inr goes ↦
      (λ i. take (length (goes.is i)) (goes.parts i ++ tail))
      ∙ ap (take (length goes.front)) (append_assoc goes.front (return ∷ []) tail)
      ∙ take_at goes.front (return ∷ tail) (length goes.front) refl
      ∙ sym goes.is
]

shorter : (piece : List ℕ) → length (without_return piece) ≤ length piece
shorter piece = elim (stays_or_goes piece) [
  | inl same ↦ let is = ap length same in omega (arith, is)
  | inr goes ↦
      let is = ap length goes.is in
      let all = ap length goes.parts ∙ length-append goes.front (return ∷ []) in
      omega (arith, is, all)
]

-- ---- characters

-- a text may end before an ASCII byte
pub ends_before : (front : List ℕ) (b : ℕ) (rest : List ℕ) → b < 128 → IsCharBoundary (front ++ b ∷ rest) (length front)
ends_before front b rest low =
    IsCharBoundary-before_ascii (front ++ b ∷ rest) (length front)
    (let more = length-append front (b ∷ rest) in omega (arith, more))
    (subst (λ x. x < 128) (sym (get_or_at front b rest 0 (length front) refl)) low)

-- and where a carriage return goes, before what stands behind it
line_ends : (piece tail : List ℕ) → IsCharBoundary (piece ++ tail) (length piece) → IsCharBoundary (piece ++ tail) (length (without_return piece))
line_ends piece tail whole = elim (stays_or_goes piece) [
  | inl same ↦ subst (λ (l : List ℕ). IsCharBoundary (piece ++ tail) (length l)) (sym same) whole
  | inr goes ↦
      subst (λ (l : List ℕ). IsCharBoundary (piece ++ tail) (length l)) (sym goes.is)
      (subst (λ l. IsCharBoundary l (length goes.front)) (sym (append_assoc goes.front (return ∷ []) tail) ∙ ap (λ l. l ++ tail) (sym goes.parts))
      (ends_before goes.front return tail (omega arith)))
]

-- ---- the first line

module _ (bytes : List ℕ) where
  -- one that ends at a line feed
  module _ (at : ℕ) (found : IsFirstByte (is_byte feed) bytes (Some at)) where
    stands : bytes ≡ take at bytes ++ feed ∷ drop (at + 1) bytes
    stands = (is_found feed bytes at found).parts

    pub ended_line : (to : ℕ) → to ≡ length (without_return (take at bytes)) → IsFirstLine bytes (record { to = to; next = at + 1 })
    ended_line to is =
        let len = found_length feed bytes at found in
        let less = shorter (take at bytes) in
        let within = found_within feed bytes at found in
        record {
          lines =
              ap lines stands
              ∙ ap (map without_return) (cut_line (take at bytes) (drop (at + 1) bytes) (is_found feed bytes at found).none)
              ∙ ap (λ (l : List ℕ). l ∷ lines (drop (at + 1) bytes))
              (sym (begins (take at bytes) (feed ∷ drop (at + 1) bytes)) ∙ (λ i. take (sym is i) (sym stands i)));
          ends = omega (arith, is, len, less);
          some = omega arith;
          within = omega (arith, within);
        }

    pub ended_characters : IsUtf8 bytes → (to : ℕ) → to ≡ length (without_return (take at bytes)) → IsCharBoundary bytes to × IsCharBoundary bytes (at + 1)
    ended_characters u to is =
        let low = eqb-true (get_or bytes at 0) feed found.1 in (
          subst (IsCharBoundary bytes) (sym is)
              (subst (λ l. IsCharBoundary l (length (without_return (take at bytes)))) (sym stands)
              (line_ends (take at bytes) (feed ∷ drop (at + 1) bytes) (ends_before (take at bytes) feed (drop (at + 1) bytes) (omega arith)))),
          IsCharBoundary-after_ascii bytes at u (found_within feed bytes at found) (omega (arith, low)),
        )

  -- the last one, that has no line feed
  module _ (some : 0 < length bytes) (none : IsFirstByte (is_byte feed) bytes None) where
    pub last_line : (to : ℕ) → to ≡ length (without_return bytes) → IsFirstLine bytes (record { to = to; next = length bytes })
    last_line to is =
        let less = shorter bytes in
        record {
          lines =
              ap (map without_return) (cut_rest bytes some (none_found feed bytes none))
              ∙ (λ i. line i ∷ lines (sym (drop-length bytes) i));
          ends = omega (arith, is, less);
          some = some;
          within = omega arith;
        }
      where
        line : without_return bytes ≡ take to bytes
        line = sym (begins bytes []) ∙ (λ i. take (sym is i) (append-nil bytes i))

    pub last_characters : (to : ℕ) → to ≡ length (without_return bytes) → IsCharBoundary bytes to × IsCharBoundary bytes (length bytes)
    last_characters to is = (
      subst (IsCharBoundary bytes) (sym is)
          (subst (λ l. IsCharBoundary l (length (without_return bytes))) (append-nil bytes)
          (line_ends bytes [] (subst (λ l. IsCharBoundary l (length bytes)) (sym (append-nil bytes)) (IsCharBoundary-end bytes)))),
      IsCharBoundary-end bytes,
    )
