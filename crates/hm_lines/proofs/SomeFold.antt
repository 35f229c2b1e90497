-- Each line of text can be folded.
use Rattle.std.proofs.Common.{ℕ, zero, suc, ◌<◌, ◌≤◌, inl, inr, List, [], ◌∷◌, ◌++◌, length, take, drop, refl, arith}
use Rattle.std.specs.Prelude.{All}
use Rattle.std.specs.Str.{IsUtf8, IsCharBoundary}
use Rattle.std.proofs.lemmas.Bool.{cases_lt}
use Rattle.std.proofs.lemmas.Str.{IsUtf8-drop, IsCharBoundary-start}
use Rattle.std.proofs.lemmas.List.Elements.{All-head, All-tail}
use Rattle.hm_existence.specs.Existence.{IsThere}
use Rattle.hm_existence.proofs.Existence.{from_one, from_there, as_there, IsGreatest, greatest_there}
use Rattle.hm_lines.specs.Folding.{ArePieces, first_limit, further_limit, joined, IsFolded, AreFolded}
use Rattle.hm_lines.proofs.FoldedPieces.{is_longest, left_shorter}

-- a piece is cut off where the text is longer than the limit
module _ (limit : ℕ) (text : List ℕ) (room : 4 ≤ limit) (utf8 : IsUtf8 text) (long : limit < length text) (count : ℕ)
    (cut : IsGreatest (IsCharBoundary text) limit count) where
  nearest : (i : ℕ) → count < i → i ≤ limit → IsCharBoundary text i → ⊥
  nearest i more le here = let least = cut.greatest i le here in omega arith

  shorter : length (drop count text) < length text
  shorter = left_shorter limit text count cut.within cut.has nearest utf8 room long

  cut_pieces : (pieces : List (List ℕ)) → ArePieces further_limit (drop count text) pieces → ArePieces limit text (take count text ∷ pieces)
  cut_pieces [] are = absurd are
  cut_pieces (piece ∷ pieces) are = (long, (drop count text, (is_longest limit text count cut.within cut.has nearest, are)))

pieces_next : (n limit : ℕ) (text : List ℕ) → 4 ≤ limit → IsUtf8 text → length text < suc n
    → ((rest : List ℕ) → IsUtf8 rest → length rest < n → IsThere (ArePieces further_limit rest)) → IsThere (ArePieces limit text)
pieces_next n limit text room utf8 le fewer = elim (cases_lt limit (length text)) [
  | inl long ↦
      from_there (IsGreatest (IsCharBoundary text) limit) (ArePieces limit text)
      (greatest_there (IsCharBoundary text) limit (IsCharBoundary-start text utf8)) (λ count cut.
      let less = shorter limit text room utf8 long count cut in
      as_there (ArePieces further_limit (drop count text)) (ArePieces limit text) (λ pieces. take count text ∷ pieces)
      (fewer (drop count text) (IsUtf8-drop text count utf8 cut.has) (omega arith))
      (cut_pieces limit text room utf8 long count cut))
  | inr short ↦ from_one (ArePieces limit text) (text ∷ []) (short, refl)
]

pieces_there : (n limit : ℕ) (text : List ℕ) → 4 ≤ limit → IsUtf8 text → length text < n → IsThere (ArePieces limit text)
pieces_there zero limit text room utf8 le = absurd (omega arith)
pieces_there (suc n) limit text room utf8 le =
    pieces_next n limit text room utf8 le (λ rest u less. pieces_there n further_limit rest (omega arith) u less)

folded_there : (line : List ℕ) → IsUtf8 line → IsThere (IsFolded line)
folded_there line utf8 =
    as_there (ArePieces first_limit line) (IsFolded line) joined
    (pieces_there (suc (length line)) first_limit line (omega arith) utf8 (omega arith))
    (λ pieces are. record { pieces = pieces; cut = are; joins = refl })

pub all_folded_there : (lines : List (List ℕ)) → All IsUtf8 lines → IsThere (AreFolded lines)
all_folded_there [] utf8 = from_one (AreFolded []) [] refl
all_folded_there (line ∷ lines) utf8 =
    from_there (IsFolded line) (AreFolded (line ∷ lines)) (folded_there line (All-head IsUtf8 line lines utf8)) (λ first folded.
    as_there (AreFolded lines) (AreFolded (line ∷ lines)) (λ rest. first ++ rest) (all_folded_there lines (All-tail IsUtf8 line lines utf8))
    (λ rest are. (first, rest, folded, are, refl)))
