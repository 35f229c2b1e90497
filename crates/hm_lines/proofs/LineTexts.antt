-- The lines of UTF-8 are UTF-8.
use Rattle.std.proofs.Common.{◌≡◌, ◌⊎◌, ℕ, zero, suc, ◌+◌, ◌<◌, ◌≤◌, inl, inr, Bool, true, false, List, [], ◌∷◌, ◌++◌, length, get_or, drop, All, refl, sym, ap, ◌∙◌, subst, arith}
use Rattle.std.specs.Bool.{◌==◌}
use Rattle.std.specs.Str.{IsUtf8}
use Rattle.std.proofs.lemmas.Bool.{eqb-true}
use Rattle.std.proofs.lemmas.List.{length-map, get_or-map, length-append, take_at, get_or_at, append_assoc}
use Rattle.std.proofs.lemmas.List.Elements.{All-cons}
use Rattle.std.proofs.lemmas.Str.{IsUtf8-take, IsUtf8-drop, IsCharBoundary-after_ascii}
use Rattle.std.proofs.Math.Seq.{drop-append_seam}
use Rattle.hm_lines.specs.Unfolding.{feed, return, cut, lines, without_return}
use Rattle.hm_lines.specs.Folding.{HasNone}
use Rattle.hm_lines.proofs.FirstLines.{cut_line, cut_rest, ends_before}
use Rattle.hm_lines.proofs.Returns.{stays_or_goes}

-- what stands before the first line feed, and behind it
record IsEnded (bytes : List ℕ) : Type 0 where
  chunk : List ℕ
  tail : List ℕ
  none : HasNone feed chunk
  parts : bytes ≡ chunk ++ feed ∷ tail

ended_or_not : (bytes : List ℕ) → HasNone feed bytes ⊎ IsEnded bytes
ended_or_not [] = inl (λ k d lt. absurd (omega (arith, lt)))
ended_or_not (b ∷ bytes) = go (b == feed) refl (ended_or_not bytes)
  where
    go : (c : Bool) → (b == feed) ≡ c → HasNone feed bytes ⊎ IsEnded bytes → HasNone feed (b ∷ bytes) ⊎ IsEnded (b ∷ bytes)
    go true is later =
        inr (record { chunk = []; tail = bytes; none = λ k d lt. absurd (omega (arith, lt)); parts = ap (λ x. x ∷ bytes) (eqb-true b feed is) })
    go false is (inl none) = inl (All-cons (λ x. (x == feed) ≡ false) b bytes is none)
    go false is (inr ended) =
        inr (record {
          chunk = b ∷ ended.chunk;
          tail = ended.tail;
          none = All-cons (λ x. (x == feed) ≡ false) b ended.chunk is ended.none;
          parts = ap (λ l. b ∷ l) ended.parts;
        })

-- UTF-8 is, before and behind a byte of ASCII
module _ (front : List ℕ) (b : ℕ) (rest : List ℕ) (low : b < 128) (u : IsUtf8 (front ++ b ∷ rest)) where
  front_utf8 : IsUtf8 front
  front_utf8 =
      subst IsUtf8 (take_at front (b ∷ rest) (length front) refl) (IsUtf8-take (front ++ b ∷ rest) (length front) u (ends_before front b rest low))

  seam : drop (length front + 1) (front ++ b ∷ rest) ≡ rest
  seam =
      let len : length front + 1 ≡ length (front ++ b ∷ []) = sym (length-append front (b ∷ [])) in
      (λ i. drop (len i) (sym (append_assoc front (b ∷ []) rest) i)) ∙ drop-append_seam (front ++ b ∷ []) rest

  rest_utf8 : IsUtf8 rest
  rest_utf8 =
      let all = length-append front (b ∷ rest) in
      subst IsUtf8 seam
      (IsUtf8-drop (front ++ b ∷ rest) (length front + 1) u
      (IsCharBoundary-after_ascii (front ++ b ∷ rest) (length front) u (omega (arith, all))
      (subst (λ x. x < 128) (sym (get_or_at front b rest 0 (length front) refl)) low)))

pieces_utf8 : (n : ℕ) (bytes : List ℕ) → length bytes ≤ n → IsUtf8 bytes → All IsUtf8 (cut bytes)
pieces_utf8 n [] le u = λ k d lt. absurd (omega (arith, lt))
pieces_utf8 zero (b ∷ bytes) le u = absurd (omega (arith, le))
pieces_utf8 (suc n) (b ∷ bytes) le u = elim (ended_or_not (b ∷ bytes)) [
  | inl none ↦
      subst (All IsUtf8) (sym (cut_rest (b ∷ bytes) (omega arith) none)) (All-cons IsUtf8 (b ∷ bytes) [] u (λ k d lt. absurd (omega (arith, lt))))
  | inr ended ↦
      let whole = subst IsUtf8 ended.parts u in
      let all = ap length ended.parts ∙ length-append ended.chunk (feed ∷ ended.tail) in
      subst (All IsUtf8) (sym (ap cut ended.parts ∙ cut_line ended.chunk ended.tail ended.none))
      (All-cons IsUtf8 ended.chunk (cut ended.tail) (front_utf8 ended.chunk feed ended.tail (omega arith) whole)
      (pieces_utf8 n ended.tail (omega (arith, le, all)) (rest_utf8 ended.chunk feed ended.tail (omega arith) whole)))
]

return_utf8 : (bytes : List ℕ) → IsUtf8 bytes → IsUtf8 (without_return bytes)
return_utf8 bytes u = elim (stays_or_goes bytes) [
  | inl same ↦ subst IsUtf8 (sym same) u
  | inr goes ↦ subst IsUtf8 (sym goes.is) (front_utf8 goes.front return [] (omega arith) (subst IsUtf8 goes.parts u))
]

-- the lines of UTF-8 are UTF-8
pub lines_utf8 : (bytes : List ℕ) → IsUtf8 bytes → All IsUtf8 (lines bytes)
lines_utf8 bytes u i d lt =
    let same = length-map (cut bytes) without_return in
    let here : i < length (cut bytes) = omega (arith, lt, same) in
    subst IsUtf8 (sym (get_or-map without_return (cut bytes) i d d here))
    (return_utf8 (get_or (cut bytes) i d) (pieces_utf8 (length bytes) bytes (omega arith) u i d here))
