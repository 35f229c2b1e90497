-- How a text of lines breaks into these.
use Rattle.std.proofs.Common.{◌≡◌, ℕ, zero, suc, ◌+◌, ◌-◌, ◌<◌, ◌≤◌, Bool, true, false, cond, List, [], ◌∷◌, ◌++◌, length, take, map, slice_index, inr, refl, sym, ap, ◌∙◌, arith}
use Rattle.std.specs.Prelude.{flat_map, nat_lt, ◌==◌, ◌&&◌}
use Rattle.std.specs.List.{Contains}
use Rattle.std.proofs.lemmas.Bool.{eq-eqb, ne_eqb, lt-ltb, ltb-true}
use Rattle.std.proofs.lemmas.List.{length-append}
use Rattle.std.proofs.Math.Seq.{take-append_seam}
use Rattle.bstr.specs.Text.{lines_of, no_cr, without_terminator}
use Rattle.bstr.proofs.lemmas.LineLemmas.{lines-append, lines-one, lines-nil}
use Rattle.hm_schema_lines.specs.Entries.{texts_of}
use Rattle.hm_schema_writer.specs.Writing.{ended}
use Rattle.hm_schema_writer.proofs.OneLine.{IsOneLine}

-- a byte of a line
byte_at : (line : List ℕ) (k : ℕ) → k < length line → IsOneLine line → 32 ≤ slice_index line k
byte_at [] k below h = absurd (omega (arith, below))
byte_at (b ∷ line) zero below h = h.0
byte_at (b ∷ line) (suc k) below h = byte_at line k (omega (arith, below)) h.1

last_byte : (line : List ℕ) → slice_index (line ++ 10 ∷ []) (length line) ≡ 10
last_byte [] = refl
last_byte (b ∷ line) = last_byte line

byte_before : (line rest : List ℕ) (k : ℕ) → k < length line → slice_index (line ++ rest) k ≡ slice_index line k
byte_before [] rest k below = absurd (omega (arith, below))
byte_before (b ∷ line) rest zero below = refl
byte_before (b ∷ line) rest (suc k) below = byte_before line rest k (omega (arith, below))

module _ (line : List ℕ) (h : IsOneLine line) where
  long : length (ended line) ≡ length line + 1
  long = length-append line (10 ∷ [])

  last_place : length (ended line) - 1 ≡ length line
  last_place = omega (arith, long)

  ends : slice_index (ended line) (length (ended line) - 1) ≡ 10
  ends = ap (slice_index (ended line)) last_place ∙ last_byte line

  one_line : lines_of (ended line) ≡ ended line ∷ []
  one_line = lines-one (ended line) (omega (arith, long)) (λ k below feed.
      let within : k < length line = omega (arith, below, long) in
      let large = byte_at line k within h in
      let same = sym (byte_before line (10 ∷ []) k within) ∙ feed in
      omega (arith, large, same))

  no_return : no_cr line ≡ line
  no_return = go (nat_lt 0 (length line)) refl
    where
      go : (b : Bool) → nat_lt 0 (length line) ≡ b → no_cr line ≡ line
      go false e = ap (λ (b : Bool). cond (b && slice_index line (length line - 1) == 13) (take (length line - 1) line) line) e
      go true e =
          let some = ltb-true 0 (length line) e in
          let large = byte_at line (length line - 1) (omega (arith, some)) h in
          ap (λ (b : Bool). cond (b && slice_index line (length line - 1) == 13) (take (length line - 1) line) line) e
          ∙ ap (λ (b : Bool). cond b (take (length line - 1) line) line)
          (ne_eqb (slice_index line (length line - 1)) 13 (λ same. omega (arith, large, same)))

  bare : without_terminator (ended line) ≡ line
  bare =
      ap (λ (z : Bool). cond z (no_cr (take (length (ended line) - 1) (ended line))) (ended line)) both
      ∙ ap no_cr (ap (λ n. take n (ended line)) last_place ∙ take-append_seam line (10 ∷ []))
      ∙ no_return
    where
      both : (nat_lt 0 (length (ended line)) && slice_index (ended line) (length (ended line) - 1) == 10) ≡ true
      both =
          ap (λ (b : Bool). b && slice_index (ended line) (length (ended line) - 1) == 10) (lt-ltb 0 (length (ended line)) (omega (arith, long)))
          ∙ eq-eqb (slice_index (ended line) (length (ended line) - 1)) 10 ends

  text_first : (rest : List ℕ) → texts_of (ended line ++ rest) ≡ line ∷ texts_of rest
  text_first rest =
      ap (map without_terminator) (lines-append (length (ended line)) (ended line) rest (omega arith) (inr ends) ∙ ap (λ z. z ++ lines_of rest) one_line)
      ∙ ap (λ z. z ∷ texts_of rest) bare

-- each stands on one line
abbrev pub AreOneLine : List (List ℕ) → Type 0
AreOneLine [] = Unit {0}
AreOneLine (line ∷ lines) = IsOneLine line × AreOneLine lines

pub lines_both : (xs ys : List (List ℕ)) → AreOneLine xs → AreOneLine ys → AreOneLine (xs ++ ys)
lines_both [] ys h k = k
lines_both (x ∷ xs) ys h k = (h.0, lines_both xs ys h.1 k)

pub lines_each : {X : Type 0} (f : X → List ℕ) (xs : List X) → ((x : X) → Contains xs x → IsOneLine (f x)) → AreOneLine (map f xs)
lines_each f [] h = tt
lines_each f (x ∷ xs) h = (h x (0, omega arith, refl), lines_each f xs (λ y c. h y (suc c.0, omega (arith, c.1), c.2)))

pub texts_are : (lines : List (List ℕ)) → AreOneLine lines → texts_of (flat_map ended lines) ≡ lines
texts_are [] h = ap (map without_terminator) lines-nil
texts_are (line ∷ lines) h = text_first line h.0 (flat_map ended lines) ∙ ap (λ z. line ∷ z) (texts_are lines h.1)
