-- Lines that aren't empty, one by one, as the code goes over them.
use Rattle.std.proofs.Common.{◌≡◌, ℕ, zero, suc, ◌<◌, ◌≤◌, true, false, cond, List, [], ◌∷◌, ◌++◌, length, take, drop, refl, sym, ap, ◌∙◌, arith}
use Rattle.std.specs.Prelude.{All}
use Rattle.std.specs.Borrow.{Bor}
use Rattle.std.proofs.lemmas.List.{map-append, append_assoc}
use Rattle.std.proofs.lemmas.List.Elements.{All-head, All-tail}
use Rattle.hm_lines.specs.declared.unfolding.FirstLine.{FirstLine}
use Rattle.hm_lines.specs.Unfolding.{lines, IsFirstLine}
use Rattle.hm_lines_files.specs.Components.{Bytes}
use Rattle.hm_lines_files.specs.Forms.{is_full}
use Rattle.hm_lines_files.specs.Files.{full}
use Rattle.hm_lines_files.specs.Lent.{texts}

some_full : (n : ℕ) (bytes : Bytes) → 0 < n → n ≤ length bytes → is_full (take n bytes) ≡ true
some_full zero bytes some within = absurd (omega (arith, some))
some_full (suc n) [] some within = absurd (omega (arith, within))
some_full (suc n) (b ∷ bytes) some within = refl

module _ (bytes : Bytes) (line : FirstLine) (is : IsFirstLine bytes line) where
  pub first_full : 0 < line.to → is_full (take line.to bytes) ≡ true
  first_full some = let ends = is.ends in let within = is.within in some_full line.to bytes some (omega (arith, ends, within))

  pub first_empty : line.to ≡ 0 → is_full (take line.to bytes) ≡ false
  first_empty none = ap (λ n. is_full (take n bytes)) none

  full_as : full (lines bytes) ≡ cond (is_full (take line.to bytes)) (take line.to bytes ∷ full (lines (drop line.next bytes))) (full (lines (drop line.next bytes)))
  full_as = ap full is.lines

  -- one more is found, or none
  module _ (found : List Bytes) where
    pub one_found : 0 < line.to → (found ++ take line.to bytes ∷ []) ++ full (lines (drop line.next bytes)) ≡ found ++ full (lines bytes)
    one_found some =
        append_assoc found (take line.to bytes ∷ []) (full (lines (drop line.next bytes)))
        ∙ ap (λ ls. found ++ ls)
        (sym (full_as ∙ ap (λ b. cond b (take line.to bytes ∷ full (lines (drop line.next bytes))) (full (lines (drop line.next bytes)))) (first_full some)))

    pub none_found : line.to ≡ 0 → found ++ full (lines (drop line.next bytes)) ≡ found ++ full (lines bytes)
    none_found none =
        ap (λ ls. found ++ ls)
        (sym (full_as ∙ ap (λ b. cond b (take line.to bytes ∷ full (lines (drop line.next bytes))) (full (lines (drop line.next bytes)))) (first_empty none)))

pub text_pushed : (found new : List (Bor Bytes)) (line : Bor Bytes) → new ≡ found ++ line ∷ [] → texts new ≡ texts found ++ line.now ∷ []
text_pushed found new line e = ap texts e ∙ map-append (λ (l : Bor Bytes). l.now) found (line ∷ [])

abbrev pub IsFull : Bytes → Type 0
IsFull line = is_full line ≡ true

pub full_all : (lines : List Bytes) → All IsFull lines → full lines ≡ lines
full_all [] all = refl
full_all (l ∷ lines) all =
    ap (λ b. cond b (l ∷ full lines) (full lines)) (All-head IsFull l lines all)
    ∙ ap (λ (ls : List Bytes). l ∷ ls) (full_all lines (All-tail IsFull l lines all))
