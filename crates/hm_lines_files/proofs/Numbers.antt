-- Numbers of lines.
use Rattle.std.proofs.Common.{◌≡◌, ℕ, ◌+◌, ◌<◌, ◌≤◌, inl, inr, cond, List, [], ◌∷◌, ◌++◌, length, take, drop, refl, sym, ap, ◌∙◌, arith}
use Rattle.std.proofs.lemmas.List.{append_assoc, append-nil, length-append, length-drop}
use Rattle.std.proofs.lemmas.List.Elements.{filter-append}
use Rattle.hm_lines.specs.declared.unfolding.FirstLine.{FirstLine}
use Rattle.hm_lines.specs.Unfolding.{lines, IsFirstLine}
use Rattle.hm_lines_files.specs.Components.{Bytes}
use Rattle.hm_lines_files.specs.Forms.{is_full}
use Rattle.hm_lines_files.specs.Files.{full}
use Rattle.hm_lines_files.specs.Stops.{IsNumberOf}
use Rattle.hm_lines_files.proofs.FullLines.{first_full, first_empty}

-- bytes begin with lines before a rest, whose first line has a number; so many of those behind it that aren't empty are left
-- before the one at a place
pub record IsCounted (bytes rest : Bytes) (place number left : ℕ) : Type 0 where
  pub before : List Bytes
  pub parts : lines bytes ≡ before ++ lines rest
  pub numbered : number ≡ length before + 1
  pub counted : place ≡ length (full before) + left
  pub room : length before + length rest ≤ length bytes

pub none_counted : (bytes : Bytes) (place : ℕ) → IsCounted bytes bytes place 1 place
none_counted bytes place = record { before = []; parts = refl; numbered = omega arith; counted = omega arith; room = omega arith }

module _ (bytes rest : Bytes) (place number left : ℕ) (so_far : IsCounted bytes rest place number left) where
  module _ (line : FirstLine) (is : IsFirstLine rest line) where
    abbrev first : Bytes
    first = take line.to rest

    -- one line more, behind which so many are left
    one_counted : (less : ℕ) → length (full (so_far.before ++ first ∷ [])) + less ≡ length (full so_far.before) + left
        → IsCounted bytes (drop line.next rest) place (number + 1) less
    one_counted less same =
        let numbered = so_far.numbered in
        let counted = so_far.counted in
        let room = so_far.room in
        let more = length-append so_far.before (first ∷ []) in
        let len = length-drop line.next rest in
        let some = is.some in
        let within = is.within in
        record {
          before = so_far.before ++ first ∷ [];
          parts = so_far.parts ∙ ap (λ (ls : List Bytes). so_far.before ++ ls) (is.lines) ∙ sym (append_assoc so_far.before (first ∷ []) (lines (drop line.next rest)));
          numbered = omega (arith, numbered, more);
          counted = omega (arith, counted, same);
          room = omega (arith, room, more, len, some, within);
        }

    all_full : full (so_far.before ++ first ∷ []) ≡ full so_far.before ++ cond (is_full first) (first ∷ []) []
    all_full = filter-append is_full so_far.before (first ∷ [])

    pub left_empty : line.to ≡ 0 → IsCounted bytes (drop line.next rest) place (number + 1) left
    left_empty none =
        let plain : full (so_far.before ++ first ∷ []) ≡ full so_far.before =
        all_full ∙ ap (λ b. full so_far.before ++ cond b (first ∷ []) []) (first_empty rest line is none) ∙ append-nil (full so_far.before) in
        one_counted left (ap (λ (ls : List Bytes). length ls + left) plain)

    pub left_full : 0 < line.to → (less : ℕ) → less + 1 ≡ left → IsCounted bytes (drop line.next rest) place (number + 1) less
    left_full some less one =
        let filled = all_full ∙ ap (λ b. full so_far.before ++ cond b (first ∷ []) []) (first_full rest line is some) in
        let len = ap length filled ∙ length-append (full so_far.before) (first ∷ []) in
        one_counted less (omega (arith, len, one))

    pub found_here : 0 < line.to → left ≡ 0 → IsNumberOf (lines bytes) place number
    found_here some none =
        let counted = so_far.counted in
        inl (record {
          before = so_far.before;
          line = first;
          after = lines (drop line.next rest);
          stand = so_far.parts ∙ ap (λ (ls : List Bytes). so_far.before ++ ls) (is.lines);
          filled = first_full rest line is some;
          counted = omega (arith, counted, none);
          number_is = so_far.numbered;
        })

  pub past : rest ≡ [] → IsNumberOf (lines bytes) place number
  past end =
      let whole = so_far.parts ∙ ap (λ (b : Bytes). so_far.before ++ lines b) end ∙ append-nil so_far.before in
      let counted = so_far.counted in
      let few = ap (λ (ls : List Bytes). length (full ls)) whole in
      inr (record { few = omega (arith, counted, few); number_is = so_far.numbered ∙ ap (λ (ls : List Bytes). length ls + 1) (sym whole) })
