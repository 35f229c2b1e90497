-- Lines that are lent, one by one.
use Rattle.std.proofs.Common.{◌≡◌, ◌↔◌, ℕ, ◌≤◌, Bool, true, false, List, length, map, slice_get, Option, Some, None, refl, sym, ap, ◌∙◌, arith}
use Rattle.std.specs.Prelude.{IsTrue}
use Rattle.std.specs.Borrow.{Bor}
use Rattle.std.specs.Char.{to_ascii_lowercase}
use Rattle.std.proofs.lemmas.List.{length-map}
use Rattle.std.proofs.lemmas.Option.{slice_get-map, slice_get_within, same_Some}
use Rattle.std.proofs.lemmas.Slice.Eq.{bytes_eq-Decides}
use Rattle.hm_vcard.specs.Cards.{is_line}
use Rattle.hm_lines_files.specs.Components.{Bytes}
use Rattle.hm_lines_files.specs.Lent.{texts}

-- ---- one of them

pub read_text : (lines : List (Bor Bytes)) (place : ℕ) (line : Bor Bytes) → slice_get lines place ≡ Some line → slice_get (texts lines) place ≡ Some line.now
read_text lines place line at = slice_get-map (λ (l : Bor Bytes). l.now) lines place ∙ ap (λ (o : Option (Bor Bytes)). map_now o) at
  where
    map_now : Option (Bor Bytes) → Option Bytes
    map_now None = None
    map_now (Some l) = Some l.now

-- ---- a certain line

line_is : (wanted line : Bytes) (b : Bool) → (IsTrue b ↔ (map to_ascii_lowercase line ≡ map to_ascii_lowercase wanted)) → is_line wanted line ≡ b
line_is wanted line b t = go b (is_line wanted line) refl t (bytes_eq-Decides (map to_ascii_lowercase line) (map to_ascii_lowercase wanted))
  where
    go : (b x : Bool) → is_line wanted line ≡ x → (IsTrue b ↔ (map to_ascii_lowercase line ≡ map to_ascii_lowercase wanted))
        → (is_line wanted line ≡ true ↔ (map to_ascii_lowercase line ≡ map to_ascii_lowercase wanted)) → is_line wanted line ≡ b
    go true x e t d = d.1 (t.0 refl)
    go false true e t d = let yes = t.1 (d.0 e) in let bad : ⊥ = cc in absurd bad
    go false false e t d = e

pub line_yes : (wanted line : Bytes) (b : Bool) → (IsTrue b ↔ (map to_ascii_lowercase line ≡ map to_ascii_lowercase wanted)) → b ≡ true → is_line wanted line ≡ true
line_yes wanted line b t e = line_is wanted line b t ∙ e

pub line_no : (wanted line : Bytes) (b : Bool) → (IsTrue b ↔ (map to_ascii_lowercase line ≡ map to_ascii_lowercase wanted)) → b ≡ false → is_line wanted line ≡ false
line_no wanted line b t e = line_is wanted line b t ∙ e

-- the line at a place is one alone
pub same_at : (lines : List Bytes) (place : ℕ) (one other : Bytes) → slice_get lines place ≡ Some one → slice_get lines place ≡ Some other → one ≡ other
same_at lines place one other e f = same_Some one other (sym e ∙ f)

-- there is no line behind all
pub past_none : {A : Type 0} (lines : List (Bor Bytes)) (place : ℕ) → length lines ≤ place → (line : Bytes) → slice_get (texts lines) place ≡ Some line → A
past_none lines place end line at =
    let lt = slice_get_within (texts lines) place line at in
    let same = length-map lines (λ (l : Bor Bytes). l.now) in
    absurd (omega (arith, lt, same, end))
