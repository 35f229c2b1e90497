-- What ends a card is no property.
use Rattle.std.proofs.Common.{◌≡◌, ℕ, ◌+◌, inl, inr, Bool, true, false, ◌||◌, List, [], ◌∷◌, map, Option, Some, refl, sym, ap, ◌∙◌, subst, arith}
use Rattle.std.specs.Char.{to_ascii_lowercase}
use Rattle.std.proofs.lemmas.List.Elements.{All-cons, All-nil}
use Rattle.std.proofs.lemmas.Slice.Eq.{bytes_eq-Decides}
use Rattle.hm_lines.specs.declared.content.LineParts.{LineParts}
use Rattle.hm_lines.specs.Content.{is_of_word, IsWord, IsContentLine}
use Rattle.hm_lines.proofs.Laws.{new_line, parted_once}
use Rattle.hm_lines_cards.specs.Lines.{is_of}
use Rattle.hm_vcard.specs.Cards.{IsProperty, is_frame, is_line, end_line}
use Rattle.hm_lines_files.specs.Components.{Bytes}
use Rattle.hm_vcard.specs.Opening.{IsOther}
use Rattle.hm_lines.proofs.LowerCase.{like, colon_like}

-- a letter, small or capital
letter : (b small capital : ℕ) → capital + 32 ≡ small → is_of_word small ≡ true → is_of_word capital ≡ true → to_ascii_lowercase b ≡ small → is_of_word b ≡ true
letter b small capital case one other e = elim (like b small e) [
  | inl same ↦ ap is_of_word same ∙ one
  | inr lower ↦ let same = lower.0 in let is : b ≡ capital = omega (arith, same, case) in ap is_of_word is ∙ other
]

-- one of three tests that holds
second_holds : (a b c : Bool) → b ≡ true → (a || (b || c)) ≡ false → ⊥
second_holds true b c e f = let bad : ⊥ = cc in bad
second_holds false true c e f = let bad : ⊥ = cc in bad
second_holds false false c e f = let bad : ⊥ = cc in bad

abbrev card_line : List ℕ
card_line = 118 ∷ 99 ∷ 97 ∷ 114 ∷ 100 ∷ []

module _ (a b c d : ℕ) (rest : List ℕ) (e : map to_ascii_lowercase (a ∷ b ∷ c ∷ d ∷ rest) ≡ 101 ∷ 110 ∷ 100 ∷ 58 ∷ card_line) where
  one : to_ascii_lowercase a ≡ 101
  one = cc

  two : to_ascii_lowercase b ≡ 110
  two = cc

  three : to_ascii_lowercase c ≡ 100
  three = cc

  four : to_ascii_lowercase d ≡ 58
  four = cc

  word : IsWord (a ∷ b ∷ c ∷ [])
  word = record {
    some = λ e. let bad : ⊥ = cc in bad;
    all = All-cons (λ x. is_of_word x ≡ true) a (b ∷ c ∷ []) (letter a 101 69 refl refl refl one)
        (All-cons (λ x. is_of_word x ≡ true) b (c ∷ []) (letter b 110 78 refl refl refl two)
        (All-cons (λ x. is_of_word x ≡ true) c [] (letter c 100 68 refl refl refl three) (All-nil (λ x. is_of_word x ≡ true))));
  }

  abbrev places : LineParts
  places = record { name_from = 0; name_to = 3; value_from = 4 }

  content : IsContentLine (a ∷ b ∷ c ∷ d ∷ rest) places
  content = subst (λ x. IsContentLine (a ∷ b ∷ c ∷ x ∷ rest) places) (sym (colon_like d four)) (new_line (a ∷ b ∷ c ∷ []) rest word)

  abbrev line : Bytes
  line = a ∷ b ∷ c ∷ d ∷ rest

  named : is_of (101 ∷ 110 ∷ 100 ∷ []) (line, Some places) ≡ true
  named = (bytes_eq-Decides (map to_ascii_lowercase (a ∷ b ∷ c ∷ [])) (101 ∷ 110 ∷ 100 ∷ [])).1 (λ i. one i ∷ two i ∷ three i ∷ [])

  ends_no : (parts : Option LineParts) → IsProperty (line, parts) → ⊥
  ends_no parts p =
      let are : parts ≡ Some places = p.are ∙ ap Some (parted_once line p.parts places p.content content) in
      second_holds _ _ _ named (sym (ap (λ (o : Option LineParts). is_frame (line, o)) are) ∙ p.free)

pub end_other : (line : Bytes) → is_line end_line line ≡ true → IsOther line
end_other line e = go line ((bytes_eq-Decides (map to_ascii_lowercase line) (map to_ascii_lowercase end_line)).0 e)
  where
    go : (line : Bytes) → map to_ascii_lowercase line ≡ 101 ∷ 110 ∷ 100 ∷ 58 ∷ card_line → IsOther line
    go [] e parts p = let bad : ⊥ = cc in bad
    go (a ∷ []) e parts p = let bad : ⊥ = cc in bad
    go (a ∷ b ∷ []) e parts p = let bad : ⊥ = cc in bad
    go (a ∷ b ∷ c ∷ []) e parts p = let bad : ⊥ = cc in bad
    go (a ∷ b ∷ c ∷ d ∷ rest) e parts p = ends_no a b c d rest e parts p

-- a content line that stands around properties is none, and neither is a line that is no content line
pub frame_other : (line : Bytes) (parts : LineParts) → IsContentLine line parts → is_frame (line, Some parts) ≡ true → IsOther line
frame_other line parts content frame others p =
    let are : others ≡ Some parts = p.are ∙ ap Some (parted_once line p.parts parts p.content content) in
    let free = sym (ap (λ (o : Option LineParts). is_frame (line, o)) are) ∙ p.free in
    let bad : ⊥ = cc in
    bad

pub unparted_other : (line : Bytes) → ((parts : LineParts) → ¬ (IsContentLine line parts)) → IsOther line
unparted_other _ none others p = none p.parts p.content
