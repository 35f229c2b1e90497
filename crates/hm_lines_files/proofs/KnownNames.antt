-- Names and lines that are known: what a test says of all their bytes holds of them.
use Rattle.std.proofs.Common.{◌≡◌, ◌≢◌, ℕ, Bool, true, false, List, [], ◌∷◌, get_or, refl}
use Rattle.std.specs.Prelude.{All, IsUtf8, not}
use Rattle.std.specs.Bool.{◌==◌, nat_lt}
use Rattle.std.specs.Char.{is_ascii_lowercase}
use Rattle.std.specs.List.{list_all}
use Rattle.std.specs.Str.{bytes_eq}
use Rattle.std.proofs.lemmas.Bool.{and_parts, ltb-true}
use Rattle.std.proofs.lemmas.List.Elements.{All-nil, All-cons}
use Rattle.std.proofs.lemmas.Slice.Eq.{bytes_eq-Decides}
use Rattle.std.proofs.lemmas.Str.{IsUtf8-from_ascii}
use Rattle.std.proofs.lemmas.Str.Ascii.{IsAscii-from_all}
use Rattle.hm_tree.specs.Names.{Name}
use Rattle.hm_lines.specs.Unfolding.{feed, begins_with_blank}
use Rattle.hm_lines.specs.Folding.{IsPlain}
use Rattle.hm_lines.specs.Content.{is_of_word, IsWord}
use Rattle.hm_book_cards.specs.Cards.{Shown}
use Rattle.hm_lines_cards.specs.Lines.{IsCapital}
use Rattle.hm_lines_cards.specs.Rewriting.{Property}

pub all_true : {X : Type 0} (test : X → Bool) (xs : List X) → list_all test xs ≡ true → All (λ x. test x ≡ true) xs
all_true test [] e = All-nil (λ x. test x ≡ true)
all_true test (x ∷ xs) e =
    let parts = and_parts (test x) (list_all test xs) e in
    All-cons (λ x. test x ≡ true) x xs parts.0 (all_true test xs parts.1)

pub not_true : (b : Bool) → not b ≡ true → b ≡ false
not_true true e = let bad : ⊥ = cc in absurd bad
not_true false e = refl

all_false : {X : Type 0} (test : X → Bool) (xs : List X) → list_all (λ x. not (test x)) xs ≡ true → All (λ x. test x ≡ false) xs
all_false test xs e i d lt = not_true (test (get_or xs i d)) (all_true (λ x. not (test x)) xs e i d lt)

-- ---- names

pub word : (b : ℕ) (k : Name) → list_all is_of_word (b ∷ k) ≡ true → IsWord (b ∷ k)
word b k e = record { some = λ none. let bad : ⊥ = cc in bad; all = all_true is_of_word (b ∷ k) e }

pub capital : (k : Name) → list_all (λ b. not (is_ascii_lowercase b)) k ≡ true → All IsCapital k
capital k e = all_false is_ascii_lowercase k e

-- names that are apart from another one
pub all_apart : (key : Name) (ps : Shown) → list_all (λ p. not (bytes_eq p.0 key)) ps ≡ true → All (λ (p : Property). p.0 ≢ key) ps
all_apart key ps e i d lt same =
    let one = all_true (λ p. not (bytes_eq p.0 key)) ps e i d lt in
    let two : bytes_eq (get_or ps i d).0 key ≡ true = (bytes_eq-Decides (get_or ps i d).0 key).1 same in
    let bad : ⊥ = cc in
    bad

-- ---- lines

-- a line of ASCII that can be written
pub sound_line : (line : Name) → list_all (λ b. not (b == feed)) line ≡ true → begins_with_blank line ≡ false → list_all (λ b. nat_lt b 128) line ≡ true
    → IsPlain line × IsUtf8 line
sound_line line feeds blank ascii = (
  record { no_feed = all_false (λ b. b == feed) line feeds; no_blank = blank },
  IsUtf8-from_ascii line (IsAscii-from_all line (λ i d lt. ltb-true (get_or line i d) 128 (all_true (λ b. nat_lt b 128) line ascii i d lt))),
)
