-- A note without the white space at its end, the spaces before a line, and lines behind bytes.
use Rattle.std.proofs.Common.{◌≡◌, ℕ, zero, suc, ◌+◌, ◌*◌, ◌-◌, ◌<◌, ◌≤◌, true, false, cond, List, [], ◌∷◌, ◌++◌, take, length, replicate, codes, refl, sym, ap, ◌∙◌, subst, append_assoc, arith}
use Rattle.std.specs.Prelude.{slice_index}
use Rattle.std.specs.Char.{is_ascii_whitespace}
use Rattle.std.specs.Str.{IsAsciiWhitespaceFrom, IsTrimAsciiEnd}
use Rattle.std.proofs.lemmas.Bool.{and_from}
use Rattle.std.proofs.lemmas.List.{replicate-append-replicate}
use Rattle.std.proofs.lemmas.List.Folds.{list_all_at}
use Rattle.hm_marks_tokens.specs.Bytes.{is_white}
use Rattle.hm_marks_tokens.specs.Lines.{links, notes, indent}
use Rattle.hm_netscape_entries.specs.Written.{trimmed}
use Rattle.hm_netscape_lines.specs.Behind.{AreBehind}

-- ---- notes

all_white : (s : List ℕ) → IsAsciiWhitespaceFrom s 0 → is_white s ≡ true
all_white [] all = refl
all_white (b ∷ s) all =
    and_from (is_ascii_whitespace b) (is_white s) (all 0 (omega arith) (omega arith))
    (all_white s (λ i le lt. all (suc i) (omega arith) (omega (arith, lt))))

some_black : (s : List ℕ) (n : ℕ) → n < length s → is_ascii_whitespace (slice_index s n) ≡ false → is_white s ≡ false
some_black s n lt black = list_all_at is_ascii_whitespace s n 0 lt black

trimmed_at : (s : List ℕ) (n : ℕ) → n ≤ length s → IsAsciiWhitespaceFrom s n → (0 < n → is_ascii_whitespace (slice_index s (n - 1)) ≡ false) → take n s ≡ trimmed s
trimmed_at [] zero le white black = refl
trimmed_at [] (suc n) le white black = refl
trimmed_at (b ∷ s) zero le white black = sym (ap (λ t. cond t [] (b ∷ trimmed s)) (all_white (b ∷ s) white))
trimmed_at (b ∷ s) (suc n) le white black =
    ap (λ l. b ∷ l) (trimmed_at s n (omega (arith, le)) (λ i le lt. white (suc i) (omega (arith, le)) (omega (arith, lt))) (behind n le black))
    ∙ sym (ap (λ t. cond t [] (b ∷ trimmed s)) (some_black (b ∷ s) n (omega (arith, le)) (last n black)))
  where
    last : (n : ℕ) → (0 < suc n → is_ascii_whitespace (slice_index (b ∷ s) (suc n - 1)) ≡ false) → is_ascii_whitespace (slice_index (b ∷ s) n) ≡ false
    last n black =
        let e : suc n - 1 ≡ n = omega arith in
        subst (λ i. is_ascii_whitespace (slice_index (b ∷ s) i) ≡ false) e (black (omega arith))

    behind : (n : ℕ) → suc n ≤ length (b ∷ s) → (0 < suc n → is_ascii_whitespace (slice_index (b ∷ s) (suc n - 1)) ≡ false)
        → 0 < n → is_ascii_whitespace (slice_index s (n - 1)) ≡ false
    behind zero le black lt = absurd (omega (arith, lt))
    behind (suc m) le black lt =
        let e : suc m - 1 ≡ m = omega arith in
        subst (λ i. is_ascii_whitespace (slice_index s i) ≡ false) (sym e) (last (suc m) black)

pub trimmed_is : (s r : List ℕ) → IsTrimAsciiEnd s r → r ≡ trimmed s
trimmed_is s r is = is.1 ∙ trimmed_at s is.0 is.3 is.4 is.5

-- ---- spaces

pub indent_more : (n : ℕ) → indent n ++ (32 ∷ 32 ∷ 32 ∷ 32 ∷ []) ≡ indent (n + 1)
indent_more n = let e : 4 * n + 4 ≡ 4 * (n + 1) = omega arith in replicate-append-replicate (4 * n) 4 32 ∙ ap (λ (m : ℕ). replicate {A = ℕ} m 32) e

-- ---- a line behind bytes

pub note_line : (n : ℕ) (old a b c s r : List ℕ) → a ≡ old ++ (indent n ++ codes "<DD>") → b ≡ a ++ r → c ≡ b ++ 10 ∷ [] → IsTrimAsciiEnd s r
    → AreBehind n old c (notes (trimmed s) ∷ [])
note_line n old a b c s r one two three is =
    let t = trimmed_is s r is in
    three ∙ ap (λ l. l ++ 10 ∷ []) (two ∙ (λ i. one i ++ t i)) ∙ append_assoc (old ++ (indent n ++ codes "<DD>")) (trimmed s) (10 ∷ [])
    ∙ append_assoc old (indent n ++ codes "<DD>") (trimmed s ++ 10 ∷ []) ∙ ap (λ l. old ++ l) (append_assoc (indent n) (codes "<DD>") (trimmed s ++ 10 ∷ []))

pub new_link_line : (n : ℕ) (old a b c d e address title : List ℕ) → a ≡ old ++ (indent n ++ codes "<DT><A HREF=\"") → b ≡ a ++ address → c ≡ b ++ codes "\">"
    → d ≡ c ++ title → e ≡ d ++ codes "</A>\n" → AreBehind n old e (links (codes " HREF=\"" ++ (address ++ codes "\"")) title ∷ [])
new_link_line n old a b c d e address title one two three four five =
    let start = indent n ++ codes "<DT><A HREF=\"" in
    five ∙ ap (λ l. l ++ codes "</A>\n") (four ∙ ap (λ l. l ++ title) (three ∙ ap (λ l. l ++ codes "\">") (two ∙ ap (λ l. l ++ address) one)))
    ∙ append_assoc (((old ++ start) ++ address) ++ codes "\">") title (codes "</A>\n")
    ∙ append_assoc ((old ++ start) ++ address) (codes "\">") (title ++ codes "</A>\n")
    ∙ append_assoc (old ++ start) address (codes "\">" ++ (title ++ codes "</A>\n"))
    ∙ append_assoc old start (address ++ (codes "\">" ++ (title ++ codes "</A>\n")))
    ∙ ap (λ l. old ++ l) (append_assoc (indent n) (codes "<DT><A HREF=\"") (address ++ (codes "\">" ++ (title ++ codes "</A>\n")))
    ∙ ap (λ l. indent n ++ (codes "<DT><A HREF=\"" ++ l)) (sym (ends address title)))
  where
    ends : (address title : List ℕ) → ((address ++ codes "\"") ++ 62 ∷ (title ++ codes "</A>")) ++ 10 ∷ [] ≡ address ++ (codes "\">" ++ (title ++ codes "</A>\n"))
    ends address title =
        append_assoc (address ++ codes "\"") (62 ∷ (title ++ codes "</A>")) (10 ∷ []) ∙ append_assoc address (codes "\"") (62 ∷ ((title ++ codes "</A>") ++ 10 ∷ []))
        ∙ ap (λ l. address ++ (codes "\">" ++ l)) (append_assoc title (codes "</A>") (10 ∷ []))
