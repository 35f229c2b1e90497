-- A value whose first byte tells that it has a text.
use Rattle.std.proofs.Common.{◌≡◌, ℕ, ◌<◌, ◌≤◌, Bool, true, false, not, nat_lt, ◌&&◌, IsTrue, List, ◌∷◌, refl, ap, ◌∙◌, arith}
use Rattle.std.specs.Bool.{◌==◌}
use Rattle.std.proofs.lemmas.Bool.{ne_eqb, le-leb, ltb-true, not-true, and_parts}
use Rattle.hm_tree.specs.Cleaned.{is_kept, cleaned}
use Rattle.hm_lines.specs.Values.{backslash, unescaped, text_of}
use Rattle.hm_lines.proofs.Laws.{plain_byte}
use Rattle.hm_tree.specs.Classes.{is_text}

kept : (b : ℕ) → 32 < b → (b == 127) ≡ false → is_kept b ≡ true
kept b above e = rw (ne_eqb b 9 (λ f. omega arith), ne_eqb b 10 (λ f. omega arith), le-leb 32 b (omega arith), e) refl

is_cleaned_text : (b : ℕ) (rest : List ℕ) → 32 < b → (b == 127) ≡ false → is_text (cleaned (b ∷ rest)) ≡ true
unfolding cleaned
is_cleaned_text b rest above e = rw (ne_eqb b 13 (λ f. omega arith), ne_eqb b 13 (λ f. omega arith), kept b above e, ne_eqb b 32 (λ f. omega arith)) refl

-- a byte above the space that neither escapes nor is dropped
pub plain_begins_text : (b : ℕ) (rest : List ℕ) → IsTrue (nat_lt 32 b && (not (b == backslash) && not (b == 127))) → IsTrue (is_text (text_of (b ∷ rest)))
plain_begins_text b rest plain =
    let parts = and_parts _ _ plain in
    let others = and_parts _ _ parts.1 in
    ap (λ t. is_text (cleaned t)) (plain_byte b rest (not-true _ others.0))
    ∙ is_cleaned_text b (unescaped rest) (ltb-true 32 b parts.0) (not-true _ others.1)
