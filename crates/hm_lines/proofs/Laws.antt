-- What was folded is unfolded to the same lines, and what was escaped is read as the same text; and there is one fold, and
-- one way to part a line.
pub use Rattle.hm_lines.proofs.UnfoldedLines.{ended, folded_unfolded, ended_lines, folded_lines, ended_utf8, lines_no_feed}
pub use Rattle.hm_lines.proofs.Once.{pieces_once, folded_once, all_folded_once, parted_once}
pub use Rattle.hm_lines.proofs.SomeFold.{all_folded_there}
pub use Rattle.hm_lines.proofs.LineTexts.{lines_utf8}
pub use Rattle.hm_lines.proofs.EscapedText.{escaped_utf8, unescaped_utf8}
pub use Rattle.hm_lines.proofs.Escapes.{plain_byte}
use Rattle.std.proofs.Common.{◌≡◌, ℕ, ◌+◌, inl, inr, Bool, true, false, cond, ◌||◌, List, [], ◌∷◌, ◌++◌, length, refl, sym, ap, ◌∙◌, arith}
use Rattle.std.specs.Bool.{◌==◌}
use Rattle.std.proofs.lemmas.Bool.{ne_eqb, eqb-true, or_parts, or_from, both_ways}
use Rattle.std.proofs.lemmas.List.{append_assoc}
use Rattle.std.proofs.lemmas.List.Elements.{All-append, All-cons}
use Rattle.hm_tree.specs.Names.{Name}
use Rattle.hm_tree.specs.Cleaned.{cleaned}
use Rattle.hm_tree.specs.Classes.{IsClean}
use Rattle.hm_lines.specs.declared.content.LineParts.{LineParts}
use Rattle.hm_lines.specs.Content.{colon, dot, is_of_word, IsWord, IsGroup, IsContentLine}
use Rattle.hm_lines.specs.Folding.{HasNone}
use Rattle.hm_lines.specs.Unfolding.{feed, is_blank, begins_with_blank}
use Rattle.hm_lines.specs.Values.{backslash, is_special, unescaped, text_of, escaped_byte, escaped}

-- ---- values

module _ (b : ℕ) (t : List ℕ) where
  byte_read : (s f : Bool) → is_special b ≡ s → (b == feed) ≡ f
      → unescaped (cond s (backslash ∷ b ∷ []) (cond f (backslash ∷ 110 ∷ []) (b ∷ [])) ++ t) ≡ b ∷ unescaped t
  byte_read true f e _ = rw e refl
  byte_read false true _ e = ap (λ x. x ∷ unescaped t) (sym (eqb-true b feed e))
  byte_read false false e _ = plain_byte b t (or_parts (b == backslash) ((b == 44) || (b == 59)) e).0

pub escaped_unescaped : (text : List ℕ) → unescaped (escaped text) ≡ text
escaped_unescaped [] = refl
escaped_unescaped (b ∷ text) = byte_read b (escaped text) (is_special b) (b == feed) refl refl ∙ ap (λ l. b ∷ l) (escaped_unescaped text)

-- what is escaped of a clean text is read as it
pub escaped_text : (k : Name) → IsClean k → text_of (escaped k) ≡ k
escaped_text k clean = ap (λ (l : Name). cleaned l) (escaped_unescaped k) ∙ clean

-- and has no line feed, so that it can stand in a line
pub escaped_no_feed : (text : List ℕ) → HasNone feed (escaped text)
escaped_no_feed [] = λ k d lt. absurd (omega arith)
escaped_no_feed (b ∷ text) =
    All-append (λ x. (x == feed) ≡ false) (escaped_byte b) (escaped text) (byte_none (is_special b) (b == feed) refl refl) (escaped_no_feed text)
  where
    one : (x : ℕ) → (x == feed) ≡ false → HasNone feed (x ∷ [])
    one x e = All-cons (λ y. (y == feed) ≡ false) x [] e (λ k d lt. absurd (omega arith))

    two : (x : ℕ) → (x == feed) ≡ false → HasNone feed (backslash ∷ x ∷ [])
    two x e = All-cons (λ y. (y == feed) ≡ false) backslash (x ∷ []) refl (one x e)

    byte_none : (s f : Bool) → is_special b ≡ s → (b == feed) ≡ f → HasNone feed (cond s (backslash ∷ b ∷ []) (cond f (backslash ∷ 110 ∷ []) (b ∷ [])))
    byte_none true f e g = two b (ne_eqb b feed (λ is. let no_special : ⊥ = both_ways (is_special b) (ap is_special is) e in absurd no_special))
    byte_none false true e g = two 110 refl
    byte_none false false e g = one b g

-- ---- content lines

-- a name, a `:` and a value are a content line
pub new_line : (name value : List ℕ) → IsWord name
    → IsContentLine (name ++ colon ∷ value) (record { name_from = 0; name_to = length name; value_from = length name + 1 })
new_line name value is = record {
  group = [];
  name = name;
  parameters = [];
  value = value;
  bytes = refl;
  is_group = inl refl;
  is_name = is;
  are_parameters = inl refl;
  before_colon = record { outside = refl; first = λ k lt e. absurd (omega arith) };
  name_from = refl;
  name_to = omega arith;
  value_from = omega arith;
}

no_blank : (b : ℕ) → is_of_word b ≡ true → is_blank b ≡ false
no_blank b e =
    or_from (b == 32) (b == 9) (ne_eqb b 32 (λ is. both_ways (is_of_word b) (ap is_of_word is) e))
    (ne_eqb b 9 (λ is. both_ways (is_of_word b) (ap is_of_word is) e))

word_no_blank : (word rest : List ℕ) → IsWord word → begins_with_blank (word ++ rest) ≡ false
word_no_blank [] rest is = absurd (is.some refl)
word_no_blank (b ∷ word) rest is = no_blank b (is.all 0 b (omega arith))

-- no content line begins with a space or a tab, so that one without a line feed can be folded
pub content_no_blank : (line : List ℕ) (parts : LineParts) → IsContentLine line parts → begins_with_blank line ≡ false
content_no_blank line parts is = ap begins_with_blank is.bytes ∙ go is.group is.is_group
  where
    go : (group : List ℕ) → IsGroup group → begins_with_blank (group ++ (is.name ++ (is.parameters ++ colon ∷ is.value))) ≡ false
    go group (inl none) =
        ap (λ l. begins_with_blank (l ++ (is.name ++ (is.parameters ++ colon ∷ is.value)))) none
        ∙ word_no_blank is.name (is.parameters ++ colon ∷ is.value) is.is_name
    go group (inr (word, (of_word, parts))) =
        ap (λ l. begins_with_blank (l ++ (is.name ++ (is.parameters ++ colon ∷ is.value)))) parts
        ∙ ap begins_with_blank (append_assoc word (dot ∷ []) (is.name ++ (is.parameters ++ colon ∷ is.value)))
        ∙ word_no_blank word (dot ∷ is.name ++ (is.parameters ++ colon ∷ is.value)) of_word
