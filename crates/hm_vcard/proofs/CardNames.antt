-- The names of properties, which are known: what tests say of them.
use Rattle.std.proofs.Common.{◌≡◌, Bool, true, false, T, [], ◌∷◌, length, get_or, ◌-◌, refl, ap, ◌∙◌, arith}
use Rattle.std.specs.Prelude.{All, codes, not, ◌&&◌}
use Rattle.std.specs.Char.{is_ascii_lowercase}
use Rattle.std.specs.List.{list_any, list_all}
use Rattle.std.specs.Str.{str_eq_ignore_ascii_case, is_utf8, chars}
use lib.Utf8.{encode}
use Rattle.std.proofs.lemmas.Bool.{and_parts}
use Rattle.std.proofs.lemmas.List.{take_at}
use Rattle.hm_tree.specs.Names.{Name, name_cmp}
use Rattle.hm_tree.specs.Nodes.{are_edges}
use Rattle.hm_lines.specs.Content.{colon, is_of_word, IsWord}
use Rattle.hm_lines.specs.Values.{escaped}
use Rattle.hm_book_cards.specs.Cards.{Shown}
use Rattle.hm_lines_cards.specs.Lines.{AreProperties}
use Rattle.hm_lines_cards.specs.Rewriting.{Property, new_line}
use Rattle.hm_lines_files.proofs.KnownNames.{all_true, not_true, word, capital}
use Rattle.hm_vcard.specs.Cards as cards
use Rattle.hm_vcard.specs.Cards.{CardLines, IsProperty, IsCard, begin_line, version_line, end_line, frame_names, is_frame, is_line, birthday, single, component_with, pieces_with, IsCardComponent, IsFileOfCards, card_template, vcards}

-- ---- names of properties

abbrev pub IsNamed : Property → Type 0
IsNamed p = IsWord p.0 × ((t : Name) → is_frame (new_line p.0 t) ≡ false)

-- the properties of which there may be many texts
abbrev pub others : Shown
others = (codes "EMAIL", true) ∷ (codes "NOTE", true) ∷ (codes "ROLE", true) ∷ (codes "TEL", true) ∷ (codes "TITLE", true) ∷ []

-- a word that isn't the name of a line that stands around properties
abbrev is_free_word : Name → Bool
is_free_word [] = false
is_free_word (b ∷ k) = list_all is_of_word (b ∷ k) && not (list_any (str_eq_ignore_ascii_case (b ∷ k)) frame_names)

new_name : (k t : Name) → is_frame (new_line k t) ≡ list_any (str_eq_ignore_ascii_case k) frame_names
new_name k t = ap (λ n. list_any (str_eq_ignore_ascii_case n) frame_names) (take_at k (colon ∷ escaped t) (length k - 0) (omega arith))

named_from : (k : Name) → is_free_word k ≡ true → IsWord k × ((t : Name) → is_frame (new_line k t) ≡ false)
named_from [] e = let bad : ⊥ = cc in absurd bad
named_from (b ∷ k) e =
    let parts = and_parts (list_all is_of_word (b ∷ k)) (not (list_any (str_eq_ignore_ascii_case (b ∷ k)) frame_names)) e in (
      word b k parts.0,
      λ t. new_name (b ∷ k) t ∙ not_true (list_any (str_eq_ignore_ascii_case (b ∷ k)) frame_names) parts.1,
    )

pub all_named : All IsNamed cards.properties
all_named i d lt = named_from (get_or cards.properties i d).0 (all_true (λ p. is_free_word p.0) cards.properties refl i d lt)

pub name_named : IsNamed (card_template.key, false)
name_named = named_from card_template.key refl

properties_rise : T (are_edges cards.properties)
unfolding name_cmp is_utf8 chars encode
properties_rise = tt

pub card_properties : AreProperties cards.properties
card_properties = record {
  names = properties_rise;
  words = λ i d lt. (all_named i d lt).0;
  capitals = λ i d lt. capital (get_or cards.properties i d).0 (all_true (λ p. list_all (λ b. not (is_ascii_lowercase b)) p.0) cards.properties refl i d lt);
}
