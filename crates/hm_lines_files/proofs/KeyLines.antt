-- The line of a key: it shows the key, and it can be folded and read.
use Rattle.std.proofs.Common.{◌≡◌, ℕ, ◌+◌, ◌-◌, ◌<◌, true, false, cond, [], ◌∷◌, ◌++◌, length, get_or, drop, Some, None, refl, sym, ap, ◌∙◌, arith}
use Rattle.std.specs.Prelude.{IsUtf8}
use Rattle.std.specs.Bool.{◌==◌}
use Rattle.std.specs.Str.{str_eq_ignore_ascii_case, str_to_ascii_lowercase}
use Rattle.std.proofs.lemmas.List.{append_assoc, length-append, take_at, drop_at}
use Rattle.std.proofs.lemmas.List.Elements.{All-nil, All-append, All-cons}
use Rattle.std.proofs.lemmas.Bool.{ne_eqb, both_ways}
use Rattle.std.proofs.lemmas.Bool.Decides.{nat_tests}
use Rattle.std.proofs.lemmas.Slice.Eq.{bytes_eq-Decides}
use Rattle.std.proofs.lemmas.Str.{IsUtf8-append, IsUtf8-from_ascii}
use Rattle.std.proofs.lemmas.Str.Ascii.{IsAscii-from_all}
use Rattle.hm_tree.specs.Names.{Name}
use Rattle.hm_tree.specs.Classes.{IsFilled}
use Rattle.hm_lines.specs.Content.{colon, is_of_word, IsWord}
use Rattle.hm_lines.specs.Unfolding.{feed}
use Rattle.hm_lines.specs.Values.{escaped, text_of}
use Rattle.hm_lines.proofs.Laws as lines
use Rattle.hm_lines.proofs.Laws.{escaped_text, escaped_utf8, escaped_no_feed, content_no_blank}
use Rattle.hm_lines.specs.Folding.{IsPlain}
use Rattle.hm_lines_cards.specs.Lines.{is_of, filled, text_shown}
use Rattle.hm_lines_cards.specs.Rewriting.{new_line}
use Rattle.hm_lines_cards.proofs.MadeLines.{filled_is}

colon_text : IsUtf8 (colon ∷ [])
colon_text = IsUtf8-from_ascii (colon ∷ []) (IsAscii-from_all (colon ∷ []) (All-cons (λ x. x < 128) colon [] (omega arith) (All-nil (λ x. x < 128))))

word_small : (b : ℕ) → is_of_word b ≡ true → b < 128
word_small b e = grind (arith, nat_tests)

pub word_text : (word : Name) → IsWord word → IsUtf8 word
word_text word is = IsUtf8-from_ascii word (IsAscii-from_all word (λ i b lt. word_small (get_or word i b) (is.all i b lt)))

module _ (key : Name) (word : IsWord key) (k : Name) where
  is_of_key : is_of key (new_line key k) ≡ true
  is_of_key =
      ap (λ n. str_eq_ignore_ascii_case n key) (take_at key (colon ∷ escaped k) (length key - 0) (omega arith))
      ∙ (bytes_eq-Decides (str_to_ascii_lowercase key) (str_to_ascii_lowercase key)).1 refl

  value_is : drop (length key + 1) (key ++ colon ∷ escaped k) ≡ escaped k
  value_is =
      ap (drop (length key + 1)) (sym (append_assoc key (colon ∷ []) (escaped k)))
      ∙ drop_at (key ++ colon ∷ []) (escaped k) (length key + 1) (length-append key (colon ∷ []))

  pub key_shown : IsFilled k → text_shown key (new_line key k) ≡ Some k
  key_shown h =
      ap (λ b. cond b (filled (text_of (drop (length key + 1) (key ++ colon ∷ escaped k)))) None) is_of_key
      ∙ ap (λ v. filled (text_of v)) value_is ∙ ap (λ (t : Name). filled t) (escaped_text k h.clean) ∙ filled_is k h

  pub key_utf8 : IsUtf8 k → IsUtf8 (new_line key k).0
  key_utf8 text = IsUtf8-append key (colon ∷ escaped k) (word_text key word) (IsUtf8-append (colon ∷ []) (escaped k) colon_text (escaped_utf8 k text))

  pub key_plain : IsPlain (new_line key k).0
  key_plain = record {
    no_feed = All-append (λ b. (b == feed) ≡ false) key (colon ∷ escaped k)
        (λ i b lt. ne_eqb (get_or key i b) feed (λ is. both_ways (is_of_word (get_or key i b)) (ap is_of_word is) (word.all i b lt)))
        (All-cons (λ b. (b == feed) ≡ false) colon (escaped k) refl (escaped_no_feed k));
    no_blank = content_no_blank (key ++ colon ∷ escaped k) _ (lines.new_line key (escaped k) word);
  }
