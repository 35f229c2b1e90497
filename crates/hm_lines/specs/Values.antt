-- Values of the type text (RFC 5545, section 3.3.11; RFC 6350, section 3.4): what stands in them behind a `\`.
use Rattle.std.specs.Prelude.{ℕ, Bool, cond, ◌&&◌, ◌||◌, List, [], ◌∷◌}
use Rattle.std.specs.Bool.{◌==◌}
use Rattle.std.specs.List.{flat_map}
use Rattle.hm_tree.specs.Names.{Name}
use Rattle.hm_tree.specs.Cleaned.{cleaned}
use Rattle.hm_lines.specs.Unfolding.{feed}

abbrev pub backslash : ℕ
backslash = 92

-- `\`, `,` and `;`, which stand behind a `\` for themselves
abbrev pub is_special : ℕ → Bool
is_special b = (b == backslash) || ((b == 44) || (b == 59))

-- `n` and `N`, which stand behind a `\` for a line feed
abbrev pub is_letter_n : ℕ → Bool
is_letter_n b = (b == 110) || (b == 78)

abbrev pub is_escape : ℕ → Bool
is_escape b = is_special b || is_letter_n b

-- what such a byte stands for
abbrev pub meaning : ℕ → ℕ
meaning b = cond (is_special b) b feed

-- another `\` stands for itself
abbrev pub unescaped : List ℕ → List ℕ
unescaped [] = []
unescaped (b ∷ []) = b ∷ []
unescaped (b ∷ c ∷ rest) = cond ((b == backslash) && is_escape c) (meaning c ∷ unescaped rest) (b ∷ unescaped (c ∷ rest))

-- the text of a value
abbrev pub text_of : List ℕ → Name
text_of value = cleaned (unescaped value)

-- ---- writing

abbrev pub escaped_byte : ℕ → List ℕ
escaped_byte b = cond (is_special b) (backslash ∷ b ∷ []) (cond (b == feed) (backslash ∷ 110 ∷ []) (b ∷ []))

abbrev pub escaped : List ℕ → List ℕ
escaped text = flat_map escaped_byte text
