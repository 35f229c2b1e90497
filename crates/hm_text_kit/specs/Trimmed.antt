-- A text without the spaces at its ends.
use Rattle.std.specs.Prelude.{ℕ, ◌==◌, cond, List, [], ◌∷◌, reverse}
use Rattle.hm_tree.specs.Names.{Name}
use Rattle.hm_tree.specs.declared.class.Class.TheVariants.{Filled, Trimmed}
use Rattle.hm_text_lens.specs.Meanings.{TextMeaning}
use Rattle.hm_text_kit.specs.Kinds.{normal_form}

-- without each U+0020 at the front
abbrev pub skip_spaces : List ℕ → List ℕ
skip_spaces [] = []
skip_spaces (b ∷ t) = cond (b == 32) (skip_spaces t) (b ∷ t)

-- without each U+0020 at the end
abbrev pub drop_spaces : List ℕ → List ℕ
drop_spaces t = reverse (skip_spaces (reverse t))

unfoldable pub trimmed : Name → Name
trimmed t = drop_spaces (skip_spaces t)

-- what `TrimEnds` means
abbrev pub trimming : Name → TextMeaning
trimming name = normal_form name Filled Trimmed trimmed
