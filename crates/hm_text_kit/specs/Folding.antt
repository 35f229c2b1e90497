-- Full case folding as a text lens.
use Rattle.std.specs.Prelude.{cond, [], ◌∷◌}
use Rattle.hm_tree.specs.Names.{Name}
use Rattle.hm_tree.specs.Classes.{folding}
use Rattle.hm_tree.specs.declared.class.Class.TheVariants.{Trimmed, Folded}
use Rattle.hm_text_lens.specs.Meanings.{TextMeaning}
use Rattle.hm_text_kit.specs.Kinds.{normal_form}
use Rattle.hm_text_kit.specs.Tests.{is_folded}

-- the full case folding where that is of the class Folded, else a question mark. The folding of a text is its own
-- folding, so that this is where it is Trimmed
unfoldable pub folded_or_mark : Name → Name
folded_or_mark v = cond (is_folded (folding v)) (folding v) (63 ∷ [])

-- what `FoldCase` means
abbrev pub folding_case : Name → TextMeaning
folding_case name = normal_form name Trimmed Folded folded_or_mark
