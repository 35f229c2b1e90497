-- The bytes of a text, wherever they are kept.
use Rattle.std.specs.Prelude.{ℕ, List, string_bytes}
use Rattle.hm_tree.specs.declared.text.Text.{Text}
use Rattle.hm_tree.specs.declared.text.Text.TheVariants.{Short, Long}

abbrev pub text_bytes : Text → List ℕ
text_bytes (Short text) = text.bytes
text_bytes (Long text) = string_bytes text
