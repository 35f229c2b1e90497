-- The tail of a file: what stands behind its outermost list.
use Rattle.std.specs.Prelude.{◌≡◌, ℕ, true, List, ◌++◌}
use Rattle.hm_marks_tokens.specs.Bytes.{is_white}
use Rattle.hm_marks_tokens.specs.Tokens.{Token, IsNext}
use Rattle.hm_marks_tokens.specs.Symbols.{paragraph, symbol_of}

-- white space, and among it one `<p>` or none
pub data IsTail (tail : List ℕ) : Type 0 where
  blank : is_white tail ≡ true → IsTail tail
  with_paragraph : (front rest : List ℕ) (t : Token) (behind : List ℕ) → tail ≡ front ++ rest → is_white front ≡ true → IsNext rest t behind
      → symbol_of t ≡ paragraph → is_white behind ≡ true → IsTail tail
