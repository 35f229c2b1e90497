-- The folding of a text is its own folding.
use Rattle.std.proofs.Common.{◌≡◌, Bool, true, false, ◌&&◌, refl, sym, ap, ◌∙◌}
use Rattle.std.specs.Prelude.{IsUtf8, chars, encode_utf8_all}
use Rattle.std.proofs.lemmas.Slice.Eq.{bytes_eq-Decides}
use Rattle.std.proofs.lemmas.Str.{chars_from_encodes}
use Rattle.caseless.specs.Caseless.{default_case_fold}
use Rattle.caseless.proofs.CaselessLemmas.{default_case_fold_idem}
use Rattle.hm_tree.specs.Names.{Name}
use Rattle.hm_tree.specs.Classes.{folding}
use Rattle.hm_text_kit.specs.Tests.{is_trimmed, is_folded}

-- a folding of text is its own folding
pub folding_twice : (v : Name) → IsUtf8 (folding v) → folding (folding v) ≡ folding v
folding_twice v text =
    let same : default_case_fold (chars v) ≡ chars (folding v) = chars_from_encodes (default_case_fold (chars v)) (folding v) text refl in
    ap (λ cs. encode_utf8_all (default_case_fold cs)) (sym same) ∙ ap encode_utf8_all (default_case_fold_idem (chars v))

-- so of a text the question mark comes exactly where its folding isn't trimmed
pub folded_where_trimmed : (v : Name) → IsUtf8 (folding v) → is_folded (folding v) ≡ is_trimmed (folding v)
unfolding is_folded
folded_where_trimmed v text =
    ap (λ b. is_trimmed (folding v) && b) ((bytes_eq-Decides (folding (folding v)) (folding v)).1 (folding_twice v text)) ∙ last (is_trimmed (folding v))
  where
    last : (b : Bool) → (b && true) ≡ b
    last true = refl
    last false = refl
