-- The laws of folding case.
use Rattle.std.proofs.Common.{◌≡◌, cond, [], ◌∷◌, Some, refl, ap, ◌∙◌, arith}
use Rattle.std.specs.Char.{encode_utf8}
use Rattle.std.specs.Str.{chars as chars_of}
use Rattle.std.proofs.lemmas.Bool.{cond_both}
use Rattle.std.proofs.lemmas.List.Elements.{All-from_recursion}
use Rattle.caseless.specs.Caseless.{default_case_fold}
use Rattle.ucd_case.specs.CaseFolding.{full_folding}
use Rattle.ucd_case.specs.FullFoldingRows.{full_folding_rows}
use Rattle.ucd_table.specs.Rows.{value_in}
use Rattle.hm_tree.specs.declared.class.Class.TheVariants.{Trimmed, Folded}
use Rattle.hm_tree.specs.Names.{Name}
use Rattle.hm_tree.specs.Classes.{folding, IsFolded}
use Rattle.hm_text_lens.specs.Meanings.{IsLawful}
use Rattle.hm_text_kit.specs.CleanLaws.{Kept, clean_from_kept}
use Rattle.hm_text_kit.specs.Folding.{folded_or_mark, folding_case}
use Rattle.hm_text_kit.specs.KindLaws.{normal_form_lawful}
use Rattle.hm_text_kit.specs.TestLaws.{other_not, folded_from, to_folded}
use Rattle.hm_text_kit.specs.Tests.{is_folded}
use Rattle.hm_text_kit.specs.TextLaws.{IsText, Low, low_text, folding_text}

question_folds : folding (63 ∷ []) ≡ 63 ∷ []
unfolding default_case_fold full_folding full_folding_rows value_in chars_of encode_utf8
question_folds = refl

question : IsFolded (63 ∷ [])
question = record {
  trimmed = record {
    filled = record {
      clean = clean_from_kept (63 ∷ []) (All-from_recursion Kept (63 ∷ []) (refl, tt));
      filled = (0, 63, omega arith, refl, λ e. omega arith);
    };
    front = other_not (Some 63) refl;
    back = other_not (Some 63) refl;
  };
  folded = question_folds;
}

pub folded_same : (w : Name) → IsFolded w → folded_or_mark w ≡ w
unfolding folded_or_mark
folded_same w h = ap (λ t. cond (is_folded t) t (63 ∷ [])) h.folded ∙ ap (λ b. cond b w (63 ∷ [])) (to_folded w h)

pub folded_shown : (v : Name) → IsFolded (folded_or_mark v)
unfolding folded_or_mark
folded_shown v = cond_both (is_folded (folding v)) (folding v) (63 ∷ []) IsFolded (folded_from (folding v)) (λ _. question)

folded_text : (v : Name) → IsText v → IsText (folded_or_mark v)
unfolding folded_or_mark
folded_text v text =
    cond_both (is_folded (folding v)) (folding v) (63 ∷ []) IsText (λ _. folding_text v text) (λ _. low_text (63 ∷ []) (All-from_recursion Low (63 ∷ []) (omega arith, tt)))

pub folding_case_lawful : (name : Name) → IsLawful (folding_case name)
folding_case_lawful name = normal_form_lawful name Trimmed Folded folded_or_mark
    (λ v h. record { text = folded_text v h.text; in_class = folded_shown v }) (λ w h. h.trimmed) (λ w h. folded_same w h.in_class)
