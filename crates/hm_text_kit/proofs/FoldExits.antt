-- What is answered of a folding that is trimmed, and of one that isn't.
use Rattle.std.proofs.Common.{◌≡◌, true, false, cond, [], ◌∷◌, sym, ap, ◌∙◌, subst, inl, inr}
use Rattle.std.specs.Prelude.{IsUtf8}
use Rattle.std.proofs.lemmas.Bool.{cases_Bool}
use Rattle.hm_tree.specs.Names.{Name}
use Rattle.hm_tree.specs.Classes.{folding, IsTrimmed}
use Rattle.hm_text_kit.specs.Folding.{folded_or_mark}
use Rattle.hm_text_kit.specs.Tests.{is_trimmed, is_folded}
use Rattle.hm_text_kit.specs.TestLaws.{to_trimmed, trimmed_from}
use Rattle.hm_text_kit.proofs.FoldTexts.{folded_where_trimmed}

pub folding_given : (v n : Name) → n ≡ folding v → IsUtf8 n → IsTrimmed n → n ≡ folded_or_mark v
unfolding folded_or_mark
folding_given v n e text h =
    let t : IsUtf8 (folding v) = subst IsUtf8 e text in
    let is : is_folded (folding v) ≡ true = folded_where_trimmed v t ∙ to_trimmed (folding v) (subst IsTrimmed e h) in
    e ∙ sym (ap (λ b. cond b (folding v) (63 ∷ [])) is)

pub question_given : (v n : Name) → n ≡ folding v → IsUtf8 n → ¬ (IsTrimmed n) → 63 ∷ [] ≡ folded_or_mark v
unfolding folded_or_mark
question_given v n e text h =
    let t : IsUtf8 (folding v) = subst IsUtf8 e text in
    let no : is_trimmed (folding v) ≡ false = elim (cases_Bool (is_trimmed (folding v))) [
      | inl is ↦ absurd (h (subst IsTrimmed (sym e) (trimmed_from (folding v) is)))
      | inr is ↦ is
    ] in
    sym (ap (λ b. cond b (folding v) (63 ∷ [])) (folded_where_trimmed v t ∙ no))
