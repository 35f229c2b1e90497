use Rattle.std.proofs.Common.{◌≡◌, chars, sym, ◌∙◌}
use Rattle.std.proofs.lemmas.Str.{Chars-gives, encodes-chars}
use Rattle.caseless.specs.Caseless.{default_case_fold}
use Rattle.caseless.proofs.CaselessLemmas.{Spells-CaseFold}
use Rattle.hm_tree.proofs.Compared.{same_from_eq}
use Rattle.hm_tree.proofs.Folded.{folded_text}
use Rattle.hm_tree.proofs.folding.is_own_folding.Goals as goal

pub returns-in-None : goal.returns-in-None
returns-in-None c =
    let t = c.args.text.now in
    let here = Chars-gives (chars t) _ (encodes-chars t c.utf8.text ∙ sym c.chars.ensures.rest) in
    let there = Chars-gives (chars t) _ (encodes-chars t c.utf8.text ∙ sym c.chars-in-None.ensures.rest) in
    let folded = Spells-CaseFold (c.default_case_fold.ensures.text (chars t) here) in
    let same = same_from_eq _ _ _ (λ x y. y ≡ x) _ _ (default_case_fold (chars t)) (chars t) c.eq.ensures.ran folded (λ it e. rw e there) in
    let is = folded_text t c.utf8.text in
    (λ yes. is.0 (same.0 yes), λ e. same.1 (is.1 e))
