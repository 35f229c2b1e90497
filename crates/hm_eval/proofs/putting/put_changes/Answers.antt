use Rattle.std.proofs.Common.{◌≡◌, List, Some, sym, subst}
use Rattle.hm_tree.specs.Nodes.{Tree}
use Rattle.hm_text_lens.specs.Meanings.{TextMeaning}
use Rattle.hm_terms.specs.declared.term.Definition.{Definition}
use Rattle.hm_terms.specs.Lenses.{Lens}
use Rattle.hm_terms.specs.Put.{Puts}
use Rattle.hm_eval_terms.specs.Conditions.{GivesBack, given_back}
use Rattle.hm_eval_terms.specs.Terms.{setting_in}
use Rattle.hm_eval.proofs.putting.put_changes.Goals as goal

whole_back : (texts : List TextMeaning) (ds es : List Definition) (l : Lens) (v b : Tree) → es ≡ ds → Puts (setting_in texts ds) l v (Some b) b
    → GivesBack (setting_in texts es) l (Some v) (Some b)
whole_back texts ds es l v b e p = given_back (subst (λ ds. Puts (setting_in texts ds) l v (Some b) b) (sym e) p)

pub put_changed-requires-clause-back : goal.put_changed-requires-clause-back
put_changed-requires-clause-back g c = whole_back _ _ _ _ _ _ c.deref-2.ensures.value c.requires.back
