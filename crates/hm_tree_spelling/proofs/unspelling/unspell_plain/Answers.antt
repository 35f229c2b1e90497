use Rattle.std.proofs.Common.{◌≡◌, ◌+◌, ◌∷◌, take, sym, ap, ◌∙◌, subst, arith, IsUtf8}
use Rattle.hm_tree_spelling.specs.Spelling.{spelled}
use Rattle.hm_tree_spelling.proofs.Spelled.{with_quotes, same_text}
use Rattle.hm_tree_spelling.proofs.unspelling.unspell_plain.Goals as goal

pub returns-in_ok-from_text-in-Ok : goal.returns-in_ok-from_text-in-Ok
returns-in_ok-from_text-in-Ok c =
    let same = c.in_ok-from_text-in-Ok.ensures.value ∙ c.in-Ok.ensures.cases.0 in
    let long : c.args.plain + 2 ≡ c.args.plain + 1 + 1 = omega arith in (
      subst IsUtf8 (sym same) c.in-Ok.ensures.cases.1,
      omega (arith, c.requires.within),
      ap (λ n. take n (34 ∷ c.args.rest.now)) long
          ∙ with_quotes c.args.rest.now _ (c.args.plain + 1) c.requires.spelled ∙ ap spelled (sym same),
    )

pub returns-in-Err : goal.returns-in-Err
returns-in-Err c = λ name rest text e.
    let same = same_text c.args.rest.now _ (c.args.plain + 1) c.requires.spelled name rest e in
    c.in-Err.ensures.cases.0 (subst IsUtf8 same text)
