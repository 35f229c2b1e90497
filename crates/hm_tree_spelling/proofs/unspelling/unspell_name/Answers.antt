use Rattle.std.proofs.Common.{◌≡◌, Option, ℕ, Some, None, ◌∙◌}
use Rattle.hm_tree_spelling.proofs.Spelled.{front_is_quote}
use Rattle.hm_tree_spelling.proofs.unspelling.unspell_name.Goals as goal

pub returns-in_default : goal.returns-in_default
returns-in_default c = λ name rest text e.
    let front : ◌≡◌ {A = Option ℕ} None (Some 34) = c.in_default.ensures.value ∙ front_is_quote c.args.bytes.now name rest e in
    let no : ⊥ = cc in no

pub returns-then-first-ne34 : goal.returns-then-first-ne34
returns-then-first-ne34 c = λ name rest text e.
    let front : ◌≡◌ {A = Option ℕ} (Some c.in-Some.first.now) (Some 34) = c.in-Some.ensures.value ∙ front_is_quote c.args.bytes.now name rest e in
    c.if-first-ne34.true (cc)
