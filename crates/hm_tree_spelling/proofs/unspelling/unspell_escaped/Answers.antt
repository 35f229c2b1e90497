use Rattle.std.proofs.Common.{sym, ap, ◌∙◌, subst, arith, IsUtf8}
use Rattle.std.proofs.lemmas.Str.{IsUtf8-string_bytes}
use Rattle.hm_tree_spelling.specs.Spelling.{spelled}
use Rattle.hm_tree_spelling.proofs.Spelled.{behind_quote, with_quotes, same_text}
use Rattle.hm_tree_spelling.proofs.unspelling.unspell_escaped.Goals as goal

pub returns-in_default : goal.returns-in_default
returns-in_default c = λ name rest text. behind_quote c.args.rest.now (rw c.in_default.is at c.in_ok-text.ensures) name rest

pub returns-in-Ok : goal.returns-in-Ok
returns-in-Ok c =
    let found = rw c.in-Some.is at c.in_ok-text.ensures in
    let same = c.in_ok-from_string-in-Ok.ensures.value ∙ ap (λ v. v.items) c.in-Ok.ensures.ok in (
      subst IsUtf8 (sym c.in_ok-from_string-in-Ok.ensures.value) (IsUtf8-string_bytes c.in-Ok.text),
      omega (arith, found.0),
      with_quotes c.args.rest.now c.in-Some.text.items c.in-Some.length found.1 ∙ ap spelled (sym same),
    )

pub returns : goal.returns
returns c = λ name rest text e.
    let found = rw c.in-Some.is at c.in_ok-text.ensures in
    let same = same_text c.args.rest.now c.in-Some.text.items c.in-Some.length found.1 name rest e in
    let ok = c.in-Err.ensures.succeeds (subst IsUtf8 same text) in
    let no : ⊥ = cc in no
