use Rattle.std.proofs.Common.{◌≡◌, sym, ap, ◌∙◌, subst, rules, IsUtf8}
use Rattle.std.specs.Prelude.{string_bytes}
use Rattle.std.proofs.lemmas.Result.{IfOk-weaker}
use Rattle.hm_tree.specs.Cleaned.{cleaned}
use Rattle.hm_tree.specs.Classes.{IsClean}
use Rattle.hm_tree.proofs.Classed.{cleaned-cleaned}
use Rattle.hm_tree.proofs.CleanText.{cleaned_utf8}
use Rattle.hm_tree.proofs.name.Name.cleaned.Goals as goal

pub unreachable-requires : goal.unreachable-requires
unreachable-requires c =
    let text : IsUtf8 c.in_ok-bytes.bytes.items = subst IsUtf8 (sym (c.in_ok-bytes.ensures ∙ ap cleaned c.as_bytes-2.ensures.value))
    (cleaned_utf8 c.args.text.now c.utf8.text) in
    let ok = c.in-Err.ensures.succeeds text in
    let no : ⊥ = cc in no

pub returns-clause-clean : goal.returns-clause-clean
returns-clause-clean c =
    let is : string_bytes c.in-Ok.text ≡ cleaned c.args.text.now = search rules in
    IfOk-weaker c.from_string.result _ IsClean (λ name e. subst IsClean (sym (e ∙ is)) (cleaned-cleaned c.args.text.now)) c.from_string.ensures.value
