use Rattle.std.proofs.Common.{◌≡◌, ◌∙◌, IsUtf8, sym, ap, subst}
use Rattle.std.specs.Prelude.{IfOk}
use Rattle.hm_tree.specs.Cleaned.{cleaned}
use Rattle.hm_tree.specs.Names.{Name}
use Rattle.hm_lines.specs.Values.{backslash, unescaped}
use Rattle.hm_lines.specs.Folding.{HasNone}
use Rattle.hm_lines.proofs.Found.{not_found}
use Rattle.hm_lines.proofs.Escapes.{no_backslash}
use Rattle.hm_lines.proofs.EscapedText.{unescaped_utf8}
use Rattle.hm_lines.proofs.values.unescape.Goals as goal

pub returns-then-is_none : goal.returns-then-is_none
returns-then-is_none c =
    subst (λ (l : Name). IfOk c.cleaned.result (λ text. text ≡ cleaned l)) (sym (no_backslash c.args.value.now (subst (HasNone backslash) c.as_bytes.ensures.value (not_found backslash c.as_bytes.result.now c.memchr.result c.if-is_none.ensures c.memchr.ensures))))
    c.cleaned.ensures.value

pub unreachable-requires : goal.unreachable-requires
unreachable-requires c =
    let text : IsUtf8 c.in_ok-unescape_bytes.field-0.items =
    subst IsUtf8 (sym (c.in_ok-unescape_bytes.ensures ∙ ap unescaped c.as_bytes-2.ensures.value)) (unescaped_utf8 c.args.value.now c.utf8.value) in
    let ok = c.in-Err.ensures.succeeds text in
    let no_fault : ⊥ = cc in no_fault
