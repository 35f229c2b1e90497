use Rattle.std.proofs.Common.{◌∷◌, [], sym, subst, arith, ℕ, List}
use Rattle.std.specs.Prelude.{Vec, All}
use Rattle.std.specs.declared.alloc.Global.{Global}
use Rattle.std.specs.Str.{IsUtf8}
use Rattle.std.proofs.lemmas.List.Elements.{All-append, All-cons}
use Rattle.hm_format_cases.proofs.setting.lines_of.Goals as goal

pub loop-text-preserved : goal.loop-text-preserved
loop-text-preserved c =
    let P : Vec ℕ Global → Type 0 = λ line. IsUtf8 line.items in
    let one : IsUtf8 c.in_ok-from_slice.field-0.items = subst IsUtf8 (sym c.in_ok-from_slice.ensures.items) c.as_bytes.ensures.utf8 in
    subst (λ (lines : List (Vec ℕ Global)). All P lines) (sym c.in_ok-push.ensures.items)
    (All-append P c.loop-text.lines.items (c.in_ok-from_slice.field-0 ∷ []) c.loop-text.invariant
    (All-cons P c.in_ok-from_slice.field-0 [] one (λ k d lt. absurd (omega arith))))
