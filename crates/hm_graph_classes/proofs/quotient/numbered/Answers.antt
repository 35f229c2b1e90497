use Rattle.std.proofs.Common.{rules, ◌≡◌, ◌+◌, ◌<◌, ◌≤◌, ◌++◌, ◌∷◌, [], List, ℕ, Vec, length, sym, ap, subst, ◌∙◌, arith}
use Rattle.std.specs.declared.alloc.Global.{Global}
use Rattle.std.proofs.lemmas.List.{get_or_read}
use Rattle.hm_graph_classes.specs.Reduced.{class_at}
use Rattle.hm_graph_classes.specs.Partitions.{AreNumbers}
use Rattle.hm_graph_classes.proofs.Numbers.{numbers_same, numbers_new}
use Rattle.hm_graph_classes.proofs.quotient.numbered.Goals.{then-first-i+in_ok-push, else-first-i+in_ok-push-2+in_ok-push-3}
use Rattle.hm_graph_classes.proofs.quotient.numbered.Goals as goal

abbrev items : Vec ℕ Global → List ℕ
items v = v.items

pub loop-i-preserved : goal.loop-i-preserved
loop-i-preserved c =
    let firsts = c.args.firsts.now in
    let i = c.loop-i.i in
    let heads = c.loop-i.heads.items in
    let numbers = c.loop-i.numbers.items in
    let lt : i < length firsts = search rules in
    elim c.if-first-i.branch [
      | then-first-i+in_ok-push w ↦
          let low : class_at firsts i < i = search rules in
          let within : class_at firsts i < length numbers = omega (arith, low, c.loop-i.invariant.size) in
          let at : w.index.result.now ≡ class_at numbers (class_at firsts i) = get_or_read numbers _ _ within w.index.ensures 0 in
          let more : c.if-first-i.numbers.items ≡ numbers ++ w.index.result.now ∷ [] = ap items w.numbers-is ∙ w.in_ok-push.ensures.items in
          subst (λ heads. AreNumbers firsts heads c.if-first-i.numbers.items (i + 1)) (sym (ap items w.heads-is))
          (subst (λ numbers. AreNumbers firsts heads numbers (i + 1)) (sym (more ∙ ap (λ n. numbers ++ n ∷ []) at))
          (numbers_same firsts heads numbers i c.loop-i.invariant low (c.requires.first i lt)))
      | else-first-i+in_ok-push-2+in_ok-push-3 w ↦
          let high : i ≤ class_at firsts i = search rules in
          let low = c.requires.low i lt in
          let at : w.len.result ≡ length heads = search rules in
          let more : c.if-first-i.numbers.items ≡ numbers ++ w.len.result ∷ [] = ap items w.numbers-is ∙ w.in_ok-push-2.ensures.items in
          let others : c.if-first-i.heads.items ≡ heads ++ i ∷ [] = ap items w.heads-is ∙ w.in_ok-push-3.ensures.items in
          subst (λ heads. AreNumbers firsts heads c.if-first-i.numbers.items (i + 1)) (sym others)
          (subst (λ numbers. AreNumbers firsts (heads ++ i ∷ []) numbers (i + 1)) (sym (more ∙ ap (λ n. numbers ++ n ∷ []) at))
          (numbers_new firsts heads numbers i c.loop-i.invariant (omega (arith, high, low))))
    ]

pub returns : goal.returns
returns c =
    let end : c.loop-i.i ≡ length c.args.firsts.now = search rules in
    subst (AreNumbers c.args.firsts.now c.loop-i.heads.items c.loop-i.numbers.items) end c.loop-i.invariant
