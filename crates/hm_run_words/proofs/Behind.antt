-- What is put behind a line in two steps.
use Rattle.std.proofs.Common.{◌≡◌, ℕ, List, ◌++◌, Result, sym, ap, ◌∙◌}
use Rattle.std.specs.Prelude.{OnOk}
use Rattle.std.proofs.lemmas.List.{append_assoc}
use Rattle.std.proofs.lemmas.Result.{on_ok_weaker}

pub behind_both : {E : Type 0} (r : Result (Unit {0}) E) (line mid new first second third : List ℕ)
    → mid ≡ line ++ first → OnOk r (new ≡ mid ++ (second ++ third)) → OnOk r (new ≡ line ++ (first ++ second ++ third))
behind_both r line mid new first second third is h =
    on_ok_weaker r
    (λ e. e ∙ ap (λ l. l ++ (second ++ third)) is ∙ append_assoc line first (second ++ third)
    ∙ ap (λ l. line ++ l) (sym (append_assoc first second third))) h
