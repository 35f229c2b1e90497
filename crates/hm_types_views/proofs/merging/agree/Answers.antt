use Rattle.std.proofs.Common.{sym, subst, ◌∙◌}
use mathlib.Core.Bool.{true≢false}
use Rattle.hm_types_views.specs.Merging.{OthersAgree}
use Rattle.hm_types_views.proofs.merging.agree.Goals as goal

pub returns-then-names_agree : goal.returns-then-names_agree
returns-then-names_agree c n m e f =
    let nodes = c.args.table.now in
    let names = (c.names_agree.ensures n m e f).0 c.if-names_agree.true in (
      λ t. record {
        names = names;
        others = subst (λ x. OthersAgree nodes x m.other) (c.other.ensures n e)
            (subst (OthersAgree nodes c.other.result) (c.other-then-names_agree.ensures m f) (c.others_agree.ensures.0 t));
      },
      λ h. c.others_agree.ensures.1 (subst (λ x. OthersAgree nodes x c.other-then-names_agree.result) (sym (c.other.ensures n e))
          (subst (OthersAgree nodes n.other) (sym (c.other-then-names_agree.ensures m f)) h.others)),
    )

pub returns-else-names_agree : goal.returns-else-names_agree
returns-else-names_agree c n m e f = (
  λ t. absurd (true≢false (sym t ∙ c.if-names_agree.false)),
  λ h. (c.names_agree.ensures n m e f).1 h.names,
)
