use Rattle.std.proofs.Common.{◌≡◌, sym, ◌∙◌, subst, T, Bool, true}
use Rattle.hm_tree.proofs.Sorted.{is_less, past}
use Rattle.hm_tree.proofs.edges.is_past.Goals as goal

from_true : {b : Bool} → b ≡ true → T b
from_true e = subst T (sym e) tt

pub returns-in-Some : goal.returns-in-Some
returns-in-Some g c =
    λ less. past c.args.name.now c.args.edges.now c.requires c.in-Some.last.now (sym c.in-Some.ensures.value)
    (sym c.order.ensures ∙ is_less c.order.result (from_true (sym c.is_lt.ensures ∙ less)))
