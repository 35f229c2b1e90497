use Rattle.std.proofs.Common.{◌∙◌, sym, ap, string_bytes}
use Rattle.std.specs.Bool.{◌==◌}
use Rattle.std.specs.List.{list_any}
use Rattle.hm_alike.proofs.Squeezed.{squeezed-itself}
use Rattle.hm_alike.proofs.squeezing.squeeze.Goals as goal

pub returns : goal.returns
returns c =
    sym (squeezed-itself (string_bytes c.args.text)
    (ap (list_any (λ b. b == 32)) (sym c.as_str.ensures.value) ∙ sym c.has_space.ensures ∙ c.if-has_space.false))
