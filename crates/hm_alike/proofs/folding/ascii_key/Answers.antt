use Rattle.std.proofs.Common.{map, sym, ap, ◌∙◌}
use Rattle.std.specs.Char.{to_ascii_lowercase}
use Rattle.hm_alike.proofs.Keys.{caseless_key-ascii}
use Rattle.hm_alike.proofs.folding.ascii_key.Goals as goal

pub returns : goal.returns
returns c =
    c.make_ascii_lowercase.ensures.bytes ∙ ap (map to_ascii_lowercase) c.in_ok-key.ensures.ok ∙ sym (caseless_key-ascii c.args.text.now c.requires)
