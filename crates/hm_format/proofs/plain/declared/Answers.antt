use Rattle.std.proofs.Common.{rules}
use Rattle.hm_schema.specs.Values.{options_value}
use Rattle.hm_format.proofs.Rooted.{formed}
use Rattle.hm_format.proofs.plain.declared.Goals as goal

pub new-requires : goal.new-requires
new-requires c =
    formed (options_value c.args.options.now) c.in_ok-nodes.nodes.items c.root_place-place.result (search rules) (search rules) c.requires
