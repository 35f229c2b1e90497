use Rattle.std.proofs.Common.{rules, refl}
use Rattle.hm_schema_lines.specs.Entries.{entry_values}
use Rattle.hm_schema_lines.proofs.Named.{own_place}
use Rattle.hm_schema_lines.proofs.build.node_of.Goals as goal

pub returns-in-Some : goal.returns-in-Some
returns-in-Some c =
    own_place (entry_values c.args.entries.now) c.args.declared.now c.requires.declared _ c.args.name.now _ refl (search rules) c.requires.node

pub returns-in-None : goal.returns-in-None
returns-in-None c =
    own_place (entry_values c.args.entries.now) c.args.declared.now c.requires.declared _ c.args.name.now _ refl (search rules) c.requires.node
