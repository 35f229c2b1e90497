use Rattle.std.proofs.Common.{Option, subst, Some}
use Rattle.hm_tree.specs.States.{Path, state}
use Rattle.hm_schema.specs.Values.{options_value}
use Rattle.hm_schema.specs.Membership.{IsAnswer}
use Rattle.format_trials.proofs.formats.written.Goals as goal

pub first_outside-requires : goal.first_outside-requires
first_outside-requires g c = c.tag-tag.ensures.lawful.no_twins (options_value c.args.options.now) c.args.schema.now c.requires.sound c.requires.schema

pub write-requires : goal.write-requires
write-requires g c =
    let s = c.args.schema.now in
    record {
      options = record { sound = c.requires.sound; schema = s; has = c.requires.schema };
      member = subst (λ (found : Option Path). IsAnswer s s.root (state (Some c.args.tree.now)) found) c.in-None.is c.in_ok-first_outside.ensures;
      old = c.in_ok-read-in-None.field-0;
      read = c.in_ok-read-in-None.ensures;
    }
