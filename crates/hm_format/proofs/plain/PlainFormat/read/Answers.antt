use Rattle.std.proofs.Common.{◌≡◌, ◌∙◌, subst, Some}
use Rattle.hm_tree.specs.States.{state}
use Rattle.hm_schema.specs.Values.{SchemaValue, options_value}
use Rattle.hm_schema.specs.Membership.{IsAnswer}
use Rattle.hm_format.specs.Plain.{plain_schema}
use Rattle.hm_format.proofs.PlainExits.{outside_given}
use Rattle.hm_format.proofs.plain.PlainFormat.read.Goals as goal

pub returns-in-Some : goal.returns-in-Some
returns-in-Some c =
    let same : c.in_ok-schema.schema ≡ plain_schema (options_value c.args.options.now) = c.in_ok-schema.ensures ∙ c.in_ok-declared.ensures in
    outside_given (plain_schema (options_value c.args.options.now)) c.args.bytes.now c.in_ok-tree.tree c.in_ok-first_outside.field-0 c.in-Some.path
    c.in-Some.is c.in_ok-tree.ensures
    (subst (λ (s : SchemaValue). IsAnswer s s.root (state (Some c.in_ok-tree.tree)) c.in_ok-first_outside.field-0) same c.in_ok-first_outside.ensures)
