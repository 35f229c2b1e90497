use Rattle.std.proofs.Common.{map, rules, subst, All, IsUtf8, List}
use Rattle.hm_tree.specs.Names.{Name}
use Rattle.hm_schema.specs.Values.{pair_value}
use Rattle.hm_terms.specs.Programs.{program_value}
use Rattle.hm_run_handed.specs.Handed.{handed_in}
use Rattle.hm_run_sides.proofs.OpenedSides.{unread, unknown, no_source, untyped, opened, is_side}
use Rattle.hm_run_sides.proofs.opening.open_side.Goals as goal

pub returns-in_err-program-clause-opens : goal.returns-in_err-program-clause-opens
returns-in_err-program-clause-opens g c =
    unread (handed_in c.args.given (λ o. (goal.Format-dyn g o).means o.1) (λ o. (goal.TextLens-dyn g o).meaning o.1)) c.args.slot c.args.bytes.now
    c.in_err-program.field-0.0 c.from_residual.result (search rules) c.in_err-program.ensures.reads

pub returns-in_err-place-clause-opens : goal.returns-in_err-place-clause-opens
returns-in_err-place-clause-opens g c =
    unknown (handed_in c.args.given (λ o. (goal.Format-dyn g o).means o.1) (λ o. (goal.TextLens-dyn g o).meaning o.1)) c.args.slot c.args.bytes.now
    c.in_err-place.field-0.0 c.from_residual-in_err-place.result (search rules) (program_value c.in_ok-program.program) c.in_ok-program.ensures.reads.0
    c.in_err-place.ensures.finds

pub returns-in_err-source-clause-opens : goal.returns-in_err-source-clause-opens
returns-in_err-source-clause-opens g c =
    no_source (handed_in c.args.given (λ o. (goal.Format-dyn g o).means o.1) (λ o. (goal.TextLens-dyn g o).meaning o.1)) c.args.slot c.args.bytes.now
    c.in_err-source.field-0.0 c.from_residual-in_err-source.result (search rules) (program_value c.in_ok-program.program) c.in_ok-program.ensures.reads.0
    c.in_ok-place.place c.in_ok-place.ensures.finds.0 c.in_err-source.ensures.gives

pub returns-in_err-typed-clause-opens : goal.returns-in_err-typed-clause-opens
returns-in_err-typed-clause-opens g c =
    untyped (handed_in c.args.given (λ o. (goal.Format-dyn g o).means o.1) (λ o. (goal.TextLens-dyn g o).meaning o.1)) c.args.slot c.args.bytes.now
    c.in_err-typed.field-0.0 c.from_residual-in_err-typed.result (search rules) (program_value c.in_ok-program.program) c.in_ok-program.ensures.reads.0
    c.in_ok-place.place c.in_ok-place.ensures.finds.0 c.in_ok-source.source c.in_ok-source.ensures.gives.0 c.in_err-typed.ensures.checks

pub returns-clause-opens : goal.returns-clause-opens
returns-clause-opens g c =
    opened (handed_in c.args.given (λ o. (goal.Format-dyn g o).means o.1) (λ o. (goal.TextLens-dyn g o).meaning o.1)) c.args.slot c.args.bytes.now
    (program_value c.in_ok-program.program) c.in_ok-place.place c.in_ok-source.source c.in_ok-source.ensures.gives.0
    c.in_ok-typed.typed c.in_ok-typed.ensures.accepted c.in_ok-program.ensures.reads.0 c.in_ok-place.ensures.finds.0 c.in_ok-typed.ensures.checks.0

pub returns-clause-side : goal.returns-clause-side
returns-clause-side g c =
    is_side (handed_in c.args.given (λ o. (goal.Format-dyn g o).means o.1) (λ o. (goal.TextLens-dyn g o).meaning o.1)) c.args.slot c.args.bytes.now
    (program_value c.in_ok-program.program) c.in_ok-place.place c.in_ok-source.source c.in_ok-source.ensures.gives.0
    c.in_ok-typed.typed c.in_ok-typed.ensures.accepted c.in_ok-place.ensures.lawful c.in_ok-program.ensures.well_formed
    (subst (λ pairs. All (λ (q : Name × List Name). All IsUtf8 q.1) (map pair_value pairs)) c.deref.ensures.value c.values_are_texts.ensures)

pub source_of-requires-clause-options : goal.source_of-requires-clause-options
source_of-requires-clause-options g c =
    let well = c.in_ok-program.ensures.well_formed in record {
      texts = subst (λ pairs. All (λ (q : Name × List Name). All IsUtf8 q.1) (map pair_value pairs)) c.deref.ensures.value c.values_are_texts.ensures;
      named = well.named;
      types = well.types;
    }
