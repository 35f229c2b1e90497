use Rattle.hm_command_line.specs.declared.request.Command.TheVariants.{Sync, Plan, Check, View, Generate}
use Rattle.hm_run_effects.specs.Effects.{effect_value, output_value}
use Rattle.hm_run_files.specs.Files.{all_bytes}
use Rattle.hm_run_sides.specs.Sides.{seen}
use Rattle.hm_run.proofs.Doing.{commanded, commanded_only}
use Rattle.hm_run.proofs.commands.effect_of.Goals as goal

pub returns-in-Sync : goal.returns-in-Sync
returns-in-Sync g c = commanded _ c.args.request.now.command Sync c.args.request.now.quiet c.args.request.now.files.items c.deref.result.now (all_bytes c.args.loads) (seen effect_value c.reconcile.result) c.in-Sync.is c.deref.ensures.value c.reconcile.ensures

pub returns-in-Plan : goal.returns-in-Plan
returns-in-Plan g c = commanded _ c.args.request.now.command Plan c.args.request.now.quiet c.args.request.now.files.items c.deref-in-Plan.result.now (all_bytes c.args.loads) (seen effect_value c.reconcile-in-Plan.result) c.in-Plan.is c.deref-in-Plan.ensures.value c.reconcile-in-Plan.ensures

pub returns-in-Check : goal.returns-in-Check
returns-in-Check g c =
    commanded_only _ c.args.request.now.command Check c.args.request.now.quiet c.args.request.now.files.items (all_bytes c.args.loads) _ (seen output_value c.check.result) c.in-Check.is c.only.ensures
    (rw c.deref-in-Check.ensures.value at c.check.ensures)

pub returns-in-View : goal.returns-in-View
returns-in-View g c =
    commanded_only _ c.args.request.now.command View c.args.request.now.quiet c.args.request.now.files.items (all_bytes c.args.loads) _ (seen output_value c.view.result) c.in-View.is c.only-in-View.ensures
    c.view.ensures

pub returns : goal.returns
returns g c =
    commanded_only _ c.args.request.now.command (Generate c.in-Generate.number) c.args.request.now.quiet c.args.request.now.files.items (all_bytes c.args.loads) _ (seen output_value c.run_generated.result)
    c.in-Generate.is c.only-in-Generate.ensures c.run_generated.ensures
