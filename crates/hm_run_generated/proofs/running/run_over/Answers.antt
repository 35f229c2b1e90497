use Rattle.std.proofs.Common.{◌∙◌, map, ap, refl, rules, Ok, Err}
use Rattle.hm_run_files.specs.Files.{all_bytes, file_of, new_of}
use Rattle.hm_run_effects.specs.Effects.{output_value, says}
use Rattle.hm_run_sync.specs.Verdict.{names_in}
use Rattle.hm_run_generated.specs.Stored.{store_names, files_named, new_names, generated_contents}
use Rattle.hm_run_generated.proofs.Calm.{loads_as}
use Rattle.hm_run_generated.proofs.Numbers.{loads_stopped, plan_stopped, told}
use Rattle.hm_run_generated.proofs.running.run_over.Goals as goal

pub returns-in_err-loads : goal.returns-in_err-loads
returns-in_err-loads g c =
    loads_stopped _ c.args.number c.from_residual.result c.in_err-loads.field-0.0 (search rules)
    (loads_as _ (generated_contents c.args.number) _ (files_named store_names) _ _ c.requires.store (c.slots.ensures ∙ ap files_named c.requires.names)
    c.load_all.result (Err c.in_err-loads.field-0.0) c.in_err-loads.ensures c.load_all.ensures.did)

pub returns-in_err-news : goal.returns-in_err-news
returns-in_err-news g c =
    let loaded = loads_as _ (generated_contents c.args.number) _ (files_named store_names) _ _ c.requires.store (c.slots.ensures ∙ ap files_named c.requires.names)
    c.load_all.result (Ok c.in_ok-loads.loads) c.in_ok-loads.ensures c.load_all.ensures.did in
    plan_stopped _ c.args.number c.from_residual-in_err-news.result (all_bytes c.in_ok-loads.loads) loaded.0 (names_in c.written.result)
    (c.written.ensures ∙ ap new_names c.requires.names) c.in_err-news.field-0.0 (search rules) c.in_err-news.ensures

pub returns : goal.returns
returns g c =
    let loaded = loads_as _ (generated_contents c.args.number) _ (files_named store_names) _ _ c.requires.store (c.slots.ensures ∙ ap files_named c.requires.names)
    c.load_all.result (Ok c.in_ok-loads.loads) c.in_ok-loads.ensures c.load_all.ensures.did in (
      told _ c.args.number (Ok (record { status = 0; text = c.in_ok-text.text })) (all_bytes c.in_ok-loads.loads) loaded.0 (names_in c.written.result)
          (c.written.ensures ∙ ap new_names c.requires.names) (map new_of c.in_ok-news.news) c.in_ok-news.summary c.in_ok-news.ensures.0
          (output_value (record { status = 0; text = c.in_ok-text.text })) (λ i. says (c.in_ok-text.ensures i)),
      refl,
    )
