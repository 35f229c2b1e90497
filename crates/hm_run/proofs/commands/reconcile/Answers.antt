use Rattle.std.proofs.Common.{◌≡◌, ◌∙◌, map, ap, sym, length, refl, rules, true, false}
use Rattle.hm_run_effects.specs.Effects.{effect_value}
use Rattle.hm_run_files.specs.Files.{all_bytes, new_of}
use Rattle.hm_run_sync.specs.Verdict.{conflicts_status, said}
use Rattle.hm_run.specs.Commands.{news_if}
use Rattle.hm_run.proofs.Doing.{names_so, plan_stopped, planned_so}
use Rattle.hm_run.proofs.commands.reconcile.Goals as goal

pub returns-in_err-news : goal.returns-in_err-news
returns-in_err-news g c =
    let named = names_so c.args.files.now c.args.files.now c.archive-item.result c.left-item.result c.right-item.result refl c.requires.six c.archive-item.is c.left-item.is c.right-item.is in
    plan_stopped _ c.args.writes c.args.quiet c.args.files.now (all_bytes c.args.loads) _ named
    c.in_err-news.field-0.0 c.from_residual.result (search rules) c.in_err-news.ensures

pub returns-then-not-writes : goal.returns-then-not-writes
returns-then-not-writes g c =
    let named = names_so c.args.files.now c.args.files.now c.archive-item.result c.left-item.result c.right-item.result refl c.requires.six c.archive-item.is c.left-item.is c.right-item.is in
    let reads : c.args.writes ≡ false = search rules in (
      planned_so _ c.args.writes c.args.quiet c.args.files.now (all_bytes c.args.loads) _ named
          (map new_of c.in_ok-news.news) c.in_ok-news.summary c.in_ok-news.ensures.0 (effect_value (record { news = c.new.result; output = c.in_ok-output.output }))
          (ap (map new_of) c.new.ensures.items ∙ ap (λ w. news_if w (map new_of c.in_ok-news.news)) (sym reads))
          (c.in_ok-output.ensures.status ∙ ap (λ cs. conflicts_status (length cs)) c.deref.ensures.value)
          (c.in_ok-output.ensures.text ∙ ap (said c.args.quiet) c.deref.ensures.value),
      refl,
    )

pub returns : goal.returns
returns g c =
    let named = names_so c.args.files.now c.args.files.now c.archive-item.result c.left-item.result c.right-item.result refl c.requires.six c.archive-item.is c.left-item.is c.right-item.is in
    let writes : c.args.writes ≡ true = search rules in (
      planned_so _ c.args.writes c.args.quiet c.args.files.now (all_bytes c.args.loads) _ named
          (map new_of c.in_ok-news.news) c.in_ok-news.summary c.in_ok-news.ensures.0 (effect_value (record { news = c.in_ok-from_array.field-0; output = c.in_ok-output.output }))
          (ap (map new_of) c.in_ok-from_array.ensures.items ∙ ap (λ w. news_if w (map new_of c.in_ok-news.news)) (sym writes))
          (c.in_ok-output.ensures.status ∙ ap (λ cs. conflicts_status (length cs)) c.deref.ensures.value)
          (c.in_ok-output.ensures.text ∙ ap (said c.args.quiet) c.deref.ensures.value),
      refl,
    )
