use Rattle.std.proofs.Common.{◌≡◌, ◌∙◌, map, ap, sym, length, refl, rules, Err}
use Rattle.std.proofs.lemmas.List.{length-map}
use Rattle.hm_command_line.specs.Requests.{request_value}
use Rattle.hm_run_effects.specs.Effects.{effect_value}
use Rattle.hm_run_effects.proofs.Acting.{loads_stop, effect_stop, writes_stop, done}
use Rattle.hm_run_files.specs.Files.{all_bytes, file_of, new_of}
use Rattle.hm_run_handed.specs.Handed.{handed_in}
use Rattle.hm_run_words.specs.Slots.{slots_of, files_of}
use Rattle.hm_run.specs.Commands.{finding_of}
use Rattle.hm_run.proofs.Doing.{paired_length}
use Rattle.hm_run.proofs.acting.act.Goals as goal

pub returns-in_err-loads : goal.returns-in_err-loads
returns-in_err-loads g c =
    let are : map file_of c.deref.result.now ≡ files_of (request_value c.args.request.now) = ap (map file_of) c.deref.ensures.value ∙ c.in_ok-files.ensures in
    let is : c.from_residual-in_err-loads.result ≡ Err c.in_err-loads.field-0.0 = search rules in
    rw is (loads_stop (finding_of (handed_in c.args.given (λ o. (goal.Format-dyn g o).means o.1) (λ o. (goal.TextLens-dyn g o).meaning o.1)) (request_value c.args.request.now)) (files_of (request_value c.args.request.now)) c.load_all.ensures.contents _ _ _ (rw are at c.in_err-loads.ensures.did))

pub effect_of-requires-clause-loads : goal.effect_of-requires-clause-loads
effect_of-requires-clause-loads g c =
    let are : map file_of c.deref.result.now ≡ files_of (request_value c.args.request.now) = ap (map file_of) c.deref.ensures.value ∙ c.in_ok-files.ensures in
    c.in_ok-loads.ensures.many ∙ sym (length-map c.deref.result.now file_of) ∙ ap length are
    ∙ paired_length (slots_of c.args.request.now.command) c.args.request.now.files.items c.requires

pub returns-in_err-effect : goal.returns-in_err-effect
returns-in_err-effect g c =
    let are : map file_of c.deref.result.now ≡ files_of (request_value c.args.request.now) = ap (map file_of) c.deref.ensures.value ∙ c.in_ok-files.ensures in
    let is : c.from_residual-in_err-effect.result ≡ Err c.in_err-effect.field-0.0 = search rules in
    rw is (effect_stop (finding_of (handed_in c.args.given (λ o. (goal.Format-dyn g o).means o.1) (λ o. (goal.TextLens-dyn g o).meaning o.1)) (request_value c.args.request.now)) (files_of (request_value c.args.request.now)) c.load_all.ensures.contents c.in_ok-loads.ensures.did.1
    (all_bytes c.in_ok-loads.loads) (rw are at c.in_ok-loads.ensures.did.0) c.in_err-effect.field-0.0 c.in_err-effect.ensures)

pub returns-in_err-write_all : goal.returns-in_err-write_all
returns-in_err-write_all g c =
    let are : map file_of c.deref.result.now ≡ files_of (request_value c.args.request.now) = ap (map file_of) c.deref.ensures.value ∙ c.in_ok-files.ensures in
    let news : map new_of c.deref-2.result.now ≡ map new_of c.in_ok-effect.effect.news.items = ap (map new_of) c.deref-2.ensures.value in
    let is : c.from_residual-in_err-write_all.result ≡ Err c.in_err-write_all.field-0.0 = search rules in
    rw is (writes_stop (finding_of (handed_in c.args.given (λ o. (goal.Format-dyn g o).means o.1) (λ o. (goal.TextLens-dyn g o).meaning o.1)) (request_value c.args.request.now)) (files_of (request_value c.args.request.now)) c.load_all.ensures.contents c.in_ok-loads.ensures.did.1
    (all_bytes c.in_ok-loads.loads) (rw are at c.in_ok-loads.ensures.did.0) (effect_value c.in_ok-effect.effect) c.in_ok-effect.ensures.0 _ _ _ (rw news at c.in_err-write_all.ensures.did)
    (λ m. rw news at (c.in_err-write_all.ensures.memory (rw m refl))))

pub returns : goal.returns
returns g c =
    let are : map file_of c.deref.result.now ≡ files_of (request_value c.args.request.now) = ap (map file_of) c.deref.ensures.value ∙ c.in_ok-files.ensures in
    let news : map new_of c.deref-2.result.now ≡ map new_of c.in_ok-effect.effect.news.items = ap (map new_of) c.deref-2.ensures.value in (
      (
        done (finding_of (handed_in c.args.given (λ o. (goal.Format-dyn g o).means o.1) (λ o. (goal.TextLens-dyn g o).meaning o.1)) (request_value c.args.request.now)) (files_of (request_value c.args.request.now)) c.load_all.ensures.contents c.in_ok-loads.ensures.did.1
            (all_bytes c.in_ok-loads.loads) (rw are at c.in_ok-loads.ensures.did.0) (effect_value c.in_ok-effect.effect) c.in_ok-effect.ensures.0 _ c.in_ok-effect.effect.output
            (record { status = refl; text = refl }) (rw news at c.in_ok-write_all.ensures.did.0.1),
        c.in_ok-write_all.ensures.did.1 ∙ c.in_ok-loads.ensures.did.1,
      ),
      λ spent. absurd (let no : ⊥ = cc in no),
    )
