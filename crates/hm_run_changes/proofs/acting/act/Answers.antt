use Rattle.std.proofs.Common.{◌≡◌, ◌∙◌, map, ap, sym, length, rules, Err}
use Rattle.std.proofs.lemmas.List.{length-map}
use Rattle.hm_run_effects.proofs.Acting.{loads_stop}
use Rattle.hm_run_files.specs.Files.{all_bytes, file_of}
use Rattle.hm_run_handed.specs.Handed.{handed_in}
use Rattle.hm_run_changes.specs.Changing.{FindsChanges}
use Rattle.hm_run_changes.specs.Endings.{plan_files, question_value}
use Rattle.hm_run_changes.proofs.Carried.{acts_found, six_files, files_planned}
use Rattle.hm_run_changes.proofs.acting.act.Goals as goal

pub returns-in_err-loads : goal.returns-in_err-loads
returns-in_err-loads g c =
    let are : map file_of c.deref.result.now ≡ plan_files (question_value c.args.question.now) =
    ap (map file_of) c.deref.ensures.value ∙ c.in_ok-files.ensures ∙ files_planned c.args.question.now c.requires in
    let is : c.from_residual-in_err-loads.result ≡ Err c.in_err-loads.field-0.0 = search rules in
    rw is (loads_stop (FindsChanges (handed_in c.args.given (λ o. (goal.Format-dyn g o).means o.1) (λ o. (goal.TextLens-dyn g o).meaning o.1)) c.args.question.now.most c.args.question.now.request.files.items)
    (plan_files (question_value c.args.question.now)) c.load_all.ensures.contents _ _ _ (rw are at c.in_err-loads.ensures.did))

pub find_changes-requires-clause-loads : goal.find_changes-requires-clause-loads
find_changes-requires-clause-loads g c =
    let are : map file_of c.deref.result.now ≡ plan_files (question_value c.args.question.now) =
    ap (map file_of) c.deref.ensures.value ∙ c.in_ok-files.ensures ∙ files_planned c.args.question.now c.requires in
    c.in_ok-loads.ensures.many ∙ sym (length-map c.deref.result.now file_of) ∙ ap length are ∙ six_files c.args.question.now.request.files.items c.requires.six

pub returns : goal.returns
returns g c =
    let are : map file_of c.deref.result.now ≡ plan_files (question_value c.args.question.now) =
    ap (map file_of) c.deref.ensures.value ∙ c.in_ok-files.ensures ∙ files_planned c.args.question.now c.requires in
    acts_found (FindsChanges (handed_in c.args.given (λ o. (goal.Format-dyn g o).means o.1) (λ o. (goal.TextLens-dyn g o).meaning o.1)) c.args.question.now.most c.args.question.now.request.files.items)
    (plan_files (question_value c.args.question.now)) _ _ c.load_all.ensures.contents _ _ c.in_ok-loads.ensures.did.1
    (all_bytes c.in_ok-loads.loads) (rw are at c.in_ok-loads.ensures.did.0) c.find_changes.result (rw (← c.deref-2.ensures.value) c.find_changes.ensures)
