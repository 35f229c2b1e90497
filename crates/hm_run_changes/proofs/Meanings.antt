-- What the words ask for, by what is read of them and by the names of the files.
use Rattle.std.proofs.Common.{◌≡◌, ◌∙◌, ℕ, List, length, Option, Some, None, Result, Ok, Err, sym, ap, subst}
use Rattle.hm_tree.specs.Names.{Name}
use Rattle.hm_command_line.specs.declared.request.Request.{Request}
use Rattle.hm_command_line.specs.Requests.{RequestValue, request_value}
use Rattle.hm_changes_words.specs.Asked.{AskedValue, asked_of}
use Rattle.hm_changes_words.proofs.SixFiles.{six_asked}
use Rattle.hm_run_files.specs.declared.stop.Refusal.TheVariants.{Usage}
use Rattle.hm_run_files.specs.declared.stop.Stop.{Stop}
use Rattle.hm_run_files.specs.declared.stop.Stop.TheVariants.{Refused, Fault, Memory}
use Rattle.hm_run_files.specs.Files.{File}
use Rattle.hm_run_files.proofs.Steps.{ok_is}
use Rattle.hm_run_words.specs.Slots.{files_of}
use Rattle.hm_run_words.specs.Words.{same_pair, names_differ, apart, checked, AnswersOrStops}
use Rattle.hm_run_changes.specs.declared.meaning.Question.{Question}
use Rattle.hm_run_changes.specs.Endings.{plan_request, question_value, IsForPlan, if_apart, asked_apart, meaning}

pub no_meaning : (words : List Name) → None ≡ asked_of words → meaning words ≡ Err Usage
unfolding meaning
no_meaning words none = ap asked_apart (sym none)

checked_same : (r s : RequestValue) → checked (Some r) ≡ Ok s → r ≡ s
checked_same r s = go (same_pair (names_differ r.command) (files_of r))
  where
    go : (pair : Option (File × File)) → apart r pair ≡ Ok s → r ≡ s
    go None e = ok_is _ _ e
    go (Some p) e = absurd (let no : ⊥ = cc in no)

module _ (words : List Name) (asked : AskedValue) (is : Some asked ≡ asked_of words) where
  meant : meaning words ≡ if_apart asked (checked (Some (plan_request asked)))
  unfolding meaning
  meant = ap asked_apart (sym is)

  pub stops_apart : (stop : Stop) → AnswersOrStops {A = Request} request_value (checked (Some (plan_request asked))) (Err stop) → (answer : Result Question Stop) → answer ≡ Err stop
      → AnswersOrStops question_value (meaning words) answer
  stops_apart stop a answer e = subst (AnswersOrStops question_value (meaning words)) (sym e) (go stop a)
    where
      go : (stop : Stop) → AnswersOrStops {A = Request} request_value (checked (Some (plan_request asked))) (Err stop) → AnswersOrStops {A = Question} question_value (meaning words) (Err stop)
      go (Refused refusal) a = meant ∙ ap (if_apart asked) a
      go (Fault kind at) a = a
      go Memory a = tt

  pub answers_apart : (request : Request) → AnswersOrStops request_value (checked (Some (plan_request asked))) (Ok request) → (most : Option ℕ) → most ≡ asked.most
      → AnswersOrStops question_value (meaning words) (Ok (record { most = most; request = request }))
  answers_apart request a most same =
      let files : asked.files ≡ request.files.items = ap (λ (r : RequestValue). r.files) (checked_same (plan_request asked) (request_value request) a) in
      meant ∙ ap (if_apart asked) a ∙ (λ i. Ok (record { most = sym same i; files = files i }))

  pub plan_apart : (request : Request) → AnswersOrStops request_value (checked (Some (plan_request asked))) (Ok request) → IsForPlan request
  plan_apart request a =
      let same = checked_same (plan_request asked) (request_value request) a in record {
        is_plan = sym (ap (λ (r : RequestValue). r.command) same);
        six = sym (ap (λ (r : RequestValue). length r.files) same) ∙ six_asked words asked is;
      }
