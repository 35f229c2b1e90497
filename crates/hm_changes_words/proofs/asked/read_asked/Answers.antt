use Rattle.std.proofs.Common.{◌≡◌, ◌∙◌, List, ap, map}
use Rattle.std.specs.Borrow.{Bor}
use Rattle.std.specs.Option.{option_map}
use Rattle.std.proofs.lemmas.Result.{IfOk-weaker}
use Rattle.clap.specs.Words.{app_of, found_of, rows_of}
use Rattle.clap.specs.Walk.{Text}
use Rattle.hm_changes_words.specs.Asked.{asked_value}
use Rattle.hm_changes_words.proofs.Answered.{accepted, refused}
use Rattle.hm_changes_words.proofs.asked.read_asked.Goals as goal

abbrev texts : List (Bor Text) → List Text
texts = map (λ text. text.now)

pub returns-in-Ok : goal.returns-in-Ok
returns-in-Ok c =
    let are : texts c.as_slice.result.now ≡ c.args.words.now = ap texts c.as_slice.ensures.value ∙ c.in_ok-texts.ensures in
    IfOk-weaker c.asked_found.result _ _ (λ asked so.
    accepted (app_of c.in_ok-command.field-0) (texts c.as_slice.result.now) c.args.words.now c.in_ok-command.ensures are
    c.in-Ok.ensures.kinds (rows_of (found_of c.in-Ok.matches)) c.in-Ok.ensures.matches (option_map asked_value asked) so) c.asked_found.ensures

pub returns : goal.returns
returns c =
    let are : texts c.as_slice.result.now ≡ c.args.words.now = ap texts c.as_slice.ensures.value ∙ c.in_ok-texts.ensures in
    refused (app_of c.in_ok-command.field-0) (texts c.as_slice.result.now) c.args.words.now c.in_ok-command.ensures are
    c.in-Err.error c.in-Err.ensures.kinds (λ memory. c.in_default.not-OutOfMemory (c.kind.ensures ∙ memory))
