use Rattle.std.proofs.Common.{◌≡◌, ◌∙◌, List, ap, map}
use Rattle.std.specs.Borrow.{Bor}
use Rattle.clap.specs.Words.{app_of, found_of, rows_of}
use Rattle.clap.specs.Walk.{Text}
use Rattle.hm_command_line.specs.Words.{line_value}
use Rattle.hm_command_line.proofs.Answered.{accepted, refused}
use Rattle.hm_command_line.proofs.line.read_line.Goals as goal

abbrev texts : List (Bor Text) → List Text
texts = map (λ text. text.now)

pub returns-in-Ok : goal.returns-in-Ok
returns-in-Ok c =
    let are : texts c.as_slice.result.now ≡ c.args.words.now = ap texts c.as_slice.ensures.value ∙ c.in_ok-texts.ensures.values in
    accepted c.args.words.now c.in_ok-texts.ensures.utf8 (app_of c.in_ok-command.field-0) (texts c.as_slice.result.now) c.in_ok-command.ensures are
    c.in-Ok.ensures.kinds (rows_of (found_of c.in-Ok.matches)) c.in-Ok.ensures.matches (line_value c.in_ok-line_found-in-Ok.field-0) c.in_ok-line_found-in-Ok.ensures

pub returns : goal.returns
returns c =
    let are : texts c.as_slice.result.now ≡ c.args.words.now = ap texts c.as_slice.ensures.value ∙ c.in_ok-texts.ensures.values in
    refused c.args.words.now c.in_ok-texts.ensures.utf8 (app_of c.in_ok-command.field-0) (texts c.as_slice.result.now) c.in_ok-command.ensures are
    c.in-Err.error c.in-Err.ensures.kinds (λ memory. c.in_default.not-OutOfMemory (c.kind.ensures ∙ memory))
