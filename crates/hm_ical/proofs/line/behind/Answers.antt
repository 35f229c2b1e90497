use Rattle.std.proofs.Common.{◌++◌, sym, ap, ◌∙◌}
use Rattle.std.proofs.lemmas.Bool.{both_ways, false_from_ne_true}
use Rattle.hm_lines_files.specs.Components.{Bytes}
use Rattle.hm_ical.specs.Lines.{is_same}
use Rattle.hm_ical.proofs.Fronts.{front_there, front_taken, front_boundary}
use Rattle.hm_ical.proofs.line.behind.Goals as goal
use Rattle.hm_ical.proofs.line.behind.Goals.{in_default-via-in-Some+else-is_same, in_default-via-in_default}

pub returns-in-Some : goal.returns-in-Some
returns-in-Some c =
    let line = c.args.line.now in
    let front = c.args.front.now in
    let same = sym c.is_same.ensures ∙ c.if-is_same.true in
    (ap (λ (l : Bytes). is_same line (front ++ l)) c.in-Some.ensures.back ∙ front_there line front (ap (λ (l : Bytes). is_same l front) (sym c.in-Some.ensures.front) ∙ same), c.in-Some.ensures.back)

pub returns-in_default : goal.returns-in_default
returns-in_default c = λ rest.
    let line = c.args.line.now in
    let front = c.args.front.now in
    elim c.in_default.branch [
      | in_default-via-in-Some+else-is_same w ↦
          let differs = sym w.is_same.ensures ∙ w.if-is_same.false in
          false_from_ne_true (is_same line (front ++ rest))
          (λ e. both_ways (is_same w.in-Some.start.now front) differs (ap (λ (l : Bytes). is_same l front) w.in-Some.ensures.front ∙ front_taken line front rest e))
      | in_default-via-in_default w ↦
          false_from_ne_true (is_same line (front ++ rest)) (λ e. let bad = w.in_default.ensures.variant.1 (front_boundary line front rest c.requires e c.utf8.line) in let no_rest : ⊥ = cc in no_rest)
    ]
