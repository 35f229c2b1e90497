use Rattle.std.proofs.Common.{List, ap, sym, subst, refl, ◌∙◌}
use Rattle.std.specs.Borrow.{Bor}
use Rattle.std.proofs.lemmas.List.{drop-map}
use Rattle.hm_lines_files.specs.Components.{Bytes}
use Rattle.hm_vcard.specs.Opening.{IsInFront, StopsCard, IsCardStop}
use Rattle.hm_vcard.specs.Lent.{card_lines}
use Rattle.hm_lines_files.specs.Lent.{texts}
use Rattle.hm_vcard.proofs.opening.card_at.Goals as goal

pub returns-in-Ok-clause-card : goal.returns-in-Ok-clause-card
returns-in-Ok-clause-card c =
    let same = ap texts c.split_at.ensures.back ∙ sym (drop-map (λ (l : Bor Bytes). l.now) c.args.from c.args.lines.now) in
    subst (λ (ls : List Bytes). IsInFront ls (card_lines c.in-Ok.card)) same c.in-Ok.ensures.card

pub returns-in-Err-At-clause-stop : goal.returns-in-Err-At-clause-stop
returns-in-Err-At-clause-stop c =
    let same = ap texts c.split_at.ensures.back ∙ sym (drop-map (λ (l : Bor Bytes). l.now) c.args.from c.args.lines.now) in
    let why = subst (IsCardStop (texts c.split_at.result.1.now)) c.in-Err-At.field-0-is c.in-Err-At.ensures.stop in
    (c.in-Err-At.place, (refl, subst (λ (ls : List Bytes). StopsCard ls c.in-Err-At.place) same why))
