use Rattle.std.proofs.Common.{◌≡◌, ◌+◌, List, Bool, length, sym, subst, ◌∙◌, arith, rules}
use Rattle.std.specs.Borrow.{Bor}
use Rattle.std.proofs.lemmas.List.{length-map}
use Rattle.hm_tree.specs.Names.{Name}
use Rattle.hm_lines_cards.specs.declared.line.Line.{Line}
use Rattle.hm_lines_cards.specs.Lines.{AreFew, IsFirstSecond}
use Rattle.hm_lines_cards.specs.Lent.{AreLines, lent, line_of}
use Rattle.hm_vcard.specs.Cards.{end_line}
use Rattle.hm_lines_files.specs.Components.{Bytes}
use Rattle.hm_vcard.specs.Opening.{IsCardStop, IsNoLineAt, IsLineAt}
use Rattle.hm_lines_files.specs.Lent.{texts}
use Rattle.hm_vcard.proofs.LentLines.{are_lines}
use Rattle.hm_vcard.proofs.FirstStops.{begin_stop, version_stop, two_there, second_stop, end_stop, front_card, front_there, ends_there}
use Rattle.hm_vcard.proofs.opening.first_card.Goals as goal
use Rattle.hm_lines_files.proofs.Stopped.{passed}

pub returns-in_err-begin-clause-stop : goal.returns-in_err-begin-clause-stop
returns-in_err-begin-clause-stop c =
    let L = texts c.args.lines.now in
    passed c.from_residual.result c.in_err-begin.field-0.0 (IsCardStop L) c.from_residual.ensures.1
    (begin_stop L c.in_err-begin.field-0.0 c.in_err-begin.ensures.stop)

pub returns-in_err-version-clause-stop : goal.returns-in_err-version-clause-stop
returns-in_err-version-clause-stop c =
    let L = texts c.args.lines.now in
    passed c.from_residual-in_err-version.result c.in_err-version.field-0.0 (IsCardStop L) c.from_residual-in_err-version.ensures.1
    (version_stop L c.in_ok-begin.begin.now c.in_ok-begin.ensures.line c.in_err-version.field-0.0 c.in_err-version.ensures.stop)

pub split_at-requires : goal.split_at-requires
split_at-requires c =
    let L = texts c.args.lines.now in
    let two = two_there L c.in_ok-begin.begin.now c.in_ok-begin.ensures.line c.in_ok-version.version.now c.in_ok-version.ensures.line in
    let long = length-map c.args.lines.now (λ (l : Bor Bytes). l.now) in
    omega (arith, two, long)

pub second_of-requires : goal.second_of-requires
second_of-requires c =
    subst AreLines (sym c.deref.ensures.value) (are_lines c.in_ok-properties.properties.items c.in_ok-properties.ensures.each)

pub returns-in-Some-clause-stop : goal.returns-in-Some-clause-stop
returns-in-Some-clause-stop c =
    let L = texts c.args.lines.now in
    let found = c.in_ok-properties.properties.items in
    let front = front_there c.args.lines.now c.split_at.result.1.now c.split_at.ensures.back found c.in_ok-properties.ensures.front in
    let second = rw c.in-Some.is at c.in_ok-place.ensures in
    second_stop L c.in_ok-begin.begin.now c.in_ok-begin.ensures.line c.in_ok-version.version.now c.in_ok-version.ensures.line (lent found) front
    c.in_ok-properties.ensures.each c.in-Some.place
    (subst (λ (s : List (Name × Bool)). IsFirstSecond s (lent found) c.in-Some.place) c.requires.single
    (subst (λ (ls : List Line). IsFirstSecond c.args.single.now (lent ls) c.in-Some.place) c.deref.ensures.value second))

pub returns-in_err-end-clause-stop : goal.returns-in_err-end-clause-stop
returns-in_err-end-clause-stop c =
    let L = texts c.args.lines.now in
    let found = c.in_ok-properties.properties.items in
    let front = front_there c.args.lines.now c.split_at.result.1.now c.split_at.ensures.back found c.in_ok-properties.ensures.front in
    let ends = ends_there c.args.lines.now c.split_at.result.1.now c.split_at.ensures.back found c.in_ok-properties.ensures.all in
    let few = rw c.in_default.is at c.in_ok-place.ensures in
    let counted : c.len.result ≡ length found = search rules in
    let count = counted ∙ sym (length-map found line_of) in
    passed c.from_residual-in_err-end.result c.in_err-end.field-0.0 (IsCardStop L) c.from_residual-in_err-end.ensures.1
    (end_stop L c.in_ok-begin.begin.now c.in_ok-begin.ensures.line c.in_ok-version.version.now c.in_ok-version.ensures.line (lent found) front
    c.in_ok-properties.ensures.each
    (subst (λ (s : List (Name × Bool)). AreFew s (lent found)) c.requires.single
    (subst (λ (ls : List Line). AreFew c.args.single.now (lent ls)) c.deref.ensures.value few))
    ends c.in_err-end.field-0.0
    (subst (λ n. IsNoLineAt L (n + 2) end_line c.in_err-end.field-0.0) count c.in_err-end.ensures.stop))

pub returns-clause-card : goal.returns-clause-card
returns-clause-card c =
    let L = texts c.args.lines.now in
    let found = c.in_ok-properties.properties.items in
    let front = front_there c.args.lines.now c.split_at.result.1.now c.split_at.ensures.back found c.in_ok-properties.ensures.front in
    let few = rw c.in_default.is at c.in_ok-place.ensures in
    let counted : c.len.result ≡ length found = search rules in
    let count = counted ∙ sym (length-map found line_of) in
    front_card L c.in_ok-begin.begin.now c.in_ok-begin.ensures.line c.in_ok-version.version.now c.in_ok-version.ensures.line (lent found) front
    c.in_ok-properties.ensures.each
    (subst (λ (s : List (Name × Bool)). AreFew s (lent found)) c.requires.single
    (subst (λ (ls : List Line). AreFew c.args.single.now (lent ls)) c.deref.ensures.value few))
    c.in_ok-end.end.now
    (subst (λ n. IsLineAt L (n + 2) end_line c.in_ok-end.end.now) count c.in_ok-end.ensures.line)
