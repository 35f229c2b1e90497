use Rattle.std.proofs.Common.{◌≡◌, length, sym, refl, subst}
use Rattle.std.proofs.lemmas.Option.{slice_get_read}
use Rattle.std.proofs.lemmas.Bool.{ltb-false}
use Rattle.hm_vcard.specs.Cards.{is_line}
use Rattle.hm_lines_files.specs.Lent.{texts}
use Rattle.hm_vcard.proofs.LentTexts.{read_text, line_yes, line_no, same_at, past_none}
use Rattle.hm_vcard.proofs.opening.line_at.Goals as goal
use Rattle.hm_vcard.proofs.opening.line_at.Goals.{in_default-via-in-Some+else-eq_ignore_ascii_case, in_default-via-in_default}

pub returns-in-Some-clause-line : goal.returns-in-Some-clause-line
returns-in-Some-clause-line c =
    let line = c.in-Some.line.now in
    record {
      stands = read_text c.args.lines.now c.args.place line
          (slice_get_read c.args.lines.now _ c.args.place line refl c.in-Some.ensures.lookup.3.0 (c.in-Some.ensures.lookup.3.1 line));
      is = line_yes c.args.wanted.now line.now c.eq_ignore_ascii_case.result c.eq_ignore_ascii_case.ensures.test c.if-eq_ignore_ascii_case.true;
    }

pub returns-in_default-clause-stop : goal.returns-in_default-clause-stop
returns-in_default-clause-stop c =
    elim c.in_default.branch [
      | in_default-via-in-Some+else-eq_ignore_ascii_case w ↦
          let line = w.in-Some.line.now in
          let there = read_text c.args.lines.now c.args.place line
          (slice_get_read c.args.lines.now _ c.args.place line refl w.in-Some.ensures.lookup.3.0 (w.in-Some.ensures.lookup.3.1 line)) in
          let none = line_no c.args.wanted.now line.now w.eq_ignore_ascii_case.result w.eq_ignore_ascii_case.ensures.test w.if-eq_ignore_ascii_case.false in
          (refl, λ other at. subst (λ l. is_line c.args.wanted.now l ≡ _) (same_at (texts c.args.lines.now) c.args.place line.now other there at) none)
      | in_default-via-in_default w ↦
          (refl, λ other at. past_none c.args.lines.now c.args.place (ltb-false c.args.place (length c.args.lines.now) (sym w.in_default.ensures.lookup.0)) other at)
    ]
