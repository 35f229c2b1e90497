use Rattle.std.proofs.Common.{inl, inr, length, sym, ap, ◌∙◌}
use Rattle.std.specs.Bool.{◌==◌}
use Rattle.std.proofs.lemmas.Bool.{true≢false, eqb-true}
use Rattle.hm_facts.proofs.Lists.{no_items}
use Rattle.hm_marks_tokens.specs.Bytes.{is_white}
use Rattle.hm_marks_tokens.specs.Symbols.{symbol_of}
use Rattle.hm_marks_tokens.specs.Lent.{token_seen}
use Rattle.hm_marks_tokens.proofs.NextTokens.{next_once}
use Rattle.hm_netscape_files.proofs.TailsRead.{tail_found, tail_blank, tail_read, no_next}
use Rattle.hm_netscape_files.proofs.tails.is_tail.Goals as goal

pub returns-then-is_paragraph : goal.returns-then-is_paragraph
returns-then-is_paragraph c =
    let rest = c.behind_white-behind.result.now in
    let t = token_seen c.in-Some.token in (
      λ white. tail_found c.args.bytes.now rest c.behind_white-behind.ensures t c.in-Some.rest.now c.in-Some.ensures.token
          (c.is_paragraph.ensures.0 c.if-is_paragraph.true) (sym c.is_white.ensures ∙ white),
      λ is. elim (tail_read c.args.bytes.now rest c.behind_white-behind.ensures is) [
        | inl none ↦ absurd (no_next rest c.in-Some.rest.now t c.in-Some.ensures.token none)
        | inr p ↦ c.is_white.ensures ∙ ap is_white (next_once rest t p.token c.in-Some.rest.now p.behind c.in-Some.ensures.token p.next).rest ∙ p.white
      ],
    )

pub returns-else-is_paragraph : goal.returns-else-is_paragraph
returns-else-is_paragraph c =
    let rest = c.behind_white-behind.result.now in
    let t = token_seen c.in-Some.token in (
      λ yes. absurd (true≢false (sym yes ∙ c.if-is_paragraph.false)),
      λ is. elim (tail_read c.args.bytes.now rest c.behind_white-behind.ensures is) [
        | inl none ↦ absurd (no_next rest c.in-Some.rest.now t c.in-Some.ensures.token none)
        | inr p ↦ c.is_paragraph.ensures.1 (ap symbol_of (next_once rest t p.token c.in-Some.rest.now p.behind c.in-Some.ensures.token p.next).token ∙ p.is)
      ],
    )

pub returns-in-None : goal.returns-in-None
returns-in-None c =
    let rest = c.behind_white-behind.result.now in (
      λ yes. tail_blank c.args.bytes.now rest c.behind_white-behind.ensures (no_items rest (eqb-true (length rest) 0 (sym c.is_empty.ensures ∙ yes))),
      λ is. elim (tail_read c.args.bytes.now rest c.behind_white-behind.ensures is) [
        | inl none ↦ c.is_empty.ensures ∙ ap (λ l. length l == 0) none
        | inr p ↦ absurd (c.in-None.ensures.token p.token p.behind p.next)
      ],
    )
