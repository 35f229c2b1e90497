use Rattle.std.proofs.lemmas.List.{take_all}
use Rattle.std.proofs.Math.Dec.{eqb}
use Rattle.std.proofs.Common.{rules, arith, ◌+◌, ◌≡◌, ◌∙◌, ◌∷◌, [], List, Bool, ℕ, take, length, sym, refl, subst}
use Rattle.std.specs.Prelude.{IsTrue, ◌↔◌}
use Rattle.hm_book_items.specs.declared.planned.NewItem.{NewItem}
use Rattle.hm_book_items.specs.Lent.{lent_lists}
use Rattle.hm_csv_records.specs.Rows.{Fields}
use Rattle.hm_csv_records.specs.Written.{HasWritten}
use Rattle.hm_csv.specs.Rewriting.{header_in, others_in, rows_in, slot_rows}
use Rattle.hm_csv.proofs.Slots.{header_is, all_rows, rows_long, others_long}
use Rattle.hm_csv.proofs.Appended.{slot_more}
use Rattle.hm_csv.proofs.Prefixes.{same_end, numbers}
use Rattle.hm_csv.proofs.writing.rewrite_all.Goals as goal

pub loop-at-init : goal.loop-at-init
loop-at-init c = (
  subst (λ (h : Fields). HasWritten c.append_record.new.self c.args.opened.now.mark (h ∷ []))
      (sym (header_is c.args.opened.now c.index.result.now c.index.result.now c.requires.even.some c.index.ensures))
      (c.in_ok-append_record.ensures c.args.opened.now.mark [] c.in_ok-writer.ensures),
  ((λ t. refl), (λ e. refl)),
  omega arith,
)

pub loop-at-preserved : goal.loop-at-preserved
loop-at-preserved c =
    let w = c.args.opened.now in
    let lists = lent_lists c.args.lists.now in
    let more = slot_more w lists c.args.slots.now c.loop-at.at c.loop-at-test.true _ c.loop-at.writer c.append_slot.new.writer c.loop-at.same c.in_ok-stands.stands
    c.loop-at.invariant.0 c.loop-at.invariant.1 c.in_ok-stands.ensures in (
      more.0,
      subst (λ (b : Bool). IsTrue b ↔ (slot_rows w lists (take (c.loop-at.at + 1) c.args.slots.now) ≡ take (c.loop-at.at + 1) (others_in w))) (sym c.both-same.ensures) more.1,
      (let t = c.loop-at-test.true in omega (arith, t)),
    )

pub returns-clause-text : goal.returns-clause-text
returns-clause-text c =
    c.in_ok-finish.ensures c.args.opened.now.mark (header_in c.args.opened.now ∷ slot_rows c.args.opened.now (lent_lists c.args.lists.now) c.args.slots.now)
    (subst (λ (slots : List NewItem). HasWritten c.loop-at.writer c.args.opened.now.mark (header_in c.args.opened.now ∷ slot_rows c.args.opened.now (lent_lists c.args.lists.now) slots))
    (take_all c.loop-at.at c.args.slots.now (search rules)) c.loop-at.invariant.0)

pub returns-clause-same : goal.returns-clause-same
returns-clause-same c =
    let w = c.args.opened.now in
    let lists = lent_lists c.args.lists.now in
    let slots = c.args.slots.now in
    let whole = take_all c.loop-at.at slots (search rules) in
    let so_far : IsTrue c.loop-at.same ↔ (slot_rows w lists slots ≡ take (length slots) (others_in w)) =
    (let le = c.loop-at.invariant.2 in
    let ge = c.loop-at-test.false in
    let n : c.loop-at.at ≡ length slots = omega (arith, le, ge) in
    subst (λ (m : ℕ). IsTrue c.loop-at.same ↔ (slot_rows w lists slots ≡ take m (others_in w))) n
    (subst (λ (ss : List NewItem). IsTrue c.loop-at.same ↔ (slot_rows w lists ss ≡ take c.loop-at.at (others_in w))) whole c.loop-at.invariant.1)) in
    let end = same_end c.loop-at.same (eqb (length slots + 1) c.len.result) (slot_rows w lists slots) (rows_in w) (length slots) (all_rows w lists slots)
    (others_long w.rows.items c.requires.even.some ∙ sym (rows_long w)) so_far (λ e. numbers (length slots + 1) c.len.result (length (rows_in w)) (c.len.ensures ∙ w.rows.ok.0 ∙ sym (rows_long w))) in
    subst (λ (b : Bool). IsTrue b ↔ (slot_rows w lists slots ≡ others_in w)) (sym c.both.ensures) end
