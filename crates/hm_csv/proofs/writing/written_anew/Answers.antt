use Rattle.hm_book_items.specs.declared.planned.NewItem.{NewItem}
use Rattle.hm_csv_records.specs.Written.{written}
use Rattle.std.proofs.Common.{◌≡◌, ◌∷◌, ℕ, List, T, map, drop, length, sym, ap, subst, ◌∙◌}
use Rattle.std.specs.Prelude.{All, IsUtf8, IsTrue, ◌↔◌}
use Rattle.std.specs.FinMap.{is_sorted}
use Rattle.csv.specs.Records.{Row, fields_of}
use Rattle.hm_tree.specs.Names.{Name, name_cmp}
use Rattle.hm_book_items.specs.Items.{IsRewritten}
use Rattle.hm_book_items.specs.Plans.{AreWithin, numbered, places, slots_of}
use Rattle.hm_book_items.specs.LentKeys.{lent_counts}
use Rattle.hm_book_items.specs.Lent.{lent_lists}
use Rattle.hm_csv.specs.Rewriting.{counts_in, header_in, others_in, key_in, slot_rows, IsInside}
use Rattle.hm_csv.proofs.Planned.{counts_rise, all_inside, rows_for, anew_for}
use Rattle.hm_csv.proofs.writing.written_anew.Goals as goal

pub keys_of-requires-clause-text : goal.keys_of-requires-clause-text
keys_of-requires-clause-text c = subst (λ (rows : List Row). All (λ row. All IsUtf8 (fields_of row)) rows) (sym c.deref.ensures.value) c.requires.even.text

pub plan-requires : goal.plan-requires
plan-requires c =
    subst (λ es. T (is_sorted name_cmp es)) (sym (ap lent_counts c.deref-3.ensures.value ∙ c.in_ok-counts.ensures)) (counts_rise (lent_lists c.args.lists.now) c.requires.rise)

pub rewrite_all-requires-clause-inside : goal.rewrite_all-requires-clause-inside
rewrite_all-requires-clause-inside c =
    let w = c.args.opened.now in
    let lists = lent_lists c.args.lists.now in
    let counts : lent_counts c.deref-3.result.now ≡ counts_in lists = ap lent_counts c.deref-3.ensures.value ∙ c.in_ok-counts.ensures in
    let keys : c.deref-2.result.now ≡ map (key_in w.key) (others_in w) = c.deref-2.ensures.value ∙ c.in_ok-keys.ensures ∙ ap (λ (rows : List Row). map (key_in w.key) (drop 1 (map fields_of rows))) c.deref.ensures.value in
    subst (λ (slots : List NewItem). All (IsInside w lists) slots) (sym c.deref-4.ensures.value)
    (all_inside w lists c.requires.rise c.in_ok-slots.slots.items
    (subst (λ (ks : List Name). AreWithin (counts_in lists) (length ks) c.in_ok-slots.slots.items) keys
    (subst (λ (es : List (Name × ℕ)). AreWithin es (length c.deref-2.result.now) c.in_ok-slots.slots.items) counts c.in_ok-slots.ensures.within)))

pub returns : goal.returns
returns c =
    let w = c.args.opened.now in
    let lists = lent_lists c.args.lists.now in
    let counts : lent_counts c.deref-3.result.now ≡ counts_in lists = ap lent_counts c.deref-3.ensures.value ∙ c.in_ok-counts.ensures in
    let keys : c.deref-2.result.now ≡ map (key_in w.key) (others_in w) = c.deref-2.ensures.value ∙ c.in_ok-keys.ensures ∙ ap (λ (rows : List Row). map (key_in w.key) (drop 1 (map fields_of rows))) c.deref.ensures.value in
    let slots = c.in_ok-slots.slots.items in
    let same : c.deref-4.result.now ≡ slots = c.deref-4.ensures.value in
    let inside : All (IsInside w lists) slots =
    all_inside w lists c.requires.rise slots
    (subst (λ (ks : List Name). AreWithin (counts_in lists) (length ks) slots) keys
    (subst (λ (es : List (Name × ℕ)). AreWithin es (length c.deref-2.result.now) slots) counts c.in_ok-slots.ensures.within)) in
    let made : IsRewritten name_cmp (numbered 0 (map (key_in w.key) (others_in w))) (places (counts_in lists)) (slots_of (counts_in lists) slots) =
    subst (λ (ks : List Name). IsRewritten name_cmp (numbered 0 ks) (places (counts_in lists)) (slots_of (counts_in lists) slots)) keys
    (subst (λ (es : List (Name × ℕ)). IsRewritten name_cmp (numbered 0 c.deref-2.result.now) (places es) (slots_of es slots)) counts c.in_ok-slots.ensures.plan) in
    anew_for w lists (slot_rows w lists slots) c.in_ok-text.same c.in_ok-text.text.items c.unless.result (rows_for w lists c.requires.rise slots inside made)
    (subst (λ (ss : List NewItem). IsTrue c.in_ok-text.same ↔ (slot_rows w lists ss ≡ others_in w)) same c.in_ok-text.ensures.same)
    (c.in_ok-text.ensures.text ∙ ap (λ (ss : List NewItem). written w.mark (header_in w ∷ slot_rows w lists ss)) same) c.unless.ensures
