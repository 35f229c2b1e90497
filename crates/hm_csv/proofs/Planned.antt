-- A plan over numbers is one over the records of an opened file and the cards of a tree.
use Rattle.std.proofs.Common.{◌≡◌, ℕ, zero, suc, ◌+◌, ◌<◌, Bool, false, ◌&&◌, T, List, [], ◌∷◌, length, get_or, map, Option, Some, None, refl, sym, ap, ◌∙◌, subst, arith}
use Rattle.std.specs.Prelude.{All, IfSome, IsTrue, ◌↔◌, MatchOption, Vec}
use Rattle.std.specs.declared.alloc.Global.{Global}
use Rattle.hm_csv_records.specs.Written.{written}
use Rattle.std.specs.Option.{option_map, unwrap_or}
use Rattle.std.specs.Ordering.{is_lt}
use Rattle.std.specs.FinMap.{is_sorted}
use Rattle.std.specs.FinMap.Entries.{below_all}
use Rattle.std.proofs.lemmas.List.{get_or-map}
use Rattle.std.proofs.lemmas.Option.{slice_get-get_or}
use Rattle.hm_tree.specs.Names.{Name, name_cmp}
use Rattle.hm_tree.specs.Nodes.{Tree, empty}
use Rattle.hm_tree.proofs.Sorted.{name_total, name_one, found_in_order}
use Rattle.hm_book_items.specs.declared.planned.NewItem.{NewItem}
use Rattle.hm_book_items.specs.Items.{Each, below_key, IsRewritten}
use Rattle.hm_book_items.specs.Plans.{numbered, places, slots_of, IsWithin, AreWithin}
use Rattle.hm_book_items.proofs.Contents.{news}
use Rattle.hm_book_items.proofs.Numbers.{keys_of, wanted_of, plan_read}
use Rattle.hm_csv_records.specs.Rows.{Fields}
use Rattle.hm_csv.specs.declared.opening.Opened.{Opened}
use Rattle.hm_csv.specs.Rewriting.{Lists, header_in, others_in, IsAnew, key_in, keyed_in, counts_in, list_at, row_in, slot_in, slot_rows, IsInside, AreRowsFor}

-- ---- counts of lists

pub counts_are : (lists : Lists) → wanted_of lists ≡ counts_in lists
counts_are [] = refl
counts_are (l ∷ lists) = ap (λ es. (l.0, length l.1) ∷ es) (counts_are lists)

below_same : (k : Name) (lists : Lists) → below_all name_cmp k lists ≡ below_all name_cmp k (counts_in lists)
below_same k [] = refl
below_same k (l ∷ lists) = ap (λ b. is_lt (name_cmp k l.0) && b) (below_same k lists)

rise_same : (lists : Lists) → is_sorted name_cmp lists ≡ is_sorted name_cmp (counts_in lists)
rise_same [] = refl
rise_same (l ∷ lists) = λ i. below_same l.0 lists i && rise_same lists i

pub counts_rise : (lists : Lists) → T (is_sorted name_cmp lists) → T (is_sorted name_cmp (counts_in lists))
counts_rise lists h = subst T (rise_same lists) h

so_many : {X Y : Type 0} (f : X → Y) (xs : List X) → length (map f xs) ≡ length xs
so_many f [] = refl
so_many f (x ∷ xs) = ap suc (so_many f xs)

abbrev count_of : Name × List Tree → Name × ℕ
count_of l = (l.0, length l.1)

abbrev with_key : ℕ → Fields → Name × Fields
with_key key row = (key_in key row, row)

count_at : (lists : Lists) (i : ℕ) → get_or (counts_in lists) i ([], 0) ≡ ((list_at lists i).0, length (list_at lists i).1)
count_at [] zero = refl
count_at [] (suc i) = refl
count_at (l ∷ lists) zero = refl
count_at (l ∷ lists) (suc i) = count_at lists i

-- ---- keys of records

keys_are : (key : ℕ) (rows : List Fields) → keys_of (map (λ row. (key_in key row, row)) rows) ≡ map (key_in key) rows
keys_are key [] = refl
keys_are key (row ∷ rows) = ap (λ ks. key_in key row ∷ ks) (keys_are key rows)

-- ---- slots

module _ (w : Opened) (lists : Lists) (rise : T (is_sorted name_cmp lists)) where
  inside_one : (s : NewItem) → IsWithin (counts_in lists) (length (map (key_in w.key) (others_in w))) s → IsInside w lists s
  inside_one s h =
      let n = so_many count_of lists in
      let edge = h.edge in
      let m = so_many (key_in w.key) (others_in w) in
      record {
        edge = omega (arith, edge, n);
        place = subst (λ (e : Name × ℕ). s.place < e.1) (count_at lists s.edge) h.place;
        from = λ i is. let lt : i < length (map (key_in w.key) (others_in w)) = subst (λ (o : Option ℕ). IfSome o (λ i. i < length (map (key_in w.key) (others_in w)))) is h.from in omega (arith, lt, m);
      }

  pub all_inside : (slots : List NewItem) → AreWithin (counts_in lists) (length (map (key_in w.key) (others_in w))) slots → All (IsInside w lists) slots
  all_inside slots h = λ i s lt. inside_one (get_or slots i s) (h i s lt)

  -- the record from before at a number, and the card at a place of the list of a key
  old_at : ℕ → Fields
  old_at i = get_or (others_in w) i []

  card_at : Name → ℕ → Tree
  card_at k place = get_or (below_key name_cmp k lists) place empty

  below_is : (i : ℕ) (e : Name × List Tree) → i < length lists → e ≡ get_or lists i e → below_key name_cmp e.0 lists ≡ e.1
  below_is i e lt is = ap (λ o. unwrap_or o []) (found_in_order lists rise i e (slice_get-get_or lists i e lt ∙ ap Some (sym is)))

  cards_read : Each name_cmp (λ e. (i : ℕ) (a : Tree) → i < length e.1 → card_at e.0 (0 + i) ≡ get_or e.1 i a) lists
  unfolding card_at
  cards_read = from 0 lists (λ i e lt. below_is i e lt)
    where
      from : (n : ℕ) (ls : Lists) → ((i : ℕ) (e : Name × List Tree) → i < length ls → e ≡ get_or ls i e → below_key name_cmp e.0 lists ≡ e.1)
          → Each name_cmp (λ e. (i : ℕ) (a : Tree) → i < length e.1 → card_at e.0 (0 + i) ≡ get_or e.1 i a) ls
      from n [] each = tt
      from n (l ∷ ls) each = (
        (λ i a lt. let z : 0 + i ≡ i = omega arith in
            ap (λ (c : List Tree). get_or c (0 + i) empty) (each 0 l (omega arith) refl) ∙ ap (λ j. get_or l.1 j empty) z ∙ default l.1 i a lt),
        from n ls (λ i e lt is. each (suc i) e (omega (arith, lt)) is),
      )
        where
          default : (ts : List Tree) (i : ℕ) (a : Tree) → i < length ts → get_or ts i empty ≡ get_or ts i a
          default [] i a lt = absurd (omega (arith, lt))
          default (t ∷ ts) zero a lt = refl
          default (t ∷ ts) (suc i) a lt = default ts i a (omega (arith, lt))

  olds_read : (key : ℕ) (i : ℕ) (x : Name × Fields) → i < length (map (with_key key) (others_in w))
      → old_at (0 + i) ≡ (get_or (map (with_key key) (others_in w)) i x).1
  unfolding old_at
  olds_read key i x lt =
      let z : 0 + i ≡ i = omega arith in
      let m = so_many (with_key key) (others_in w) in
      ap (λ j. get_or (others_in w) j []) z
      ∙ sym (ap (λ (e : Name × Fields). e.1) (get_or-map (with_key key) (others_in w) i [] x (omega (arith, lt, m))))

  -- what a slot says is what its numbers say
  slot_one : (s : NewItem) → IsInside w lists s
      → slot_in w lists s ≡ ((get_or (counts_in lists) s.edge ([], 0)).0, option_map old_at s.from, card_at (get_or (counts_in lists) s.edge ([], 0)).0 s.place)
  unfolding old_at card_at
  slot_one s inside =
      let name = ap (λ (e : Name × ℕ). e.0) (count_at lists s.edge) in
      let below = below_is s.edge (list_at lists s.edge) inside.edge (same_read lists s.edge ([], []) (list_at lists s.edge) inside.edge) in
      λ i. (
        sym name i,
        option_map (λ j. get_or (others_in w) j []) s.from,
        (ap (λ (c : List Tree). get_or c s.place empty) (sym below) ∙ ap (λ (k : Name). get_or (below_key name_cmp k lists) s.place empty) (sym name)) i,
      )
    where
      same_read : (ls : Lists) (i : ℕ) (d e : Name × List Tree) → i < length ls → get_or ls i d ≡ get_or ls i e
      same_read [] i d e lt = absurd (omega (arith, lt))
      same_read (l ∷ ls) zero d e lt = refl
      same_read (l ∷ ls) (suc i) d e lt = same_read ls i d e (omega (arith, lt))

  rows_one : (slots : List NewItem) → All (IsInside w lists) slots
      → slot_rows w lists slots ≡ map (row_in w) (news name_cmp name_total name_one old_at card_at (slots_of (counts_in lists) slots))
  rows_one [] inside = refl
  rows_one (s ∷ slots) inside =
      λ i. row_in w (slot_one s (inside 0 s (omega arith)) i) ∷ rows_one slots (λ k d lt. inside (suc k) d (omega (arith, lt))) i

  pub rows_for : (slots : List NewItem) → All (IsInside w lists) slots
      → IsRewritten name_cmp (numbered 0 (map (key_in w.key) (others_in w))) (places (counts_in lists)) (slots_of (counts_in lists) slots)
      → AreRowsFor w lists (slot_rows w lists slots)
  rows_for slots inside made = record {
    slots = news name_cmp name_total name_one old_at card_at (slots_of (counts_in lists) slots);
    rewritten_is = plan_read old_at card_at (keyed_in w) lists (slots_of (counts_in lists) slots) (olds_read w.key) cards_read
        (subst (λ ks. IsRewritten name_cmp (numbered 0 ks) (places (wanted_of lists)) (slots_of (counts_in lists) slots)) (sym (keys_are w.key (others_in w)))
        (subst (λ es. IsRewritten name_cmp (numbered 0 (map (key_in w.key) (others_in w))) (places es) (slots_of (counts_in lists) slots)) (sym (counts_are lists)) made));
    rows_are = rows_one slots inside;
  }

-- the text of the records, or nothing where they are those from before
pub anew_for : (w : Opened) (lists : Lists) (rows : List Fields) (same : Bool) (text : List ℕ) (result : Option (Vec ℕ Global)) → AreRowsFor w lists rows
    → IsTrue same ↔ (rows ≡ others_in w) → text ≡ written w.mark (header_in w ∷ rows) → MatchOption result (IsTrue same) (λ new. (same ≡ false) × (new.items ≡ text))
    → IsAnew w lists result
anew_for w lists rows same text None are is text_is h = record { rows = rows; are = are; written_is = is.0 h }
anew_for w lists rows same text (Some new) are is text_is h =
    record { rows = rows; are = are; written_is = ((λ e. let t = is.1 e in let f = h.0 in let bad : ⊥ = cc in bad), h.1 ∙ text_is) }
