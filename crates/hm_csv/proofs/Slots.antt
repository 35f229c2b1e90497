-- The records that are written for slots, one by one.
use Rattle.std.proofs.Common.{◌≡◌, ℕ, zero, suc, ◌+◌, ◌<◌, ◌≤◌, List, [], ◌∷◌, ◌++◌, length, get_or, map, take, drop, Option, Some, None, refl, sym, ap, ◌∙◌, subst, arith}
use Rattle.std.specs.Prelude.{All, IsUtf8}
use Rattle.std.specs.Option.{option_map}
use Rattle.std.proofs.lemmas.List.{take_more, length-take-le, map-append, get_or-map}
use Rattle.csv.specs.Records.{Row, fields_of}
use Rattle.hm_tree.specs.Names.{Name}
use Rattle.hm_tree.specs.Nodes.{Tree, empty}
use Rattle.hm_book_items.specs.declared.planned.NewItem.{NewItem}
use Rattle.hm_csv_records.specs.Rows.{Fields}
use Rattle.hm_csv_columns.specs.Records.{AreSigns, rewritten, blank}
use Rattle.hm_csv_columns.specs.declared.column.Column.{Column}
use Rattle.std.specs.Borrow.{Bor}
use Rattle.hm_book_items.specs.Lent.{LentList, lent_list, lent_lists}
use Rattle.hm_csv.specs.declared.opening.Opened.{Opened}
use Rattle.hm_csv.specs.Rewriting.{Lists, rows_in, header_in, others_in, key_in, list_at, row_in, slot_in, slot_rows, IsInside}

-- ---- records

pub text_at : (rows : List Row) → All (λ row. All IsUtf8 (fields_of row)) rows → (i : ℕ) (row d : Row) → i < length rows → row ≡ get_or rows i d → All IsUtf8 (fields_of row)
text_at rows all i row d lt is = subst (λ (r : Row). All IsUtf8 (fields_of r)) (sym is) (all i d lt)

pub header_is : (w : Opened) (row d : Row) → 0 < length w.rows.items → row ≡ get_or w.rows.items 0 d → header_in w ≡ fields_of row
header_is w row d some is = get_or-map fields_of w.rows.items 0 d [] some ∙ ap fields_of (sym is)

pub row_at : (rows : List Row) (i : ℕ) (row d : Row) → i < length rows → row ≡ get_or rows i d → get_or (map fields_of rows) i [] ≡ fields_of row
row_at rows i row d lt is = get_or-map fields_of rows i d [] lt ∙ ap fields_of (sym is)

mapped : {X Y : Type 0} (f : X → Y) (xs : List X) → length (map f xs) ≡ length xs
mapped f [] = refl
mapped f (x ∷ xs) = ap suc (mapped f xs)

pub others_long : (rows : List Row) → 0 < length rows → length (drop 1 (map fields_of rows)) + 1 ≡ length rows
others_long [] some = absurd (omega (arith, some))
others_long (row ∷ rows) some = let e = mapped fields_of rows in omega (arith, e)

-- ---- keys

drop_one : {X : Type 0} (xs : List X) (y : X) → 0 < length xs → drop 1 (xs ++ y ∷ []) ≡ drop 1 xs ++ y ∷ []
drop_one [] y some = absurd (omega (arith, some))
drop_one (x ∷ xs) y some = refl

some_taken : (at : ℕ) (rows : List Row) → 1 ≤ at → at < length rows → 0 < length (map fields_of (take at rows))
some_taken zero rows one lt = absurd (omega (arith, one))
some_taken (suc at) [] one lt = absurd (omega (arith, lt))
some_taken (suc at) (row ∷ rows) one lt = omega arith

pub key_more : (key at : ℕ) (rows : List Row) (row : Row) (field : List ℕ) (name : Name) (keys more : List Name) → 1 ≤ at → at < length rows → row ≡ get_or rows at row
    → keys ≡ map (key_in key) (drop 1 (map fields_of (take at rows))) → name ≡ key_in key (fields_of row) → more ≡ keys ++ name ∷ []
    → more ≡ map (key_in key) (drop 1 (map fields_of (take (at + 1) rows)))
key_more key at rows row field name keys more one lt is before here pushed =
    pushed ∙ (λ i. before i ++ here i ∷ [])
    ∙ sym (map-append (key_in key) (drop 1 (map fields_of (take at rows))) (fields_of row ∷ []))
    ∙ ap (map (key_in key)) (sym (drop_one (map fields_of (take at rows)) (fields_of row) (some_taken at rows one lt)))
    ∙ ap (λ l. map (key_in key) (drop 1 l)) (sym (map-append fields_of (take at rows) (row ∷ [])))
    ∙ ap (λ l. map (key_in key) (drop 1 (map fields_of l))) (ap (λ (r : Row). take at rows ++ r ∷ []) is ∙ sym (take_more rows at row lt))

-- ---- fields

pub same_more : (one other : Fields) (place : ℕ) (a b : List ℕ) → place < length one → length one ≡ length other → take place one ≡ take place other
    → a ≡ get_or one place [] → b ≡ get_or other place [] → a ≡ b → take (place + 1) one ≡ take (place + 1) other
same_more one other place a b lt long so_far here there same =
    take_more one place [] lt ∙ (λ i. so_far i ++ (sym here ∙ same ∙ there) i ∷ []) ∙ sym (take_more other place [] (omega (arith, lt, long)))

-- ---- signs

pub signs_for : (columns : List Column) (signs : List (Option ℕ)) (n m : ℕ) → n ≡ m → AreSigns columns signs n → AreSigns columns signs m
signs_for columns signs n m e h = subst (AreSigns columns signs) e h

-- ---- the record of a slot

-- the record of a new item
pub new_is : (w : Opened) (key : Name) (card : Tree) (row d : Row) (made new : Fields) (count : ℕ) → 0 < length w.rows.items
    → row ≡ get_or w.rows.items 0 d → count ≡ length (fields_of row) → made ≡ blank w.key key count
    → new ≡ rewritten w.table.columns.items card made → new ≡ row_in w (key, None, card)
new_is w key card row d made new count some is long blank_is h =
    let same : made ≡ blank w.key key (length (header_in w)) = blank_is ∙ ap (blank w.key key) (long ∙ sym (ap length (header_is w row d some is))) in
    h ∙ ap (rewritten w.table.columns.items card) same

-- what a slot says, by the list and the card at its place
pub slot_parts : (w : Opened) (lists : Lists) (s : NewItem) (key : Name) (card : Tree) → key ≡ (list_at lists s.edge).0 → card ≡ get_or (list_at lists s.edge).1 s.place empty
    → slot_in w lists s ≡ (key, option_map (λ i. get_or (others_in w) i []) s.from, card)
slot_parts w lists s key card here there = λ i. (sym here i, option_map (λ j. get_or (others_in w) j []) s.from, sym there i)

behind_first : {X : Type 0} (xs : List X) (i : ℕ) (d : X) → get_or (drop 1 xs) i d ≡ get_or xs (i + 1) d
behind_first [] zero d = refl
behind_first [] (suc i) d = refl
behind_first (x ∷ xs) i d = let e : suc i ≡ i + 1 = omega arith in ap (λ j. get_or (x ∷ xs) j d) e

-- the record of a slot that comes from one from before, and of one that doesn't
pub old_is : (w : Opened) (lists : Lists) (s : NewItem) (key : Name) (card : Tree) (item : ℕ)
    → slot_in w lists s ≡ (key, option_map (λ i. get_or (others_in w) i []) s.from, card) → s.from ≡ Some item
    → rewritten w.table.columns.items card (get_or (rows_in w) (item + 1) []) ≡ row_in w (slot_in w lists s)
old_is w lists s key card item parts from =
    sym (ap (row_in w) parts ∙ ap (λ o. row_in w (key, option_map (λ i. get_or (others_in w) i []) o, card)) from
    ∙ ap (rewritten w.table.columns.items card) (behind_first (rows_in w) item []))

pub fresh_is : (w : Opened) (lists : Lists) (s : NewItem) (key : Name) (card : Tree)
    → slot_in w lists s ≡ (key, option_map (λ i. get_or (others_in w) i []) s.from, card) → s.from ≡ None → row_in w (key, None, card) ≡ row_in w (slot_in w lists s)
fresh_is w lists s key card parts from =
    sym (ap (row_in w) parts ∙ ap (λ o. row_in w (key, option_map (λ i. get_or (others_in w) i []) o, card)) from)

module _ (w : Opened) (lists : List LentList) (s : NewItem) (inside : IsInside w (lent_lists lists) s) (l : LentList) (is : l ≡ get_or lists s.edge l) where
  list_is : list_at (lent_lists lists) s.edge ≡ lent_list l
  list_is =
      let lt = inside.edge in
      let n = mapped lent_list lists in
      get_or-map lent_list lists s.edge l ([], []) (omega (arith, lt, n)) ∙ ap lent_list (sym is)

  -- the parts of a slot, as they are lent
  pub lent_parts : (card : Bor Tree) → card ≡ get_or l.1.items s.place card → slot_in w (lent_lists lists) s ≡ (l.0.now, option_map (λ i. get_or (others_in w) i []) s.from, card.now)
  lent_parts card at =
      let lt = inside.place in
      let m = ap (λ (l : Name × List Tree). length l.1) list_is in
      let n = mapped (λ (b : Bor Tree). b.now) l.1.items in
      let here : l.0.now ≡ (list_at (lent_lists lists) s.edge).0 = sym (ap (λ (l : Name × List Tree). l.0) list_is) in
      let there : card.now ≡ get_or (list_at (lent_lists lists) s.edge).1 s.place empty =
      sym (ap (λ (l : Name × List Tree). get_or l.1 s.place empty) list_is
      ∙ get_or-map (λ (b : Bor Tree). b.now) l.1.items s.place card empty (omega (arith, lt, m, n))
      ∙ ap (λ (b : Bor Tree). b.now) (sym at)) in
      slot_parts w (lent_lists lists) s l.0.now card.now here there

  pub item_below : (item : ℕ) → s.from ≡ Some item → 0 < length w.rows.items → item + 1 < length w.rows.items
  item_below item from some =
      let lt = inside.from item from in
      let n = others_long w.rows.items some in
      omega (arith, lt, n)

-- ---- the records of slots

module _ (w : Opened) (lists : Lists) (slots : List NewItem) (at : ℕ) (lt : at < length slots) (d : NewItem) (row : Fields)
    (row_is : row ≡ row_in w (slot_in w lists (get_or slots at d))) where
  pub rows_more : slot_rows w lists (take (at + 1) slots) ≡ slot_rows w lists (take at slots) ++ row ∷ []
  rows_more =
      ap (slot_rows w lists) (take_more slots at d lt)
      ∙ map-append (λ (s : NewItem). row_in w (slot_in w lists s)) (take at slots) (get_or slots at d ∷ [])
      ∙ ap (λ (r : Fields). slot_rows w lists (take at slots) ++ r ∷ []) (sym row_is)

  pub rows_so_many : length (slot_rows w lists (take at slots)) ≡ at
  rows_so_many = mapped (λ (s : NewItem). row_in w (slot_in w lists s)) (take at slots) ∙ length-take-le at slots (omega (arith, lt))

pub all_rows : (w : Opened) (lists : Lists) (slots : List NewItem) → length (slot_rows w lists slots) ≡ length slots
all_rows w lists slots = mapped (λ (s : NewItem). row_in w (slot_in w lists s)) slots

pub rows_long : (w : Opened) → length (rows_in w) ≡ length w.rows.items
rows_long w = mapped fields_of w.rows.items
