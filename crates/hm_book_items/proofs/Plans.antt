-- Items as numbers, step by step.
use Rattle.std.proofs.Common.{◌≡◌, ◌≢◌, ◌⊎◌, ℕ, zero, suc, ◌+◌, ◌-◌, ◌≤◌, ◌<◌, Bool, true, false, cond, T, List, [], ◌∷◌, ◌++◌, ◌&&◌, length, get_or, slice_get, slice_set, drop, take, Option, Some, None, refl, sym, ap, ◌∙◌, subst, arith, inl, inr}
use Rattle.std.specs.declared.cmp.Ordering.{Ordering}
use Rattle.std.specs.declared.cmp.Ordering.TheVariants.{Less, Equal, Greater}
use Rattle.std.specs.Ordering.{eq_by_cmp, is_eq, is_lt, ordering_reverse}
use Rattle.std.specs.Cmp.{eq_by_cmp_equiv}
use Rattle.std.specs.FinMap.{is_sorted, find}
use Rattle.std.specs.FinMap.Entries.{below_all}
use Rattle.std.specs.List.{range_with_len}
use Rattle.std.specs.Option.{unwrap_or}
use Rattle.std.proofs.lemmas.List.{append-nil, append_assoc, length-append, get_or-set_same, get_or-set_other, length-set, get_or_default}
use Rattle.std.proofs.lemmas.Bool.{cases_lt, cases_eq}
use Rattle.std.proofs.Math.Seq.{drop-nil}
use Rattle.std.proofs.lemmas.Cmp.{tied_itself}
use Rattle.hm_tree.specs.Names.{Name, name_cmp}
use Rattle.hm_tree.specs.Edges.{rank}
use Rattle.hm_tree.proofs.Sorted.{name_total, name_one, rises, back_less, not_None}
use Rattle.hm_book_items.specs.Items.{of_key, below_key, survivor, kept, fresh, added}
use Rattle.std.proofs.lemmas.List.Elements.{All-push}
use Rattle.hm_book_items.specs.Plans.{numbered, places, slots_of, IsWithin, AreWithin, AreCounts, past, past_at, place_for, next_survivor, IsPlaceUnder}
use Rattle.hm_book_items.specs.declared.planned.NewItem.{NewItem}
use Rattle.hm_book_items.proofs.ReadBack.{of_key-append, absent}
use Rattle.hm_tree.specs.Nodes.{first, second}

back_less_of : (k x : Name) → name_cmp x k ≡ Greater → name_cmp k x ≡ Less
back_less_of k x e = name_total.antisymm k x ∙ ap ordering_reverse e

abbrev counted : Name → List Name → ℕ
counted k keys = length (of_key name_cmp k (numbered 0 keys))

pub numbered-append : (i : ℕ) (xs : List Name) (k : Name) → numbered i (xs ++ k ∷ []) ≡ numbered i xs ++ (k, i + length xs) ∷ []
numbered-append i [] k = let n : i ≡ i + 0 = omega arith in ap (λ j. (k, j) ∷ []) n
numbered-append i (x ∷ xs) k =
    let n : (i + 1) + length xs ≡ i + suc (length xs) = omega arith in
    ap (λ l. (x, i) ∷ l) (numbered-append (i + 1) xs k ∙ ap (λ j. numbered (i + 1) xs ++ (k, j) ∷ []) n)

counted_more : (q : Name) (xs : List Name) (k : Name) (b : Bool) → eq_by_cmp name_cmp q k ≡ b → counted q (xs ++ k ∷ []) ≡ counted q xs + cond b 1 0
counted_more q xs k true e = ap (λ l. length (of_key name_cmp q l)) (numbered-append 0 xs k) ∙ ap length (of_key-append name_cmp q (numbered 0 xs) ((k, 0 + length xs) ∷ [])) ∙ rw e (length-append (of_key name_cmp q (numbered 0 xs)) ((0 + length xs) ∷ []))
counted_more q xs k false e =
    let n : counted q xs ≡ counted q xs + 0 = omega arith in
    ap (λ l. length (of_key name_cmp q l)) (numbered-append 0 xs k) ∙ ap length (of_key-append name_cmp q (numbered 0 xs) ((k, 0 + length xs) ∷ [])) ∙ rw e (ap length (append-nil (of_key name_cmp q (numbered 0 xs)))) ∙ n

less : (r : Ordering) → T (is_lt r) → r ≡ Less
less Less p = refl
less Equal p = absurd p
less Greater p = absurd p

both : (a b : Bool) → T a → T b → T (a && b)
both true b p q = q
both false b p q = absurd p

-- a name stands at its place
module _ {X : Type 0} where
  above_too : (k x : Name) (es : List (Name × X)) → name_cmp k x ≡ Less → T (below_all name_cmp x es) → T (below_all name_cmp k es)
  above_too k x [] p h = tt
  above_too k x (e ∷ es) p h = both _ _ (subst (λ r. T (is_lt r)) (sym (name_total.trans k x e.0 p (less _ (first _ _ h)))) tt) (above_too k x es p (second _ _ h))

  pub name_at : (k : Name) (es : List (Name × X)) (i : ℕ) (v : X) (d : Name × X) → T (is_sorted name_cmp es) → i ≡ rank k es → find name_cmp k es ≡ Some v → (get_or es i d).0 ≡ k
  name_at k [] i v d h e f = let bad : ⊥ = cc in absurd bad
  name_at k (x ∷ es) i v d h e f = go (name_cmp x.0 k) refl (λ g. name_at k es (rank k es) v d (second _ _ h) refl g)
    where
      go : (r : Ordering) → name_cmp x.0 k ≡ r → (find name_cmp k es ≡ Some v → (get_or es (rank k es) d).0 ≡ k) → (get_or (x ∷ es) i d).0 ≡ k
      go Less p rest =
          let n : i ≡ suc (rank k es) = rw p at e in
          let g : find name_cmp k es ≡ Some v = rw (back_less k x.0 p) at f in
          rw n (rest g)
      go Equal p rest = let n : i ≡ 0 = rw p at e in rw n (name_one x.0 k p)
      go Greater p rest =
          let g : find name_cmp k es ≡ Some v = rw (back_less_of k x.0 p) at f in
          absurd (not_None v (sym g ∙ absent name_cmp name_total name_one k es (above_too k x.0 es (back_less_of k x.0 p) (first _ _ h))))

  -- other names tie with no other
  pub apart : (es : List (Name × X)) (i j : ℕ) (d : Name × X) → T (is_sorted name_cmp es) → i ≢ j → i < length es → j < length es → eq_by_cmp name_cmp (get_or es i d).0 (get_or es j d).0 ≡ false
  apart es i j d h ne a b = elim (cases_lt i j) [
    | inl lt ↦ ap is_eq (rises es h i j d lt b)
    | inr ge ↦ let lt : j < i = omega (arith, ne) in ap is_eq (name_total.antisymm (get_or es i d).0 (get_or es j d).0 ∙ ap ordering_reverse (rises es h j i d lt a))
  ]

  pub none_ties : (k : Name) (es : List (Name × X)) (i : ℕ) (d : Name × X) → find name_cmp k es ≡ None → i < length es → eq_by_cmp name_cmp k (get_or es i d).0 ≡ false
  none_ties k [] i d f lt = absurd (omega arith)
  none_ties k (x ∷ es) i d f lt = go (eq_by_cmp name_cmp k x.0) refl (λ j. none_ties k es j d) i lt
    where
      go : (b : Bool) → eq_by_cmp name_cmp k x.0 ≡ b → ((j : ℕ) → find name_cmp k es ≡ None → j < length es → eq_by_cmp name_cmp k (get_or es j d).0 ≡ false) → (i : ℕ) → i < length (x ∷ es) → eq_by_cmp name_cmp k (get_or (x ∷ es) i d).0 ≡ false
      go true p rest i lt = let some : Some x.1 ≡ None = rw p at f in absurd (not_None _ some)
      go false p rest zero lt = p
      go false p rest (suc i) lt = let g : find name_cmp k es ≡ None = rw p at f in rest i g (omega arith)

turned : (a b : Name) → eq_by_cmp name_cmp a b ≡ eq_by_cmp name_cmp b a
turned a b = (eq_by_cmp_equiv name_total).symm a b

module _ (wanted : List (Name × ℕ)) (h : T (is_sorted name_cmp wanted)) where
  -- the counts behind one key more
  pub counts_more : (keys : List Name) (k : Name) (counts : List ℕ) (i after v : ℕ) → AreCounts wanted keys counts → i ≡ rank k wanted → i < length wanted → find name_cmp k wanted ≡ Some v → after ≡ get_or counts i 0 + 1 → AreCounts wanted (keys ++ k ∷ []) (slice_set counts i after)
  counts_more keys k counts i after v are place lt f is = record {
    same = length-set counts i after ∙ are.same;
    each = λ j low. one j low (cases_eq j i);
  }
    where
      at : (get_or wanted i ([], 0)).0 ≡ k
      at = name_at k wanted i v ([], 0) h place f

      one : (j : ℕ) → j < length wanted → (j ≡ i) ⊎ (j ≢ i) → get_or (slice_set counts i after) j 0 ≡ counted (get_or wanted j ([], 0)).0 (keys ++ k ∷ [])
      one j low (inl e) =
          let tie : eq_by_cmp name_cmp (get_or wanted i ([], 0)).0 k ≡ true = ap (λ q. eq_by_cmp name_cmp q k) at ∙ ap is_eq (tied_itself name_total k) in
          let within : i < length counts = let s = are.same in omega arith in
          subst (λ m. get_or (slice_set counts i after) m 0 ≡ counted (get_or wanted m ([], 0)).0 (keys ++ k ∷ [])) (sym e)
          (get_or-set_same counts i after 0 within ∙ is ∙ ap (λ n. n + 1) (are.each i lt) ∙ sym (counted_more (get_or wanted i ([], 0)).0 keys k true tie))
      one j low (inr ne) =
          let no : eq_by_cmp name_cmp (get_or wanted j ([], 0)).0 k ≡ false = ap (λ q. eq_by_cmp name_cmp (get_or wanted j ([], 0)).0 q) (sym at) ∙ apart wanted j i ([], 0) h ne low lt in
          let n : counted (get_or wanted j ([], 0)).0 keys ≡ counted (get_or wanted j ([], 0)).0 keys + 0 = omega arith in
          get_or-set_other counts i j after 0 ne ∙ are.each j low ∙ n ∙ sym (counted_more (get_or wanted j ([], 0)).0 keys k false no)

  pub counts_same : (keys : List Name) (k : Name) (counts : List ℕ) → AreCounts wanted keys counts → find name_cmp k wanted ≡ None → AreCounts wanted (keys ++ k ∷ []) counts
  counts_same keys k counts are f = record {
    same = are.same;
    each = λ j low.
        let q = (get_or wanted j ([], 0)).0 in
        let n : counted q keys ≡ counted q keys + 0 = omega arith in
        are.each j low ∙ n ∙ sym (counted_more q keys k false (turned q k ∙ none_ties k wanted j ([], 0) f low));
  }

-- what stands under a name
pub under : (k : Name) (wanted : List (Name × ℕ)) (n : ℕ) → find name_cmp k wanted ≡ Some n → below_key name_cmp k (places wanted) ≡ range_with_len 0 n
under k [] n f = let bad : ⊥ = cc in absurd bad
under k (e ∷ es) n f = go (eq_by_cmp name_cmp k e.0) refl (under k es n)
  where
    go : (b : Bool) → eq_by_cmp name_cmp k e.0 ≡ b → (find name_cmp k es ≡ Some n → below_key name_cmp k (places es) ≡ range_with_len 0 n) → below_key name_cmp k (places (e ∷ es)) ≡ range_with_len 0 n
    go true p rest = let some : Some e.1 ≡ Some n = rw p at f in rw p (ap (λ m. range_with_len 0 m) (ap (λ o. unwrap_or o 0) some))
    go false p rest = let g : find name_cmp k es ≡ Some n = rw p at f in rw p (rest g)

pub not_under : (k : Name) (wanted : List (Name × ℕ)) → find name_cmp k wanted ≡ None → below_key name_cmp k (places wanted) ≡ []
not_under k [] f = refl
not_under k (e ∷ es) f = go (eq_by_cmp name_cmp k e.0) refl (not_under k es)
  where
    go : (b : Bool) → eq_by_cmp name_cmp k e.0 ≡ b → (find name_cmp k es ≡ None → below_key name_cmp k (places es) ≡ []) → below_key name_cmp k (places (e ∷ es)) ≡ []
    go true p rest = let some : Some e.1 ≡ None = rw p at f in absurd (not_None _ some)
    go false p rest = let g : find name_cmp k es ≡ None = rw p at f in rw p (rest g)

pub in_range : (a n i : ℕ) → i < n → slice_get (range_with_len a n) i ≡ Some (a + i)
in_range a zero i lt = absurd (omega arith)
in_range a (suc n) zero lt = let e : a ≡ a + 0 = omega arith in ap Some e
in_range a (suc n) (suc i) lt = let e : (a + 1) + i ≡ a + suc i = omega arith in in_range (a + 1) n i (omega arith) ∙ ap Some e

pub past_range : (a n i : ℕ) → n ≤ i → slice_get (range_with_len a n) i ≡ None
past_range a zero i le = refl
past_range a (suc n) zero le = absurd (omega arith)
past_range a (suc n) (suc i) le = past_range (a + 1) n i (omega arith)

pub drop_range : (a n c : ℕ) → drop c (range_with_len a n) ≡ range_with_len (a + c) (n - c)
drop_range a zero c = let e : 0 - c ≡ 0 = omega arith in rw e (drop-nil c)
drop_range a (suc n) zero = let e : a ≡ a + 0 = omega arith in let m : suc n ≡ suc n - 0 = omega arith in ap (λ b. range_with_len b (suc n)) e ∙ ap (λ b. range_with_len (a + 0) b) m
drop_range a (suc n) (suc c) =
    let e : (a + 1) + c ≡ a + suc c = omega arith in
    let m : n - c ≡ suc n - suc c = omega arith in
    drop_range (a + 1) n c ∙ ap (λ b. range_with_len b (n - c)) e ∙ ap (λ b. range_with_len (a + suc c) b) m

pub slots_of-append : (wanted : List (Name × ℕ)) (xs ys : List NewItem) → slots_of wanted (xs ++ ys) ≡ slots_of wanted xs ++ slots_of wanted ys
slots_of-append wanted [] ys = refl
slots_of-append wanted (s ∷ xs) ys = ap (λ l. ((get_or wanted s.edge ([], 0)).0, s.from, s.place) ∷ l) (slots_of-append wanted xs ys)

pub kept-append : (tree : List (Name × List ℕ)) (before xs : List (Name × ℕ)) (x : Name × ℕ)
    → kept name_cmp tree before (xs ++ x ∷ []) ≡ kept name_cmp tree before xs ++ survivor name_cmp x (slice_get (below_key name_cmp x.0 tree) (length (of_key name_cmp x.0 (before ++ xs))))
kept-append tree before [] x = append-nil _ ∙ ap (λ l. survivor name_cmp x (slice_get (below_key name_cmp x.0 tree) (length (of_key name_cmp x.0 l)))) (sym (append-nil before))
kept-append tree before (y ∷ ys) x =
    let s = survivor name_cmp y (slice_get (below_key name_cmp y.0 tree) (length (of_key name_cmp y.0 before))) in
    ap (λ l. s ++ l) (kept-append tree (before ++ y ∷ []) ys x) ∙ sym (append_assoc s _ _)
    ∙ ap (λ b. (s ++ kept name_cmp tree (before ++ y ∷ []) ys) ++ survivor name_cmp x (slice_get (below_key name_cmp x.0 tree) (length (of_key name_cmp x.0 b)))) (append_assoc before (y ∷ []) ys)

pub past_added : (wanted : List (Name × ℕ)) (old : List (Name × ℕ)) (counts : List ℕ) → length counts ≡ length wanted → ((i : ℕ) → i < length wanted → get_or counts i 0 ≡ length (of_key name_cmp (get_or wanted i ([], 0)).0 old)) → past wanted counts ≡ added name_cmp old (places wanted)
past_added [] old counts s h = refl
past_added (e ∷ es) old [] s h = absurd (omega arith)
past_added (e ∷ es) old (c ∷ cs) s h =
    ap (λ n. fresh name_cmp e.0 (drop n (range_with_len 0 e.1)) ++ past es cs) (h 0 (omega arith))
    ∙ ap (λ l. fresh name_cmp e.0 (drop (length (of_key name_cmp e.0 old)) (range_with_len 0 e.1)) ++ l) (past_added es old cs (omega arith) (λ i lt. h (suc i) (omega arith)))

pub fresh_more : (k : Name) (a n : ℕ) → fresh name_cmp k (range_with_len a (suc n)) ≡ fresh name_cmp {C = ℕ} k (range_with_len a n) ++ (k, None, a + n) ∷ []
fresh_more k a zero = let e : a ≡ a + 0 = omega arith in ap (λ b. (k, None, b) ∷ []) e
fresh_more k a (suc n) = let e : (a + 1) + n ≡ a + suc n = omega arith in ap (λ l. (k, None, a) ∷ l) (fresh_more k (a + 1) n ∙ ap (λ b. fresh name_cmp k (range_with_len (a + 1) n) ++ (k, None, b) ∷ []) e)

pub past_more : (wanted : List (Name × ℕ)) (counts : List ℕ) (i : ℕ) → i < length wanted → length counts ≡ length wanted → past (take (suc i) wanted) (take (suc i) counts) ≡ past (take i wanted) (take i counts) ++ past_at wanted i (get_or counts i 0)
past_more [] counts i lt s = absurd (omega arith)
past_more (e ∷ es) [] i lt s = absurd (omega arith)
past_more (e ∷ es) (c ∷ cs) zero lt s = append-nil _
past_more (e ∷ es) (c ∷ cs) (suc i) lt s =
    let f = fresh name_cmp {C = ℕ} e.0 (drop c (range_with_len 0 e.1)) in
    ap (λ l. f ++ l) (past_more es cs i (omega arith) (omega arith)) ∙ sym (append_assoc f _ _)

-- one slot more of an edge's places
pub past_step : (wanted : List (Name × ℕ)) (edge count place : ℕ) (base : List (Name × Option ℕ × ℕ)) (slots after : List NewItem) → count ≤ place
    → slots_of wanted slots ≡ base ++ fresh name_cmp (get_or wanted edge ([], 0)).0 (range_with_len count (place - count))
    → after ≡ slots ++ record { edge = edge; from = None; place = place } ∷ []
    → slots_of wanted after ≡ base ++ fresh name_cmp (get_or wanted edge ([], 0)).0 (range_with_len count (place + 1 - count))
past_step wanted edge count place base slots after le is made =
    let k = (get_or wanted edge ([], 0)).0 in
    let n : suc (place - count) ≡ place + 1 - count = omega arith in
    let p : count + (place - count) ≡ place = omega arith in
    ap (slots_of wanted) made ∙ slots_of-append wanted slots _
    ∙ ap (λ l. l ++ (k, None, place) ∷ []) is
    ∙ append_assoc base _ _
    ∙ ap (λ q. base ++ (fresh name_cmp k (range_with_len count (place - count)) ++ (k, None, q) ∷ [])) (sym p)
    ∙ ap (λ l. base ++ l) (sym (fresh_more k count (place - count)))
    ∙ ap (λ m. base ++ fresh name_cmp k (range_with_len count m)) n

-- all of them
pub past_all : (wanted : List (Name × ℕ)) (edge count place : ℕ) → place - count ≡ (get_or wanted edge ([], 0)).1 - count → fresh name_cmp (get_or wanted edge ([], 0)).0 (range_with_len count (place - count)) ≡ past_at wanted edge count
past_all wanted edge count place n =
    let e = get_or wanted edge ([], 0) in
    let z : 0 + count ≡ count = omega arith in
    ap (λ m. fresh name_cmp e.0 (range_with_len count m)) n ∙ ap (λ b. fresh name_cmp e.0 (range_with_len b (e.1 - count))) (sym z) ∙ ap (λ l. fresh name_cmp e.0 l) (sym (drop_range 0 e.1 count))

-- the place of the next old item
module _ (wanted : List (Name × ℕ)) (h : T (is_sorted name_cmp wanted)) (keys : List Name) (k : Name) (counts : List ℕ) (are : AreCounts wanted keys counts) where
  module _ (i n : ℕ) (place : i ≡ rank k wanted) (low : i < length wanted) (f : find name_cmp k wanted ≡ Some n) (at : ℕ) (is : at ≡ get_or counts i 0) where
    counted_is : counted k keys ≡ at
    counted_is = sym (is ∙ are.each i low ∙ ap (λ q. counted q keys) (name_at k wanted i n ([], 0) h place f))

    place_is : place_for wanted keys k ≡ slice_get (range_with_len 0 n) at
    place_is = ap (λ l. slice_get l (counted k keys)) (under k wanted n f) ∙ ap (λ m. slice_get (range_with_len 0 n) m) counted_is

    pub survives : at < n → Some at ≡ place_for wanted keys k
    survives lt = sym (place_is ∙ in_range 0 n at lt ∙ ap Some (let z : 0 + at ≡ at = omega arith in z))

    pub falls_out : n ≤ at → None ≡ place_for wanted keys k
    falls_out le = sym (place_is ∙ past_range 0 n at le)

  pub no_place : find name_cmp k wanted ≡ None → None ≡ place_for wanted keys k
  no_place f = ap (λ l. slice_get l (counted k keys)) (sym (not_under k wanted f))

-- and its slot
module _ (wanted : List (Name × ℕ)) (keys : List Name) (k : Name) (item : ℕ) where
  pub slot_more : (edge place : ℕ) → IsPlaceUnder wanted k edge place → Some place ≡ place_for wanted keys k → (slots after : List NewItem)
      → after ≡ slots ++ record { edge = edge; from = Some item; place = place } ∷ []
      → slots_of wanted after ≡ slots_of wanted slots ++ next_survivor wanted keys k item
  slot_more edge place is found slots after made =
      ap (slots_of wanted) made ∙ slots_of-append wanted slots _ ∙ ap (λ q. slots_of wanted slots ++ (q, Some item, place) ∷ []) is.key_is
      ∙ ap (λ o. slots_of wanted slots ++ survivor name_cmp (k, item) o) found

  pub no_slot : None ≡ place_for wanted keys k → (slots : List NewItem) → slots_of wanted slots ≡ slots_of wanted slots ++ next_survivor wanted keys k item
  no_slot none slots = sym (append-nil (slots_of wanted slots)) ∙ ap (λ o. slots_of wanted slots ++ survivor name_cmp (k, item) o) none

-- a key more
pub kept_more : (wanted : List (Name × ℕ)) (keys : List Name) (k : Name) → kept name_cmp (places wanted) [] (numbered 0 (keys ++ k ∷ [])) ≡ kept name_cmp (places wanted) [] (numbered 0 keys) ++ next_survivor wanted keys k (length keys)
kept_more wanted keys k =
    let z : 0 + length keys ≡ length keys = omega arith in
    ap (λ l. kept name_cmp (places wanted) [] l) (numbered-append 0 keys k ∙ ap (λ i. numbered 0 keys ++ (k, i) ∷ []) z) ∙ kept-append (places wanted) [] (numbered 0 keys) (k, length keys)

-- what was read at a place, whatever stands for what isn't there
pub read_at : {X : Type 0} (xs : List X) (i : ℕ) (x d : X) → i < length xs → x ≡ get_or xs i x → x ≡ get_or xs i d
read_at xs i x d lt e = e ∙ get_or_default xs i x d lt

-- one slot more that is within its bounds
pub more_within : (wanted : List (Name × ℕ)) (count : ℕ) (old new : List NewItem) (s : NewItem) → AreWithin wanted count old → new ≡ old ++ s ∷ [] → IsWithin wanted count s
    → AreWithin wanted count new
more_within wanted count old new s all pushed one = subst (AreWithin wanted count) (sym pushed) (All-push (IsWithin wanted count) old s all one)
