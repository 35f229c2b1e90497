-- What is written is read back: the pieces, and the texts of a field that is made anew.
pub use Rattle.hm_csv_fields.proofs.Utf8Pieces.{pieces_utf8, written_utf8}
pub use Rattle.hm_csv_fields.proofs.Led.{one_piece}
use Rattle.std.proofs.Common.{◌≡◌, ◌⊎◌, inl, inr, ℕ, suc, Bool, true, false, not, cond, ◌&&◌, ◌||◌, IsTrue, List, [], ◌∷◌, ◌++◌, get_or, map, filter, All, refl, sym, ap, ◌∙◌, arith}
use Rattle.std.specs.Bool.{◌==◌}
use Rattle.std.specs.List.{list_any}
use Rattle.std.specs.Ordering.{eq_by_cmp}
use Rattle.std.specs.FinSet.{FinSet, contains, contains-from_list, same_set}
use Rattle.std.proofs.lemmas.Option.{slice_get-get_or}
use Rattle.std.proofs.lemmas.Bool.{or_parts}
use Rattle.std.proofs.lemmas.List.{append_assoc, append-nil}
use Rattle.std.proofs.lemmas.List.Folds.{list_any-append}
use Rattle.hm_tree.specs.Names.{Name, name_cmp}
use Rattle.hm_tree.specs.Cleaned.{cleaned}
use Rattle.hm_tree.specs.Classes.{IsFilled}
use Rattle.hm_tree.specs.Sets.{ascending}
use Rattle.hm_tree.proofs.Sorted.{name_total, name_one}
use Rattle.hm_tree.proofs.Ascending.{set_of-ascending, contains-ascending}
use Rattle.hm_csv_fields.specs.Pieces.{stroke, backslash, is_special, spelled_byte, spelled, led, pieces_behind, pieces, written}
use Rattle.hm_csv_fields.specs.Texts.{is_shown, shown, texts, stays, new_pieces}
use Rattle.hm_tree.specs.Sets.{new_names}
use Rattle.hm_csv_fields.proofs.Led.{led_led, led_nothing}
use Rattle.hm_tree.proofs.Classed.{text_filled}
use Rattle.hm_facts.proofs.Booleans.{either}
use Rattle.hm_facts.proofs.Orderings.{equal}

-- ---- pieces that are written

module _ (b : ℕ) (rest : List ℕ) where
  byte_read : (special : Bool) → is_special b ≡ special
      → pieces_behind false (cond special (backslash ∷ b ∷ []) (b ∷ []) ++ rest) ≡ led (b ∷ []) (pieces_behind false rest)
  byte_read true e = rw e refl
  byte_read false e = let apart = or_parts (b == stroke) (b == backslash) e in rw (apart.0, apart.1) refl

pub spelled_read : (p t : List ℕ) → pieces_behind false (spelled p ++ t) ≡ led p (pieces_behind false t)
spelled_read [] t = sym (led_nothing false t)
spelled_read (b ∷ p) t =
    ap (pieces_behind false) (append_assoc (spelled_byte b) (spelled p) t)
    ∙ byte_read b (spelled p ++ t) (is_special b) refl
    ∙ ap (led (b ∷ [])) (spelled_read p t)
    ∙ led_led (b ∷ []) p (pieces_behind false t)

written_read : (p : List ℕ) (ps : List (List ℕ)) → pieces_behind false (written (p ∷ ps)) ≡ p ∷ ps
written_read p [] =
    ap (pieces_behind false) (sym (append-nil (spelled p))) ∙ spelled_read p [] ∙ ap (λ (q : List ℕ). q ∷ []) (append-nil p)
written_read p (q ∷ ps) =
    spelled_read p (stroke ∷ written (q ∷ ps))
    ∙ (λ i. append-nil p i ∷ written_read q ps i)

-- pieces that are written are read again, but for one empty piece alone, which is written as none
pub written_pieces : (ps : List (List ℕ)) → (pieces (written ps) ≡ ps) ⊎ ((ps ≡ [] ∷ []) × (written ps ≡ []))
written_pieces [] = inl refl
written_pieces (p ∷ ps) = go (written (p ∷ ps)) (written_read p ps)
  where
    go : (bytes : List ℕ) → pieces_behind false bytes ≡ p ∷ ps → (pieces bytes ≡ p ∷ ps) ⊎ ((p ∷ ps ≡ [] ∷ []) × (bytes ≡ []))
    go [] e = inr (sym e, refl)
    go (b ∷ bytes) e = inl e

-- what is written of pieces shows what they show; one empty piece alone is written as none
pub written_shown : (ps : List (List ℕ)) → shown (pieces (written ps)) ≡ shown ps
unfolding cleaned
written_shown [] = refl
written_shown (p ∷ ps) = go (written (p ∷ ps)) (written_read p ps)
  where
    go : (bytes : List ℕ) → pieces_behind false bytes ≡ p ∷ ps → shown (pieces bytes) ≡ shown (p ∷ ps)
    go [] e = ap shown e
    go (b ∷ bytes) e = ap shown e

-- ---- the texts of pieces, one by one

-- a piece shows this text
abbrev shows : Name → List ℕ → Bool
shows k p = is_shown p && eq_by_cmp name_cmp k (cleaned p)

among : Name → List Name → Bool
among k names = list_any (eq_by_cmp name_cmp k) names

any_same : {X : Type 0} (f g : X → Bool) (xs : List X) → All (λ x. f x ≡ g x) xs → list_any f xs ≡ list_any g xs
any_same f g [] all = refl
any_same f g (x ∷ xs) all = λ i. all 0 x (omega arith) i || any_same f g xs (λ j d lt. all (suc j) d (omega arith)) i

any_and : {X : Type 0} (b : Bool) (f : X → Bool) (xs : List X) → list_any (λ x. b && f x) xs ≡ (b && list_any f xs)
any_and true f xs = refl
any_and false f [] = refl
any_and false f (x ∷ xs) = any_and false f xs

any_filter : {X : Type 0} (p f : X → Bool) (xs : List X) → list_any f (filter p xs) ≡ list_any (λ x. p x && f x) xs
any_filter p f [] = refl
any_filter p f (x ∷ xs) = go (p x) (any_filter p f xs)
  where
    go : (b : Bool) → list_any f (filter p xs) ≡ list_any (λ x. p x && f x) xs
        → list_any f (cond b (x ∷ filter p xs) (filter p xs)) ≡ ((b && f x) || list_any (λ x. p x && f x) xs)
    go true e = ap (λ r. f x || r) e
    go false e = e

any_map : {X Y : Type 0} (h : X → Y) (f : Y → Bool) (xs : List X) → list_any f (map h xs) ≡ list_any (λ x. f (h x)) xs
any_map h f [] = refl
any_map h f (x ∷ xs) = ap (λ r. f (h x) || r) (any_map h f xs)

any_shown : (k : Name) (ps : List (List ℕ)) → list_any (eq_by_cmp name_cmp k) (shown ps) ≡ list_any (shows k) ps
any_shown k ps = any_map cleaned (eq_by_cmp name_cmp k) (filter is_shown ps) ∙ any_filter is_shown (λ p. eq_by_cmp name_cmp k (cleaned p)) ps

off : (x b : Bool) → b ≡ false → (x && b) ≡ false
off true b e = e
off false b e = refl

staying : (s c : Bool) → ((not s || c) && (s && true)) ≡ (c && (s && true))
staying true c = refl
staying false true = refl
staying false false = refl

module _ (field : List ℕ) (set : FinSet name_cmp) (filled : (k : Name) → IsTrue (contains set k) → IsFilled k) (k : Name) where
  old : Bool
  old = list_any (shows k) (pieces field)

  old_is : contains (texts field) k ≡ old
  unfolding old
  old_is = contains-from_list name_total (shown (pieces field)) k ∙ any_shown k (pieces field)

  -- a piece that shows a text stays where the text is in the set
  stays_shown : (p : List ℕ) → (stays set p && shows k p) ≡ (contains set k && shows k p)
  stays_shown p = go (eq_by_cmp name_cmp k (cleaned p)) refl
    where
      go : (t : Bool) → eq_by_cmp name_cmp k (cleaned p) ≡ t
          → ((not (is_shown p) || contains set (cleaned p)) && (is_shown p && t)) ≡ (contains set k && (is_shown p && t))
      go true e =
          staying (is_shown p) (contains set (cleaned p))
          ∙ ap (λ n. contains set n && (is_shown p && true)) (sym (name_one k (cleaned p) (equal _ e)))
      go false e = off _ _ (off (is_shown p) false refl) ∙ sym (off _ _ (off (is_shown p) false refl))

  -- a name of the set that is new shows itself
  new_shown : (n : Name) → IsFilled n
      → (not (contains (texts field) n) && shows k n) ≡ (not (contains (texts field) k) && eq_by_cmp name_cmp k n)
  new_shown n h =
      (λ i. not (contains (texts field) n) && (text_filled n h i && eq_by_cmp name_cmp k (h.clean i)))
      ∙ go (eq_by_cmp name_cmp k n) refl
    where
      go : (t : Bool) → eq_by_cmp name_cmp k n ≡ t → (not (contains (texts field) n) && t) ≡ (not (contains (texts field) k) && t)
      go true e = ap (λ m. not (contains (texts field) m) && true) (sym (name_one k n (equal _ e)))
      go false e = off _ false refl ∙ sym (off _ false refl)

  in_set : list_any (eq_by_cmp name_cmp k) (ascending set) ≡ contains set k
  in_set = sym (contains-from_list name_total (ascending set) k) ∙ ap (λ (s : FinSet name_cmp). contains s k) (set_of-ascending set)

  staying_show : list_any (shows k) (filter (stays set) (pieces field)) ≡ (contains set k && old)
  unfolding old
  staying_show =
      any_filter (stays set) (shows k) (pieces field)
      ∙ any_same (λ p. stays set p && shows k p) (λ p. contains set k && shows k p) (pieces field) (λ i p lt. stays_shown (get_or (pieces field) i p))
      ∙ any_and (contains set k) (shows k) (pieces field)

  new_show : list_any (shows k) (new_names (texts field) set) ≡ (not old && contains set k)
  new_show =
      any_filter (λ n. not (contains (texts field) n)) (shows k) (ascending set)
      ∙ any_same (λ n. not (contains (texts field) n) && shows k n) (λ n. not (contains (texts field) k) && eq_by_cmp name_cmp k n) (ascending set)
      (λ i n lt. new_shown (get_or (ascending set) i n)
      (filled (get_or (ascending set) i n) (contains-ascending set i (get_or (ascending set) i n) (slice_get-get_or (ascending set) i n lt))))
      ∙ any_and (not (contains (texts field) k)) (eq_by_cmp name_cmp k) (ascending set)
      ∙ (λ i. not (old_is i) && in_set i)

  shown_is : list_any (eq_by_cmp name_cmp k) (shown (new_pieces field set)) ≡ contains set k
  shown_is =
      any_shown k (new_pieces field set)
      ∙ list_any-append (shows k) (filter (stays set) (pieces field)) (new_names (texts field) set)
      ∙ (λ i. staying_show i || new_show i)
      ∙ either (contains set k) old

-- the field that is made anew for a set of Filled texts shows that set
pub rewritten_texts : (field : List ℕ) (set : FinSet name_cmp) → ((k : Name) → IsTrue (contains set k) → IsFilled k)
    → texts (written (new_pieces field set)) ≡ set
rewritten_texts field set filled =
    same_set name_total name_one _ _ (λ k.
    contains-from_list name_total (shown (pieces (written (new_pieces field set)))) k
    ∙ ap (list_any (eq_by_cmp name_cmp k)) (written_shown (new_pieces field set))
    ∙ shown_is field set filled k)
