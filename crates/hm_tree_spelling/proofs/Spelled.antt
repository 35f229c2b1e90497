-- Steps along a text that is spelled, or along its spelling.
use Rattle.std.proofs.Common.{◌≡◌, ◌≢◌, ℕ, ◌+◌, ◌-◌, ◌<◌, ◌≤◌, true, List, [], ◌∷◌, ◌++◌, length, take, drop, get_or, sym, ap, ◌∙◌, arith, append_assoc, add-one, slice_get, Some}
use Rattle.std.proofs.lemmas.List.{take_more, drop_more, take_all, take_rest, take-append-drop, append-nil, length-drop}
use Rattle.std.proofs.lemmas.List.Concat.{flat_map-append}
use Rattle.std.proofs.Math.Seq.{take-add}
use Rattle.hm_tree.specs.Names.{Name}
use Rattle.hm_tree_spelling.specs.Spelling.{is_plain, spelled_byte, escaped, spelled}
use Rattle.hm_tree_spelling.specs.SpellingLaws.{spelled_plain, spelled_some, escaped_rest, escaped_one, spelled-append}

escaped_push : (text : List ℕ) (b : ℕ) → escaped (text ++ b ∷ []) ≡ escaped text ++ spelled_byte b
escaped_push text b = flat_map-append spelled_byte text (b ∷ []) ∙ ap (λ l. escaped text ++ l) (append-nil (spelled_byte b))

-- ---- the first bytes, which stand for themselves

pub plain_more : (bs : List ℕ) (i : ℕ) → i < length bs → is_plain (get_or bs i 0) ≡ true → escaped (take i bs) ≡ take i bs
    → escaped (take (i + 1) bs) ≡ take (i + 1) bs
plain_more bs i lt h e =
    ap escaped (take_more bs i 0 lt) ∙ escaped_push (take i bs) (get_or bs i 0)
    ∙ (λ j. e j ++ spelled_plain (get_or bs i 0) h j)
    ∙ sym (take_more bs i 0 lt)

-- ---- what was read so far

module _ (bs : List ℕ) (i : ℕ) (text : List ℕ) (read : take i bs ≡ escaped text) where
  pub read_more : (b n : ℕ) → i ≤ length bs → n ≤ length (drop i bs) → take n (drop i bs) ≡ spelled_byte b
      → (i + n ≤ length bs) × (take (i + n) bs ≡ escaped (text ++ b ∷ []))
  read_more b n le within e = (
    (let l = length-drop i bs in omega arith),
    take-add i n bs ∙ (λ j. read j ++ e j) ∙ sym (escaped_push text b),
  )

  -- where neither a byte's spelling nor a quote follows, no spelling of a name stands there
  pub read_none : ((b : ℕ) (x : List ℕ) → drop i bs ≢ spelled_byte b ++ x) → ((x : List ℕ) → drop i bs ≢ 34 ∷ x) → (name rest : List ℕ)
      → bs ≢ escaped name ++ 34 ∷ rest
  read_none no_byte no_quote name rest e =
      let more = escaped_rest text name (drop i bs) rest (ap (λ l. l ++ drop i bs) (sym read) ∙ take-append-drop i bs ∙ e) in
      by more.0 more.2
    where
      by : (more : List ℕ) → drop i bs ≡ escaped more ++ 34 ∷ rest → ⊥
      by [] f = no_quote rest f
      by (b ∷ more) f = no_byte b (escaped more ++ 34 ∷ rest) (f ∙ append_assoc (spelled_byte b) (escaped more) (34 ∷ rest))

pub no_quote_at : (bs : List ℕ) (i : ℕ) → i < length bs → get_or bs i 0 ≢ 34 → (x : List ℕ) → drop i bs ≢ 34 ∷ x
no_quote_at bs i lt other x e =
    let f : ◌≡◌ {A = List ℕ} (get_or bs i 0 ∷ drop (i + 1) bs) (34 ∷ x) = sym (drop_more bs i 0 lt) ∙ e in
    other (cc)

pub no_quote_past : (bs : List ℕ) → bs ≡ [] → (x : List ℕ) → bs ≢ 34 ∷ x
no_quote_past bs none x e = let f : ⊥ = cc in f

pub no_byte_past : (bs : List ℕ) → bs ≡ [] → (b : ℕ) (x : List ℕ) → bs ≢ spelled_byte b ++ x
no_byte_past bs none b x e = spelled_some b x (sym e ∙ none)

-- ---- between the quotes

pub behind_quote : (bs : List ℕ) → ((name rest : List ℕ) → bs ≢ escaped name ++ 34 ∷ rest) → (name : Name) (rest : List ℕ)
    → 34 ∷ bs ≢ spelled name ++ rest
behind_quote bs none name rest e =
    let f : ◌≡◌ {A = List ℕ} (34 ∷ bs) (34 ∷ (escaped name ++ 34 ∷ rest)) = e ∙ spelled-append name rest in
    none name rest (cc)

-- a spelling begins with a quote
pub front_is_quote : (bs : List ℕ) (name rest : List ℕ) → bs ≡ spelled name ++ rest → slice_get bs 0 ≡ Some 34
front_is_quote bs name rest e = ap (λ l. slice_get l 0) (e ∙ spelled-append name rest)

pub with_quotes : (bs text : List ℕ) (n : ℕ) → take n bs ≡ escaped text ++ 34 ∷ [] → take (n + 1) (34 ∷ bs) ≡ spelled text
unfolding spelled
with_quotes bs text n e = rw add-one (ap (λ l. 34 ∷ l) e)

-- a name whose spelling stands at the front of what a text's spelling begins is that text
pub same_text : (bs text : List ℕ) (n : ℕ) → take n bs ≡ escaped text ++ 34 ∷ [] → (name rest : List ℕ) → 34 ∷ bs ≡ spelled name ++ rest → name ≡ text
same_text bs text n e name rest f =
    let g : ◌≡◌ {A = List ℕ} (34 ∷ bs) (34 ∷ (escaped name ++ 34 ∷ rest)) = f ∙ spelled-append name rest in
    let h : bs ≡ escaped name ++ 34 ∷ rest = cc in
    (escaped_one name text rest (drop n bs) (sym h ∙ sym (take-append-drop n bs) ∙ ap (λ l. l ++ drop n bs) e
    ∙ append_assoc (escaped text) (34 ∷ []) (drop n bs))).0

-- ---- appending piece by piece: out is what stood there before

pub first_piece : (out front : List ℕ) → escaped front ≡ front → (out ++ 34 ∷ []) ++ front ≡ out ++ 34 ∷ (escaped front ++ [])
first_piece out front e = append_assoc out (34 ∷ []) front ∙ ap (λ l. out ++ 34 ∷ l) (sym e ∙ sym (append-nil (escaped front)))

pub next_piece : (out now front items : List ℕ) (i b : ℕ) → i < length items → b ≡ get_or items i 0
    → now ≡ out ++ 34 ∷ (front ++ escaped (take i items)) → now ++ spelled_byte b ≡ out ++ 34 ∷ (front ++ escaped (take (i + 1) items))
next_piece out now front items i b lt is e =
    ap (λ l. l ++ spelled_byte b) e
    ∙ append_assoc out (34 ∷ (front ++ escaped (take i items))) (spelled_byte b)
    ∙ ap (λ l. out ++ 34 ∷ l) (append_assoc front (escaped (take i items)) (spelled_byte b))
    ∙ ap (λ l. out ++ 34 ∷ (front ++ l)) (ap (λ c. escaped (take i items) ++ spelled_byte c) is
    ∙ sym (escaped_push (take i items) (get_or items i 0)) ∙ ap escaped (sym (take_more items i 0 lt)))

last_of : (out now bs : List ℕ) (n i : ℕ) → length (take (length bs - n) (drop n bs)) ≡ length (drop n bs)
    → length (take (length bs - n) (drop n bs)) ≤ i → now ≡ out ++ 34 ∷ (escaped (take n bs) ++ escaped (take i (drop n bs)))
    → now ++ 34 ∷ [] ≡ out ++ spelled bs
unfolding spelled
last_of out now bs n i long le e =
    ap (λ l. l ++ 34 ∷ []) e
    ∙ append_assoc out (34 ∷ (escaped (take n bs) ++ escaped (take i (drop n bs)))) (34 ∷ [])
    ∙ ap (λ l. out ++ 34 ∷ (l ++ 34 ∷ [])) (ap (λ l. escaped (take n bs) ++ escaped l) (take_all i (drop n bs) (omega arith))
    ∙ sym (flat_map-append spelled_byte (take n bs) (drop n bs)) ∙ ap escaped (take-append-drop n bs))

pub last_piece : (out now bs : List ℕ) (n i : ℕ) → length (take (length bs - n) (drop n bs)) ≤ i
    → now ≡ out ++ 34 ∷ (escaped (take n bs) ++ escaped (take i (take (length bs - n) (drop n bs)))) → now ++ 34 ∷ [] ≡ out ++ spelled bs
last_piece out now bs n i le e = last_of out now bs n i (ap length (take_rest bs n)) le
    (e ∙ ap (λ l. out ++ 34 ∷ (escaped (take n bs) ++ escaped (take i l))) (take_rest bs n))
