-- The steps of a reader: what stands behind a name, and an edge.
use Rattle.std.proofs.Common.{◌≡◌, ℕ, ◌+◌, ◌<◌, ◌≤◌, ◌↔◌, Bool, true, false, IsTrue, T, List, [], ◌∷◌, ◌++◌, length, take, drop, Option, Some, Result, Ok, Err, IfOk, IfErr, refl, sym, ap, subst, ◌∙◌, arith, length-append}
use Rattle.std.proofs.lemmas.List.{take-append-drop}
use Rattle.std.specs.Str.{IsUtf8}
use Rattle.hm_tree.specs.Names.{Name}
use Rattle.hm_tree.specs.Nodes.{bare, mark, Node, edges, depth, empty, marked}
use Rattle.hm_tree.specs.Archives.{Archive}
use Rattle.hm_tree_spelling.specs.Spelling.{spelled}
use Rattle.hm_tree_spelling.specs.SpellingLaws.{spelled_one}
use Rattle.hm_tree_text.specs.declared.fault.TextFault.{TextFault}
use Rattle.hm_tree_text.specs.declared.fault.TextFault.TheVariants.{BadTree, TooDeep, Memory}
use Rattle.hm_tree_text.specs.Text.{whole, below, text, HasAllowedMarks, edge_text, separator, inside}
use Rattle.hm_tree_text.specs.Opening.{opens_one}
use Rattle.hm_tree_text.specs.Reading.{StandsAt, is_behind, IsAfter, IsName, IsSeparator, IsEdge, IsBelow, IsFull, IsInside, BeginsWith, IsRead, IsInsideRead, IsBelowRead, IsEdgeRead}
use Rattle.hm_tree_text.specs.Failing.{Fails, FailsAlone, OpensInside, OpensBelow, OpensEdge}
use Rattle.hm_tree_text.proofs.Places.{joins, behind}
use Rattle.hm_tree_text.proofs.Parts.{fault_behind, begins_behind, IsNot, is_not_part}
use Rattle.hm_tree_text.proofs.Listed.{shape_empty, whole_some, below_full, none_shape}
use Rattle.hm_tree_text.proofs.Forms.{name_edge, edge_name, below_edge, edge_below, separator_edge, edge_separator, no_separator, no_opening, no_full, inside_full, full_inside, full_below, below_full_back, empty_marks}
use Rattle.hm_tree_text.proofs.Deep.{below_deep, deep_below, deep_name, deep_colon, shallow_below, inside_deep, deep_inside}

pub not_false : IsTrue false → ⊥
not_false e = cc

-- ---- results that are passed on

pub if_ok : {A E : Type 0} (P Q : A → Type 0) (r : Result A E) → ((x : A) → P x → Q x) → IfOk r P → IfOk r Q
if_ok P Q (Ok x) f h = f x h
if_ok P Q (Err e) f h = tt

pub if_err : {A E : Type 0} (P Q : E → Type 0) (r : Result A E) → ((e : E) → P e → Q e) → IfErr r P → IfErr r Q
if_err P Q (Ok x) f h = tt
if_err P Q (Err e) f h = f e h

pub passed : {A E : Type 0} (P : E → Type 0) (r : Result A E) (y e : E) → r ≡ Err y → y ≡ e → P e → IfErr r P
passed P r y e is same h = subst (λ r. IfErr r P) (sym is) (subst P (sym same) h)

-- ---- a name

-- the name that is spelled at the front is the only one there
pub no_name : (last : Option Name) (bytes : List ℕ) (name : Name) (n : ℕ) → take n bytes ≡ spelled name → (IsAfter last name → ⊥)
    → BeginsWith (IsName last) bytes → ⊥
no_name last bytes name n is not h =
    let f = h.is_form in
    let one = spelled_one f.name name h.rest (drop n bytes) (ap (λ l. l ++ h.rest) (sym f.is) ∙ sym h.is ∙ sym (take-append-drop n bytes)
    ∙ ap (λ l. l ++ drop n bytes) is) in
    not (subst (IsAfter last) one.0 f.after)

-- ---- an edge

module _ (m : Bool) (room : ℕ) (es : List (Name × Node true)) (bytes : List ℕ) (at : ℕ) (le : at ≤ length bytes) where
  pub name_fails : (last : Option Name) → ((n : Name) → T (is_behind n es) ↔ IsAfter last n) → (fault : TextFault)
      → FailsAlone (IsName last) bytes at fault → Fails (IsEdge m es) (OpensEdge m room es) bytes at fault
  name_fails last same (BadTree q) f = (
    fault_behind (IsName last) (IsEdge m es) (λ _. Unit {0}) [] (name_edge m es last (λ n. (same n).1))
        (λ y _. edge_name m es last (λ n. (same n).0) y) bytes at at q le (record { spelled = refl; within = le }) tt (λ _ _ _ _ _. tt) f,
    λ d. f.longest.none (deep_name m room es last (λ n. (same n).0) (drop at bytes) d),
  )
  name_fails last same TooDeep f = absurd f
  name_fails last same Memory f = tt

  module _ (n : Name) (behind : ℕ) (u : IsUtf8 n) (b : T (is_behind n es)) (stands : StandsAt bytes at (spelled n) behind) where
    pub below_fails : (fault : TextFault) → Fails (IsBelow m) (OpensBelow m room) bytes behind fault
        → Fails (IsEdge m es) (OpensEdge m room es) bytes at fault
    below_fails (BadTree q) f = (
      fault_behind (IsBelow m) (IsEdge m es) (λ _. Unit {0}) (spelled n) (below_edge m es n u b) (λ y _. edge_below m es n y) bytes at behind q
          le stands tt (λ _ _ _ _ _. tt) f.0,
      λ d. f.1 (deep_below m room es n (drop behind bytes) (subst (BeginsWith (OpensEdge m room es)) stands.spelled d)),
    )
    below_fails TooDeep f = subst (BeginsWith (OpensEdge m room es)) (sym stands.spelled)
        (begins_behind (OpensBelow m room) (OpensEdge m room es) (spelled n) (drop behind bytes) (below_deep m room es n u b) f)
    below_fails Memory f = tt

    module _ (value : Archive) (last : ℕ) (read : IsBelowRead m room bytes behind value last) where
      stands_edge : StandsAt bytes at (edge_text n read.node.shape) last
      stands_edge = joins bytes (spelled n) (text below read.node.shape) at behind last stands read.stands

      pub edge_read : (more : Bool) → StandsAt bytes last (separator more ∷ []) (last + 1) → IsEdgeRead m room es bytes at n value more (last + 1)
      edge_read more there = record {
        child = read.node;
        is_text = u;
        after = b;
        read = read.read;
        stands = joins bytes (edge_text n read.node.shape) (separator more ∷ []) at last (last + 1) stands_edge there;
      }

      over : read.node.shape ≡ bare → IsNot 58 (drop last bytes)
      over none r e = read.alone none r (read.stands.spelled ∙ ap (λ s. text below s ++ drop last bytes) none ∙ e)

      pub separator_fails : IsNot 44 (drop last bytes) → IsNot 125 (drop last bytes)
          → Fails (IsEdge m es) (OpensEdge m room es) bytes at (BadTree last)
      separator_fails comma brace = (
        fault_behind IsSeparator (IsEdge m es) (λ y. read.node.shape ≡ bare → IsNot 58 y) (edge_text n read.node.shape)
            (separator_edge m es n read.node u b read.read.marks) (edge_separator m es n read.node) bytes at last last le stands_edge over
            (λ n k rest lt le none. is_not_part 58 (drop last bytes) n (over none) k rest lt le)
            (record { passed = 0; place = omega arith; longest = no_separator (drop last bytes) comma brace }),
        λ d. shallow_below m room read.node read.read.shallow (drop last bytes) over
            (subst (BeginsWith (OpensBelow m room)) read.stands.spelled
            (deep_below m room es n (drop behind bytes) (subst (BeginsWith (OpensEdge m room es)) stands.spelled d))),
      )

-- ---- behind a name

depth_empty : (room : ℕ) → depth (empty {m = true}) ≤ room
unfolding empty depth
depth_empty room = omega arith

depth_marked : (room : ℕ) → depth marked ≤ room
unfolding marked depth
depth_marked room = omega arith

shape_marked : marked.shape ≡ mark
unfolding marked
shape_marked = refl

pub read_empty : (m : Bool) (room : ℕ) (value : Archive) → value ≡ Some empty → IsRead m room value empty
read_empty m room value is = record { is = is; marks = empty_marks m; shallow = depth_empty room }

pub read_marked : (m : Bool) (room : ℕ) (value : Archive) → m ≡ true → value ≡ Some marked → IsRead m room value marked
read_marked m room value allowed is =
    record { is = is; marks = subst (HasAllowedMarks m) (sym shape_marked) (subst T (sym allowed) tt); shallow = depth_marked room }

pub text_empty : text whole (empty {m = true}).shape ≡ 123 ∷ 125 ∷ []
text_empty = ap (text whole) shape_empty

pub text_marked : text whole marked.shape ≡ 33 ∷ []
text_marked = ap (text whole) shape_marked

two : (at : ℕ) → at + 1 + 1 ≡ at + 2
two at = omega arith

module _ (m : Bool) (room : ℕ) (bytes : List ℕ) (at : ℕ) (le : at ≤ length bytes) where
  pub below_nothing : (value : Archive) → value ≡ Some empty → IsNot 58 (drop at bytes) → IsBelowRead m room bytes at value at
  below_nothing value is alone = record {
    node = empty;
    read = read_empty m room value is;
    stands = record { spelled = ap (λ s. text below s ++ drop at bytes) (sym shape_empty); within = le };
    alone = λ _. alone;
  }

  module _ (colon : StandsAt bytes at (58 ∷ []) (at + 1)) where
    pub below_mark : (value : Archive) → m ≡ true → value ≡ Some marked → StandsAt bytes (at + 1) (33 ∷ []) (at + 1 + 1)
        → IsBelowRead m room bytes at value (at + 2)
    below_mark value allowed is there = record {
      node = marked;
      read = read_marked m room value allowed is;
      stands = subst (λ p. StandsAt bytes at p (at + 2)) (sym (ap (text below) shape_marked))
          (subst (λ e. StandsAt bytes at (58 ∷ 33 ∷ []) e) (two at) (joins bytes (58 ∷ []) (33 ∷ []) at (at + 1) (at + 1 + 1) colon there));
      alone = λ none. absurd (let no : mark ≡ bare = sym shape_marked ∙ none in cc);
    }

    pub full_fails : IsNot 123 (drop (at + 1) bytes) → (m ≡ true → IsNot 33 (drop (at + 1) bytes))
        → Fails (IsBelow m) (OpensBelow m room) bytes at (BadTree (at + 1))
    full_fails brace point = (
      fault_behind (IsFull m) (IsBelow m) (λ _. Unit {0}) (58 ∷ []) (full_below m) (λ y _. below_full_back m y) bytes at (at + 1) (at + 1) le
          colon tt (λ _ _ _ _ _. tt)
          (record { passed = 0; place = omega arith; longest = no_full m (drop (at + 1) bytes) (no_opening m (drop (at + 1) bytes) brace point) }),
      λ d. let o = deep_colon m room (drop at bytes) d in brace o.0 (let e = sym colon.spelled ∙ o.1 in tail e),
    )
      where
        tail : {x y : List ℕ} → 58 ∷ x ≡ 58 ∷ y → x ≡ y
        tail e = cc

    module _ (brace : StandsAt bytes (at + 1) (123 ∷ []) (at + 1 + 1)) where
      opened : StandsAt bytes at (58 ∷ 123 ∷ []) (at + 2)
      opened = subst (λ e. StandsAt bytes at (58 ∷ 123 ∷ []) e) (two at) (joins bytes (58 ∷ []) (123 ∷ []) at (at + 1) (at + 1 + 1) colon brace)

      braced : StandsAt bytes (at + 1) (123 ∷ []) (at + 2)
      braced = subst (λ e. StandsAt bytes (at + 1) (123 ∷ []) e) (two at) brace

      pub too_deep : room ≡ 0 → BeginsWith (OpensBelow m room) (drop at bytes)
      too_deep none = record {
        part = 58 ∷ 123 ∷ [];
        rest = drop (at + 2) bytes;
        is_form = record { inner = 123 ∷ []; opens = opens_one (room + 1) (123 ∷ []) (omega arith) refl; is = refl };
        is = opened.spelled;
      }

      pub below_inside : (r : ℕ) → room ≡ r + 1 → (value : Archive) (end : ℕ) → IsInsideRead m (r + 1) bytes (at + 2) value end
          → IsBelowRead m room bytes at value end
      below_inside r is value end h = record {
        node = h.node;
        read = subst (λ k. IsRead m k value h.node) (sym is) h.read;
        stands = subst (λ p. StandsAt bytes at p end) (ap (λ l. 58 ∷ l) (sym (whole_some h.node (λ e. let s = h.some in omega arith)))
            ∙ sym (below_full h.node.shape some)) (joins bytes (58 ∷ 123 ∷ []) (inside (edges h.node)) at (at + 2) end opened h.stands);
        alone = λ none. absurd (some none);
      }
        where
          some : h.node.shape ≡ bare → ⊥
          some none = let n = none_shape h.node none in let s = h.some in omega arith

      pub inside_fails : (r : ℕ) → room ≡ r + 1 → (fault : TextFault) → Fails (IsInside m) (OpensInside m r) bytes (at + 2) fault
          → Fails (IsBelow m) (OpensBelow m room) bytes at fault
      inside_fails r is (BadTree q) f =
          let full = fault_behind (IsInside m) (IsFull m) (λ _. Unit {0}) (123 ∷ []) (inside_full m) (λ y _. full_inside m y) bytes (at + 1)
          (at + 2) q colon.within braced tt (λ _ _ _ _ _. tt) f.0 in (
            fault_behind (IsFull m) (IsBelow m) (λ _. Unit {0}) (58 ∷ []) (full_below m) (λ y _. below_full_back m y) bytes at (at + 1) q le
                colon tt (λ _ _ _ _ _. tt) full,
            λ d. f.1 (deep_inside m room r is (drop (at + 2) bytes) (subst (BeginsWith (OpensBelow m room)) opened.spelled d)),
          )
      inside_fails r is TooDeep f = subst (BeginsWith (OpensBelow m room)) (sym opened.spelled)
          (begins_behind (OpensInside m r) (OpensBelow m room) (58 ∷ 123 ∷ []) (drop (at + 2) bytes) (inside_deep m room r is) f)
      inside_fails r is Memory f = tt

-- an edge takes at least a byte
pub edge_longer : (m : Bool) (room : ℕ) (es : List (Name × Node true)) (bytes : List ℕ) (at : ℕ) (n : Name) (value : Archive) (more : Bool)
    (end : ℕ) → at ≤ length bytes → IsEdgeRead m room es bytes at n value more end → at < end
edge_longer m room es bytes at n value more end le h =
    let b = behind bytes (edge_text n h.child.shape ++ separator more ∷ []) at end le h.stands in
    let l = length-append (edge_text n h.child.shape) (separator more ∷ []) in
    omega arith

pub after_same : (last : Option Name) (text name : Name) → text ≡ name → IsAfter last name → IsAfter last text
after_same last text name e h = subst (IsAfter last) (sym e) h
