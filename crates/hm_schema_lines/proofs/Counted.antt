-- What is counted before a line.
use Rattle.std.proofs.Common.{◌≡◌, ℕ, suc, ◌+◌, ◌≤◌, Bool, true, false, cond, List, [], ◌∷◌, ◌++◌, length, take, reverse, Option, Some, None, is_some, refl, sym, ap, ◌∙◌, arith, count_by, slice_get}
use Rattle.std.specs.Int.{from_bool}
use Rattle.std.specs.List.{Contains, cons_option}
use Rattle.std.proofs.lemmas.List.{length-append, length-take, length-reverse}
use Rattle.std.proofs.lemmas.List.Sums.{sum_by_push}
use Rattle.std.proofs.lemmas.List.Elements.{filter_map-append}
use Rattle.hm_tree.specs.Names.{Name}
use Rattle.hm_tree.proofs.Kept.{take_more}
use Rattle.hm_schema_lines.specs.declared.before.Before.{Before}
use Rattle.hm_schema_lines.specs.NodeLines.{other, shape}
use Rattle.hm_schema_lines.specs.Entries.{EntryValue, says}
use Rattle.hm_schema_lines.specs.Firsts.{listed_name, edge_names}
use Rattle.hm_schema_lines.specs.BadLines.{is_counted, begins_node, is_shape, lines_before, nodes_before, up_to_node, earlier, HasShape, SpeaksOfOthers}
use Rattle.hm_schema_lines.specs.Sections.{speaks_of_others}
use Rattle.hm_schema_lines.specs.Counting.{IsBefore}
use Rattle.hm_schema_lines.proofs.Declared.{counted, counted_below}
use Rattle.hm_schema_lines.proofs.Made.{at_place, from_place}
use Rattle.hm_schema_lines.proofs.Sections.{earlier_next}

-- ---- none, and one

-- where none is counted, none is there
none_counted : (p : EntryValue → Bool) (es : List EntryValue) → count_by p es ≡ 0 → (e : EntryValue) → Contains es e → p e ≡ true → ⊥
none_counted p es none e there is = let a = at_place es e there in let below = counted_below p es a.0 e a.1 is in omega arith

-- where some are counted, one is there
one_counted : (p : EntryValue → Bool) (es : List EntryValue) → (count_by p es ≡ 0 → ⊥) → (e : EntryValue) × Contains es e × (p e ≡ true)
one_counted p es some = let c = counted p es 0 (omega arith) in (c.entry, from_place es c.entry (c.place, c.is), c.counted)

pub has_shape : (es : List EntryValue) → (HasShape es → count_by is_shape es ≡ 0 → ⊥) × ((count_by is_shape es ≡ 0 → ⊥) → HasShape es)
has_shape es = (
  (λ h none. none_counted is_shape es none (says (shape h.0)) h.1 refl),
  (λ some. let f = one_counted is_shape es some in told f.0 f.1 f.2),
)
  where
    told : (e : EntryValue) → Contains es e → is_shape e ≡ true → HasShape es
    told (says (shape s)) there is = (s, there)
    told e there is = let f : ⊥ = cc in absurd f

pub has_others : (es : List EntryValue) → (SpeaksOfOthers es → count_by speaks_of_others es ≡ 0 → ⊥)
    × ((count_by speaks_of_others es ≡ 0 → ⊥) → SpeaksOfOthers es)
has_others es = (
  (λ h none. none_counted speaks_of_others es none (says (other h.0 h.1)) h.2 refl),
  (λ some. let f = one_counted speaks_of_others es some in told f.0 f.1 f.2),
)
  where
    told : (e : EntryValue) → Contains es e → speaks_of_others e ≡ true → SpeaksOfOthers es
    told (says (other c w)) there is = (c, w, there)
    told e there is = let f : ⊥ = cc in absurd f

-- ---- before a line

as_byte : (b : Bool) → cond b 1 0 ≡ from_bool b
as_byte true = refl
as_byte false = refl

count_more : (p : EntryValue → Bool) (before : List EntryValue) (e : EntryValue) (n : ℕ) → n ≡ count_by p before
    → n + from_bool (p e) ≡ count_by p (before ++ e ∷ [])
count_more p before e n told = ap (λ m. m + from_bool (p e)) told ∙ ap (λ m. count_by p before + m) (sym (as_byte (p e)))
    ∙ sym (sum_by_push (λ x. cond (p x) 1 0) before e)

listed_more : (before : List EntryValue) (e : EntryValue) (n : ℕ) → n ≡ length (edge_names before)
    → n + from_bool (is_some (listed_name e)) ≡ length (edge_names (before ++ e ∷ []))
listed_more before e n told =
    ap (λ m. m + from_bool (is_some (listed_name e))) told
    ∙ ap (λ m. length (edge_names before) + m) (as_byte (listed_name e))
    ∙ sym (length-append (edge_names before) (cons_option (listed_name e) []))
    ∙ ap length (sym (filter_map-append listed_name before (e ∷ [])))
  where
    as_byte : (o : Option Name) → from_bool (is_some o) ≡ length (cons_option o [])
    as_byte None = refl
    as_byte (Some k) = refl

module _ (es : List EntryValue) (i : ℕ) (e : EntryValue) (is : slice_get es i ≡ Some e) (b : Before) (h : IsBefore es i b) where
  lines_next : b.lines + from_bool (is_counted e) ≡ lines_before es (suc i)
  lines_next = count_more is_counted (take i es) e b.lines h.lines ∙ ap (count_by is_counted) (sym (take_more es i e is))

  nodes_next : b.nodes + from_bool (begins_node e) ≡ nodes_before es (suc i)
  nodes_next = count_more begins_node (take i es) e b.nodes h.nodes ∙ ap (count_by begins_node) (sym (take_more es i e is))

  -- behind a line that begins no node
  pub inside : begins_node e ≡ false → IsBefore es (suc i) (record {
    lines = b.lines + from_bool (is_counted e);
    nodes = b.nodes;
    edges = b.edges + from_bool (is_some (listed_name e));
    others = b.others + from_bool (speaks_of_others e);
    shapes = b.shapes + from_bool (is_shape e);
  })
  inside told =
      let lines = earlier_next es i e is false told in
      let same = nodes_next in
      let none = ap from_bool told in
      record {
        lines = lines_next;
        nodes = omega arith;
        edges = listed_more (earlier es i) e b.edges h.edges ∙ ap (λ z. length (edge_names z)) (sym lines);
        others = count_more speaks_of_others (earlier es i) e b.others h.others ∙ ap (count_by speaks_of_others) (sym lines);
        shapes = count_more is_shape (earlier es i) e b.shapes h.shapes ∙ ap (count_by is_shape) (sym lines);
      }

  -- behind a line that begins one
  pub begun : begins_node e ≡ true → IsBefore es (suc i) (record {
    lines = b.lines + from_bool (is_counted e);
    nodes = b.nodes + 1;
    edges = 0;
    others = 0;
    shapes = 0;
  })
  begun told =
      let none = earlier_next es i e is true told in
      record {
        lines = lines_next;
        nodes = ap (λ z. b.nodes + from_bool z) (sym told) ∙ nodes_next;
        edges = ap (λ z. length (edge_names z)) (sym none);
        others = ap (count_by speaks_of_others) (sym none);
        shapes = ap (count_by is_shape) (sym none);
      }

-- ---- no more than there are lines

length_of_node : (es : List EntryValue) → length (up_to_node es) ≤ length es
length_of_node [] = omega arith
length_of_node (e ∷ es) = go (begins_node e) (length_of_node es)
  where
    go : (b : Bool) → length (up_to_node es) ≤ length es → length (cond b [] (e ∷ up_to_node es)) ≤ length (e ∷ es)
    go true more = omega arith
    go false more = omega arith

length_of_names : (es : List EntryValue) → length (edge_names es) ≤ length es
length_of_names [] = omega arith
length_of_names (e ∷ es) = go (listed_name e) (length_of_names es)
  where
    go : (n : Option Name) → length (edge_names es) ≤ length es → length (cons_option n (edge_names es)) ≤ length (e ∷ es)
    go None more = omega arith
    go (Some k) more = omega arith

pub earlier_few : (es : List EntryValue) (i : ℕ) → length (earlier es i) ≤ i
earlier_few es i =
    let lines = take i es in
    omega (arith, length-take i es, length-reverse lines, length_of_node (reverse lines), length-reverse (up_to_node (reverse lines)))

pub edges_few : (es : List EntryValue) (i : ℕ) → length (edge_names (earlier es i)) ≤ i
edges_few es i = omega (arith, length_of_names (earlier es i), earlier_few es i)
