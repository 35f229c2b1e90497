-- Names that lead to what two lists lead to that are laid over one another.
use Rattle.std.proofs.Common.{◌≡◌, ℕ, ◌+◌, ◌<◌, Bool, true, false, cond, ◌&&◌, ◌||◌, is_some, List, [], ◌∷◌, ◌++◌, length, map, take, get_or, slice_get, Option, Some, None, refl, sym, ap, ◌∙◌}
use mathlib.Core.Bool.{true≢false}
use Rattle.std.specs.Option.{option_or}
use Rattle.std.specs.List.{zip, list_any, filter}
use Rattle.std.specs.Ordering.{eq_by_cmp}
use Rattle.std.specs.FinMap.{find}
use Rattle.std.specs.FinSet.{contains, from_list, contains-from_list}
use Rattle.std.proofs.lemmas.List.{length-map, map-append, take_more}
use Rattle.std.proofs.lemmas.List.Folds.{list_any-append}
use Rattle.std.proofs.lemmas.Map.Views.{any-filter_same}
use Rattle.std.proofs.lemmas.Map.Keys.{any_passes_from_place}
use Rattle.hm_tree.specs.Names.{Name, name_cmp}
use Rattle.hm_tree.proofs.NameSets.{tied_one, tied_self}
use Rattle.hm_tree.proofs.Sorted.{name_total}
use Rattle.hm_schema.specs.Values.{Names}
use Rattle.hm_types_views.specs.Overlays.{overlay}
use Rattle.hm_types_table.proofs.BesideNames.{listed_beside}

module _ {X : Type 0} where
  -- where each name of a list leads to what a function says, a search finds just that for the names of the list
  pub find_mapped : (f : Name → Option X) (ks : List Name) (js : List X) → map Some js ≡ map f ks → (k : Name)
      → find name_cmp k (zip ks js) ≡ cond (list_any (eq_by_cmp name_cmp k) ks) (f k) None
  find_mapped f [] [] e k = refl
  find_mapped f [] (j ∷ js) e k = let g : ⊥ = cc in absurd g
  find_mapped f (m ∷ ks) [] e k = let g : ⊥ = cc in absurd g
  find_mapped f (m ∷ ks) (j ∷ js) e k = go (eq_by_cmp name_cmp k m) refl (find_mapped f ks js (let rest : map Some js ≡ map f ks = cc in rest) k)
    where
      go : (b : Bool) → eq_by_cmp name_cmp k m ≡ b → find name_cmp k (zip ks js) ≡ cond (list_any (eq_by_cmp name_cmp k) ks) (f k) None
          → cond b (Some j) (find name_cmp k (zip ks js)) ≡ cond (b || list_any (eq_by_cmp name_cmp k) ks) (f k) None
      go true t rest = let here : Some j ≡ f m = cc in here ∙ ap f (sym (tied_one k m t))
      go false t rest = rest

  pub mapped_length : (f : Name → Option X) (ks : List Name) (js : List X) → map Some js ≡ map f ks → length js ≡ length ks
  mapped_length f ks js e = sym (length-map js Some) ∙ ap length e ∙ length-map ks f

  -- one name more
  pub mapped_more : (f : Name → Option X) (ks : List Name) (i : ℕ) (k : Name) (js more : List X) (j : X) → i < length ks → k ≡ get_or ks i k
      → map Some js ≡ map f (take i ks) → f k ≡ Some j → more ≡ js ++ j ∷ [] → map Some more ≡ map f (take (i + 1) ks)
  mapped_more f ks i k js more j lt at e here is =
      ap (map Some) is ∙ map-append Some js (j ∷ []) ∙ (λ t. e t ++ sym here t ∷ []) ∙ sym (map-append f (take i ks) (k ∷ []))
      ∙ ap (map f) (ap (λ k. take i ks ++ k ∷ []) at ∙ sym (take_more ks i k lt))

  module _ (names : Names) (ones twos : List Name) (one_next two_next : List X) (one_count : length one_next ≡ length ones)
      (two_count : length two_next ≡ length twos) where
    abbrev L : Name → Option X
    L = overlay names (zip ones one_next) (zip twos two_next)

    abbrev all : List Name
    all = filter (λ k. contains names k) ones ++ twos

    is_some-or : (x y : Option X) → is_some (option_or x y) ≡ (is_some x || is_some y)
    is_some-or None y = refl
    is_some-or (Some x) y = refl

    is_some-cond : (b : Bool) (x : Option X) → is_some (cond b x None) ≡ (b && is_some x)
    is_some-cond true x = refl
    is_some-cond false x = refl

    -- just the names of the two lists lead somewhere
    leads : (k : Name) → is_some (L k) ≡ list_any (eq_by_cmp name_cmp k) all
    leads k =
        is_some-or (cond (contains names k) (find name_cmp k (zip ones one_next)) None) (find name_cmp k (zip twos two_next))
        ∙ ap (λ b. b || is_some (find name_cmp k (zip twos two_next)))
        (is_some-cond (contains names k) (find name_cmp k (zip ones one_next)) ∙ ap (λ b. contains names k && b) (listed_beside ones one_next k one_count)
        ∙ sym (any-filter_same (eq_by_cmp name_cmp k) (λ k. contains names k) (contains names k)
        (λ m t. ap (contains names) (sym (tied_one k m t))) ones))
        ∙ ap (λ b. list_any (eq_by_cmp name_cmp k) (filter (λ k. contains names k) ones) || b) (listed_beside twos two_next k two_count)
        ∙ sym (list_any-append (eq_by_cmp name_cmp k) (filter (λ k. contains names k) ones) twos)

    module _ (ks : List Name) (s : Names) (same : from_list {R = name_cmp} ks ≡ s) (is : s ≡ from_list {R = name_cmp} all) where
      in_both : (k : Name) → list_any (eq_by_cmp name_cmp k) ks ≡ list_any (eq_by_cmp name_cmp k) all
      in_both k = sym (contains-from_list name_total ks k) ∙ ap (λ (s : Names). contains s k) (same ∙ is) ∙ contains-from_list name_total all k

      -- a name of theirs leads somewhere
      pub leads_at : (i : ℕ) (k : Name) → slice_get ks i ≡ Some k → L k ≡ None → ⊥
      leads_at i k at none = true≢false (sym (any_passes_from_place (eq_by_cmp name_cmp k) ks i k at (tied_self k)) ∙ in_both k ∙ sym (leads k)
          ∙ ap is_some none)

      pub overlaid_all : (js : List X) → map Some js ≡ map L ks → (k : Name) → find name_cmp k (zip ks js) ≡ L k
      overlaid_all js e k = find_mapped L ks js e k ∙ go (list_any (eq_by_cmp name_cmp k) ks) (L k) (leads k ∙ sym (in_both k))
        where
          go : (b : Bool) (x : Option X) → is_some x ≡ b → cond b x None ≡ x
          go true x h = refl
          go false None h = refl
          go false (Some x) h = absurd (true≢false h)

-- one name over a list
pub edge_over : {X : Type 0} (k : Name) (x : X) (es : List (Name × X)) (m : Name)
    → overlay (from_list (k ∷ [])) ((k, x) ∷ []) es m ≡ cond (eq_by_cmp name_cmp m k) (Some x) (find name_cmp m es)
edge_over {X} k x es m = ap (λ b. option_or (cond b (cond (eq_by_cmp name_cmp m k) (Some x) None) None) (find name_cmp m es))
    (contains-from_list name_total (k ∷ []) m) ∙ go (eq_by_cmp name_cmp m k)
  where
    go : (b : Bool) → option_or (cond (b || false) (cond b (Some x) None) None) (find name_cmp m es) ≡ cond b (Some x) (find name_cmp m es)
    go true = refl
    go false = refl
