-- The names that options show: they rise, and that of the key isn't among them.
use Rattle.std.proofs.Common.{◌≡◌, ◌≢◌, ℕ, Bool, true, false, not, cond, ◌||◌, nat_lt, T, List, [], ◌∷◌, ◌++◌, length, slice_get, Option, Some, None, refl, sym, ap, ◌∙◌}
use Rattle.std.specs.Prelude.{IsUtf8, codes}
use Rattle.std.specs.Ordering.{eq_by_cmp, is_eq}
use Rattle.std.specs.FinSet.{from_list, contains-from_list}
use Rattle.std.proofs.lemmas.Cmp.{tied_itself}
use Rattle.std.proofs.lemmas.List.Elements.{All-append}
use Rattle.std.proofs.lemmas.List.Folds.{list_any-append}
use Rattle.hm_tree.specs.Names.{Name, name_cmp}
use Rattle.hm_tree.specs.Nodes.{are_edges}
use Rattle.hm_tree.proofs.Sorted.{name_total}
use Rattle.hm_tree.proofs.Ascending.{contains-ascending}
use Rattle.hm_schema.specs.Values.{OptionsValue, SchemaValue}
use Rattle.hm_book_cards.specs.Books.{book_schema}
use Rattle.hm_book_cards.proofs.TextTrees.{set_edges}
use Rattle.hm_format.specs.Options.{Rule, AreSound, is_among, values_of, bad_key}
use Rattle.hm_format.specs.Formats.{HasSchema}
use Rattle.hm_format.proofs.Accepted.{none_missing, no_bad_key}
use Rattle.hm_format.proofs.Apart.{stands, apart, values_text}
use Rattle.hm_csv.specs.Options.{csv_rules, first_name, key_name, many_names, shown_names, shown_of}
use Rattle.hm_csv.specs.Writing.{csv}
use Rattle.hm_tree.proofs.NameSets.{of_list}

abbrev listed : OptionsValue → List Name
listed o = values_of o.pairs (codes "show") ++ many_names o

-- they rise, and may be names of edges
pub shown_are : (o : OptionsValue) → AreSound o → T (are_edges (shown_of o))
shown_are o sound =
    let texts = All-append IsUtf8 (values_of o.pairs (codes "show")) (many_names o) (values_text o sound (codes "show")) (values_text o sound (codes "many")) in
    set_edges (is_among (many_names o)) (from_list {R = name_cmp} (listed o)) (of_list IsUtf8 (listed o) texts)

-- ---- the name of the key

-- options that have a schema have no bad key
pub none_bad : (o : OptionsValue) (s : SchemaValue) → HasSchema csv o s → bad_key csv_rules o ≡ None
none_bad o s = no_bad_key (bad_key csv_rules o) (book_schema (shown_of o)) s

itself : (k : Name) (ks : List Name) → stands k (k ∷ ks) ≡ true
itself k ks = ap (λ b. b || stands k ks) (ap is_eq (tied_itself name_total k))

-- there is one
key_stands : (values : List Name) (rest : Option (Name × Rule)) (r : Name × Rule) → cond (not (nat_lt 0 (length values))) (Some r) rest ≡ None
    → stands (first_name values) values ≡ true
key_stands [] rest r e = let no : ⊥ = cc in absurd no
key_stands (k ∷ ks) rest r e = itself k ks

module _ (o : OptionsValue) (none : bad_key csv_rules o ≡ None) where
  key_there : stands (key_name o) (values_of o.pairs (codes "key")) ≡ true
  key_there = key_stands (values_of o.pairs (codes "key")) _ _ (none_missing csv_rules o none)

  either : (a b : Bool) → (a || b) ≡ true → (b ≡ false → a ≡ true)
  either true b e f = refl
  either false b e f = let no : ⊥ = cc in absurd no

  not_listed : stands (key_name o) (listed o) ≡ false
  not_listed =
      list_any-append (eq_by_cmp name_cmp (key_name o)) (values_of o.pairs (codes "show")) (many_names o)
      ∙ neither (stands (key_name o) (values_of o.pairs (codes "show"))) (stands (key_name o) (many_names o))
      (apart csv_rules o none (codes "key") (codes "show") (λ e. let no : ⊥ = cc in no) (key_name o) key_there)
      (apart csv_rules o none (codes "key") (codes "many") (λ e. let no : ⊥ = cc in no) (key_name o) key_there)
    where
      neither : (a b : Bool) → (a ≡ true → ⊥) → (b ≡ true → ⊥) → (a || b) ≡ false
      neither true b f g = absurd (f refl)
      neither false true f g = absurd (g refl)
      neither false false f g = refl

  -- it isn't shown
  pub key_apart : (i : ℕ) (k : Name) → slice_get (shown_names o) i ≡ Some k → k ≢ key_name o
  key_apart i k at same =
      let there = sym (contains-from_list name_total (listed o) k) ∙ contains-ascending (from_list {R = name_cmp} (listed o)) i k at in
      let key : stands (key_name o) (listed o) ≡ true = ap (λ k. stands k (listed o)) (sym same) ∙ there in
      let none = not_listed in
      let no : ⊥ = cc in
      no
