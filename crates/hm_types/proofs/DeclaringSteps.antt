-- The nodes of definitions, one after another.
use Rattle.std.proofs.Common.{◌≡◌, ◌<◌, ◌+◌, ℕ, Bool, true, false, cond, List, [], ◌∷◌, ◌++◌, length, map, take, get_or, Option, Some, None, refl, sym, ap, subst, ◌∙◌, add-one}
use Rattle.std.specs.Option.{option_map, option_or}
use Rattle.std.specs.Ordering.{eq_by_cmp}
use Rattle.std.specs.FinMap.{find}
use Rattle.std.proofs.lemmas.List.{map-append}
use Rattle.std.proofs.lemmas.Option.{slice_get_read}
use Rattle.hm_tree.specs.Names.{Name, name_cmp}
use Rattle.hm_tree.proofs.Kept.{take_more}
use Rattle.hm_schema.specs.declared.node.NodeId.{NodeId}
use Rattle.hm_terms.specs.declared.term.Definition.{Definition}
use Rattle.hm_terms.specs.Lenses.{DefinitionValue}
use Rattle.hm_terms.specs.Programs.{definition_value}
use Rattle.hm_types_table.specs.Tables.{shift}
use Rattle.hm_terms_cycles.specs.Places.{IsPutLast}
use Rattle.hm_types_terms.specs.Courses.{Declared}
use Rattle.hm_types.specs.DeclaredNodes.{DeclaresAll}

abbrev nodes_of : ℕ → DefinitionValue → NodeId × NodeId
nodes_of by d = (shift by d.source, shift by d.view)

-- the last one counts where there is none before
found_last : (ds : List (Name × DefinitionValue)) (d : Name × DefinitionValue) (n : Name)
    → find name_cmp n (ds ++ d ∷ []) ≡ option_or (find name_cmp n ds) (cond (eq_by_cmp name_cmp n d.0) (Some d.1) None)
found_last [] d n = go (eq_by_cmp name_cmp n d.0)
  where
    go : (b : Bool) → cond b (Some d.1) None ≡ option_or None (cond b (Some d.1) None)
    go true = refl
    go false = refl
found_last (e ∷ ds) d n = go (eq_by_cmp name_cmp n e.0) (found_last ds d n)
  where
    go : (b : Bool) → find name_cmp n (ds ++ d ∷ []) ≡ option_or (find name_cmp n ds) (cond (eq_by_cmp name_cmp n d.0) (Some d.1) None)
        → cond b (Some e.1) (find name_cmp n (ds ++ d ∷ [])) ≡ option_or (cond b (Some e.1) (find name_cmp n ds)) (cond (eq_by_cmp name_cmp n d.0) (Some d.1) None)
    go true h = refl
    go false h = h

pub declares_next : (ds : List Definition) (by i : ℕ) (d : Definition) (old new : Declared) (types : NodeId × NodeId) → i < length ds → d ≡ get_or ds i d
    → DeclaresAll (map definition_value (take i ds)) by old → types ≡ nodes_of by (definition_value d).1 → IsPutLast d.name types old new
    → DeclaresAll (map definition_value (take (i + 1) ds)) by new
declares_next ds by i d old new types lt is h t put = record {
  sorted = put.sorted;
  all = λ n. put.all n ∙ ap (λ o. option_or o (cond (eq_by_cmp name_cmp n d.name) (Some types) None)) (h.all n)
      ∙ both (find name_cmp n (map definition_value (take i ds))) (eq_by_cmp name_cmp n d.name)
      ∙ ap (option_map (nodes_of by)) (sym (found_last (map definition_value (take i ds)) (definition_value d) n) ∙ ap (find name_cmp n) (sym further));
}
  where
    further : map definition_value (take (i + 1) ds) ≡ map definition_value (take i ds) ++ definition_value d ∷ []
    further = ap (map definition_value) (rw add-one (take_more ds i d (slice_get_read ds (length ds) i d refl lt is)))
        ∙ map-append definition_value (take i ds) (d ∷ [])

    both : (o : Option DefinitionValue) (b : Bool)
        → option_or (option_map (nodes_of by) o) (cond b (Some types) None)
        ≡ option_map (nodes_of by) (option_or o (cond b (Some (definition_value d).1) None))
    both None true = ap Some t
    both None false = refl
    both (Some e) b = refl

pub declares_none : (by : ℕ) (ds : Declared) → ds ≡ [] → DeclaresAll [] by ds
declares_none by ds e = subst (DeclaresAll [] by) (sym e) (record { sorted = tt; all = λ n. refl })
