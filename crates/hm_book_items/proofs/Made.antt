-- Edges that are made of sorted items from their end.
use Rattle.std.proofs.Common.{◌≡◌, ◌≢◌, List, [], ◌∷◌, ◌++◌, length, reverse, append_assoc, append-nil, refl, sym, ap, ◌∙◌, subst}
use Rattle.std.proofs.lemmas.List.{nil_from_length, reverse-append}
use Rattle.hm_tree.specs.Names.{Name}
use Rattle.hm_tree.specs.Nodes.{Tree, empty}
use Rattle.hm_tree.specs.NodeLaws.{edges_empty}
use Rattle.hm_tree_parts.specs.Lists.{IsItem, none_left, and_then}
use Rattle.hm_book_items.specs.ItemTrees.{AreLists}
use Rattle.hm_book_items.specs.Runs.{runs, with_item, IsListTaken}
use Rattle.hm_book_items.proofs.Runs.{tied_when, untied}

abbrev Edges : Type 0
Edges = List (Name × Tree)

last_first : (es : Edges) (e : Name × Tree) → reverse (es ++ e ∷ []) ≡ e ∷ reverse es
last_first es e = reverse-append es (e ∷ [])

-- ---- the list of a key, taken off

pub no_edge : (k : Name) (old new : Edges) (list : Tree) → old ≡ new ++ [] → length old ≡ 0 → list ≡ empty → IsListTaken k (reverse old) (reverse new) list
no_edge k old new list left none is = rw (nil_from_length old none, sym (append-nil new) ∙ sym left ∙ nil_from_length old none, is) go
  where
    go : IsListTaken k [] [] empty
    go [] h = (none_left edges_empty, tt)
    go (l ∷ ls) h = absurd h

pub key_first : (k : Name) (old new : Edges) (e : Name × Tree) → old ≡ new ++ e ∷ [] → e.0 ≡ k → IsListTaken k (reverse old) (reverse new) e.1
key_first k old new e last is = subst (λ es. IsListTaken k es (reverse new) e.1) (sym (ap reverse last ∙ last_first new e)) go
  where
    go : IsListTaken k (e ∷ reverse new) (reverse new) e.1
    go [] h = absurd h
    go (l ∷ ls) h = rw (tied_when k l.0 (sym is ∙ h.0.0)) (h.0.1, h.1)

pub other_first : (k : Name) (old rest new : Edges) (e : Name × Tree) (list : Tree) → old ≡ rest ++ e ∷ [] → new ≡ rest ++ e ∷ [] → e.0 ≢ k → list ≡ empty
    → IsListTaken k (reverse old) (reverse new) list
other_first k old rest new e list last more other is =
    rw (ap reverse last ∙ last_first rest e, ap reverse more ∙ last_first rest e, is) go
  where
    go : IsListTaken k (e ∷ reverse rest) (e ∷ reverse rest) empty
    go [] h = absurd h
    go (l ∷ ls) h = rw (untied k l.0 (λ same. other (h.0.0 ∙ sym same))) (none_left edges_empty, h)

-- ---- the walk

-- the edges, from last to first, are those of the runs of the items that aren't left
pub record AreMadeSoFar (whole left : List (Name × Tree)) (es : Edges) : Type 0 where
  pub done : List (Name × Tree)
  pub all : whole ≡ left ++ done
  pub stand : AreLists (reverse es) (runs done)

pub one_made : (whole left rest : List (Name × Tree)) (x : Name × Tree) (es taken fs : Edges) (list t : Tree) → AreMadeSoFar whole left es
    → left ≡ rest ++ x ∷ [] → IsListTaken x.0 (reverse es) (reverse taken) list → IsItem x.1 list t → fs ≡ taken ++ (x.0, t) ∷ []
    → AreMadeSoFar whole rest fs
one_made whole left rest x es taken fs list t so last off item more =
    let parts = off (runs so.done) so.stand in
    record {
      done = x ∷ so.done;
      all = so.all ∙ ap (λ l. l ++ so.done) last ∙ append_assoc rest (x ∷ []) so.done;
      stand = subst (λ es. AreLists es (with_item x (runs so.done))) (sym (ap reverse more ∙ last_first taken (x.0, t)))
          ((refl, and_then item parts.0), parts.1);
    }

pub all_made : (whole left : List (Name × Tree)) (es fs : Edges) → AreMadeSoFar whole left es → length left ≡ 0 → fs ≡ reverse es
    → AreLists fs (runs whole)
all_made whole left es fs so none is =
    let same : whole ≡ so.done = so.all ∙ ap (λ l. l ++ so.done) (nil_from_length left none) in
    subst (λ l. AreLists fs (runs l)) (sym same) (subst (λ es. AreLists es (runs so.done)) (sym is) so.stand)
