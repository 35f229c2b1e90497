-- What stands in a folder keeps all of itself.
use Rattle.std.proofs.Common.{◌≡◌, ◌<◌, true, List, [], ◌∷◌, ◌++◌, length, refl, sym, ap, ◌∙◌, subst, arith, append_assoc}
use Rattle.std.specs.Ordering.{eq_by_cmp, is_eq}
use Rattle.std.proofs.lemmas.Cmp.{tied_itself}
use Rattle.std.proofs.lemmas.List.{length-append}
use Rattle.hm_tree.specs.Names.{Name, name_cmp}
use Rattle.hm_tree.proofs.Sorted.{name_total}
use Rattle.hm_book_items.specs.Items.{of_key}
use Rattle.hm_book_items.proofs.ReadBack.{of_key-append}
use Rattle.hm_marks.specs.Contents.{Contents, nothing, link, folder, separator, Item, a_link, a_folder}
use Rattle.hm_marks.specs.Layouts.{Layout, items_of}
use Rattle.hm_marks.specs.Kept.{IsKeptLink, count_of, AreKept, behind, separator_stays, link_survives, folder_survives, Keeps}

-- behind some items there is place for one more of its key, where it stands there now
place : {X : Type 0} (before rest : List (Name × X)) (x : Name × X) → length (of_key name_cmp x.0 before) < length (of_key name_cmp x.0 (before ++ x ∷ rest))
place before rest x =
    let tied : eq_by_cmp name_cmp x.0 x.0 ≡ true = ap is_eq (tied_itself name_total x.0) in
    let here : of_key name_cmp x.0 (x ∷ rest) ≡ x.1 ∷ of_key name_cmp x.0 rest = rw tied refl in
    let all = ap length (of_key-append name_cmp x.0 before (x ∷ rest) ∙ ap (λ l. of_key name_cmp x.0 before ++ l) here) in
    let sum = length-append (of_key name_cmp x.0 before) (x.1 ∷ of_key name_cmp x.0 rest) in
    omega (arith, all, sum)

same_link : {L F : Type 0} (y : Layout L F) (AreAlike : L → L → Type 0) (l : L) → IsKeptLink y AreAlike l l
same_link y AreAlike l = record { key_is = refl; same = λ e. refl; alike = λ other. absurd (other refl) }

module _ {L F S : Type 0} (y : Layout L F) (AreAlike : L → L → Type 0) where
  kept_behind : (before now : List (Name × Item L F S)) (c : Contents L F S) → now ≡ before ++ items_of y c → AreKept y AreAlike now before c c
  kept_behind before now nothing e = behind refl
  kept_behind before now (separator s rest) e = separator_stays (kept_behind before now rest e)
  kept_behind before now (link l rest) e =
      let x : Name × Item L F S = (y.link_key l, a_link l) in
      link_survives (subst (λ now. count_of x.0 before < count_of x.0 now) (sym e) (place before (items_of y rest) x)) (same_link y AreAlike l)
      (kept_behind (before ++ x ∷ []) now rest (e ∙ sym (append_assoc before (x ∷ []) (items_of y rest))))
  kept_behind before now (folder f inside rest) e =
      let x : Name × Item L F S = (y.folder_key f, a_folder f inside) in
      folder_survives (subst (λ now. count_of x.0 before < count_of x.0 now) (sym e) (place before (items_of y rest) x))
      (kept_behind [] (items_of y inside) inside refl)
      (kept_behind (before ++ x ∷ []) now rest (e ∙ sym (append_assoc before (x ∷ []) (items_of y rest))))

  pub keeps_itself : (c : Contents L F S) → Keeps y AreAlike c c
  keeps_itself c = kept_behind [] (items_of y c) c refl
