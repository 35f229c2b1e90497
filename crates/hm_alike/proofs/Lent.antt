-- Names that are lent, one by one.
use Rattle.std.proofs.Common.{◌≡◌, ℕ, ◌<◌, ◌+◌, List, [], ◌∷◌, ◌++◌, length, get_or, set, take, Vec, Bor, sym, ap, subst, ◌∙◌}
use Rattle.std.specs.declared.alloc.Global.{Global}
use Rattle.std.specs.List.Sorted.{IsStrictlySortedBy}
use Rattle.std.proofs.lemmas.List.{map-append, map-set, get_or-map, take_more, take-map}
use Rattle.hm_tree.specs.Names.{Name, name_cmp}
use Rattle.hm_alike.specs.Groups.{lent, lent_lists, with_name}
use Rattle.hm_alike.proofs.Rising.{sorted-take}

-- a name is put behind those of a list
pub put_name : (lists : List (Vec (Bor Name) Global)) (i : ℕ) (old new : Vec (Bor Name) Global) (n : Bor Name) → i < length lists
    → old ≡ get_or lists i old → new.items ≡ old.items ++ n ∷ [] → lent_lists (set lists i new) ≡ with_name (lent_lists lists) i n.now
put_name lists i old new n lt is e =
    map-set (λ (l : Vec (Bor Name) Global). lent l.items) lists i new
    ∙ ap (λ l. set (lent_lists lists) i l) (ap lent e ∙ map-append (λ (m : Bor Name). m.now) old.items (n ∷ [])
    ∙ ap (λ l. l ++ n.now ∷ []) (ap (λ (l : Vec (Bor Name) Global). lent l.items) is
    ∙ sym (get_or-map (λ (l : Vec (Bor Name) Global). lent l.items) lists i old [] lt)))

-- the names up to the next
pub lent_more : (names : List (Bor Name)) (i : ℕ) (n : Bor Name) → i < length names → n ≡ get_or names i n
    → lent (take (i + 1) names) ≡ lent (take i names) ++ n.now ∷ []
lent_more names i n lt is =
    ap lent (take_more names i n lt ∙ ap (λ m. take i names ++ m ∷ []) (sym is)) ∙ map-append (λ (m : Bor Name). m.now) (take i names) (n ∷ [])

pub lent_rises : (names : List (Bor Name)) (i : ℕ) (n : Bor Name) → i < length names → n ≡ get_or names i n
    → IsStrictlySortedBy name_cmp (lent names) → IsStrictlySortedBy name_cmp (lent (take i names) ++ n.now ∷ [])
lent_rises names i n lt is rise =
    subst (IsStrictlySortedBy name_cmp) (take-map (λ (m : Bor Name). m.now) (i + 1) names ∙ lent_more names i n lt is)
    (sorted-take name_cmp (i + 1) (lent names) rise)
