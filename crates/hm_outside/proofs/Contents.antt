-- What a look-up finds in contents, which look-ups alone tell apart.
use Rattle.std.proofs.Common.{◌≡◌, ℕ, List, Some, None, cond, ap, ◌∙◌, refl, ◌≢◌}
use Rattle.std.specs.FinMap.{get, get-empty, get-insert, get-remove, same_map, IsAntisymmetric, nat_cmp-IsAntisymmetric, slice_cmp-IsAntisymmetric}
use Rattle.std.specs.Cmp.{IsTotalOrder}
use Rattle.std.specs.Ordering.{eq_by_cmp}
use Rattle.std.specs.Str.{bytes_eq}
use Rattle.std.proofs.lemmas.Cmp.{nat_list_cmp_total}
use Rattle.std.proofs.lemmas.Map.Text.{is_eq-slice_cmp}
use Rattle.std.proofs.lemmas.Slice.Eq.{bytes_eq-Decides}
use Rattle.std.proofs.lemmas.Bool.{false_from_ne_true}
use Rattle.hm_tree.specs.Names.{Name, name_cmp}
use Rattle.hm_outside.specs.Contents.{Contents, nothing_held, held, replaced, removed}

pub name_cmp_total : IsTotalOrder name_cmp
unfolding name_cmp
name_cmp_total = nat_list_cmp_total

pub name_cmp-IsAntisymmetric : IsAntisymmetric name_cmp
unfolding name_cmp
name_cmp-IsAntisymmetric = slice_cmp-IsAntisymmetric nat_cmp-IsAntisymmetric

-- two names tie exactly where their bytes are equal
pub eq_by_cmp-name_cmp : (a b : Name) → eq_by_cmp name_cmp a b ≡ bytes_eq a b
unfolding name_cmp
eq_by_cmp-name_cmp a b = is_eq-slice_cmp a b

pub held-nothing_held : (name : Name) → held nothing_held name ≡ None
unfolding held nothing_held
held-nothing_held name = get-empty name_cmp name

pub held-replaced : (contents : Contents) (name : Name) (bytes : List ℕ) (other : Name)
    → held (replaced contents name bytes) other ≡ cond (bytes_eq other name) (Some bytes) (held contents other)
unfolding held replaced
held-replaced contents name bytes other = get-insert name_cmp_total contents name bytes other
    ∙ ap (λ b. cond b (Some bytes) (get contents other)) (eq_by_cmp-name_cmp other name)

pub held-removed : (contents : Contents) (name other : Name)
    → held (removed contents name) other ≡ cond (bytes_eq other name) None (held contents other)
unfolding held removed
held-removed contents name other = get-remove name_cmp_total contents name other
    ∙ ap (λ b. cond b None (get contents other)) (eq_by_cmp-name_cmp other name)

-- the name has the new bytes after a replace
pub held-replaced_same : (contents : Contents) (name : Name) (bytes : List ℕ) → held (replaced contents name bytes) name ≡ Some bytes
held-replaced_same contents name bytes = held-replaced contents name bytes name
    ∙ ap (λ b. cond b (Some bytes) (held contents name)) ((bytes_eq-Decides name name).1 refl)

-- another name has what it had
pub held-replaced_other : (contents : Contents) (name : Name) (bytes : List ℕ) (other : Name) → other ≢ name
    → held (replaced contents name bytes) other ≡ held contents other
held-replaced_other contents name bytes other apart = held-replaced contents name bytes other
    ∙ ap (λ b. cond b (Some bytes) (held contents other)) (false_from_ne_true _ (λ same. apart ((bytes_eq-Decides other name).0 same)))

-- contents in which each name has the same bytes are equal
pub same_contents : (a b : Contents) → ((name : Name) → held a name ≡ held b name) → a ≡ b
unfolding held
same_contents a b same = same_map name_cmp_total name_cmp-IsAntisymmetric a b same
