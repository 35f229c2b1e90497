-- The depth of an archive, by what stands under its names, and whether it may be written.
use Rattle.std.proofs.Common.{◌≡◌, ℕ, ◌+◌, ◌<◌, ◌≤◌, max, zero, suc, nat_lt, true, cond, List, [], ◌∷◌, ◌++◌, length, take, drop, get_or, map, slice_get, Some, None, Result, Ok, Err, refl, sym, ap, ◌∙◌, arith}
use denote.Param.Weighed.{most}
use Rattle.std.proofs.lemmas.List.{take-append-drop, take_more}
use Rattle.std.proofs.lemmas.Bool.{cond_both}
use Rattle.std.proofs.lemmas.Bool.Decides.{nat_tests}
use Rattle.hm_tree.specs.Names.{Name}
use Rattle.hm_tree.specs.Nodes.{Node, Tree, depth, edges, deepest}
use Rattle.hm_tree.specs.NodeLaws.{depth-edges}
use Rattle.hm_tree.specs.Archives.{Archive as ArchiveValue, edges_here, depth_here, recorded, depth-recorded}
use Rattle.hm_run_files.specs.declared.slot.Slot.TheVariants.{Archive}
use Rattle.hm_run_files.specs.declared.stop.FileFault.TheVariants.{Unwritable}
use Rattle.hm_run_files.specs.declared.stop.Refusal.{Refusal}
use Rattle.hm_run_files.specs.declared.stop.Refusal.TheVariants.{At}
use Rattle.hm_run_sync.specs.Verdict.{archive_fits}

-- the depth of the archive under a name, with the edge to it
abbrev pub under_edge : Name × ArchiveValue → ℕ
under_edge e = depth_here e.1 + 1

most_mapped : (es : List (Name × Node true)) → most under_edge (map (λ (e : Name × Node true). (e.0, Some e.1)) es) ≡ deepest es
most_mapped [] = refl
most_mapped (e ∷ es) = omega (arith, most_mapped es)

pub depth-here : (o : ArchiveValue) → depth_here o ≡ most under_edge (edges_here o)
depth-here None = refl
depth-here (Some t) = depth-edges t ∙ sym (most_mapped (edges t))

most_joined : (xs ys : List (Name × ArchiveValue)) → most under_edge (xs ++ ys) ≡ max (most under_edge xs) (most under_edge ys)
most_joined [] ys = omega arith
most_joined (x ∷ xs) ys = omega (arith, most_joined xs ys)

-- with one edge more
pub most_more : (xs : List (Name × ArchiveValue)) (i : ℕ) (x : Name × ArchiveValue) → i < length xs
    → most under_edge (take (i + 1) xs) ≡ max (most under_edge (take i xs)) (under_edge (get_or xs i x))
most_more xs i x lt =
    let a = most_joined (take i xs) (get_or xs i x ∷ []) in
    let b = ap (most under_edge) (take_more xs i x lt) in
    omega arith

pub most_taken : (xs : List (Name × ArchiveValue)) (i : ℕ) → most under_edge (take i xs) ≤ most under_edge xs
most_taken xs i =
    let a = most_joined (take i xs) (drop i xs) in
    let b = ap (most under_edge) (take-append-drop i xs) in
    omega arith

pub edge_bound : (xs : List (Name × ArchiveValue)) (i : ℕ) (x : Name × ArchiveValue) → slice_get xs i ≡ Some x → under_edge x ≤ most under_edge xs
edge_bound [] i x e = absurd (let no : ⊥ = cc in no)
edge_bound (y ∷ ys) zero x e = let same : under_edge y ≡ under_edge x = ap under_edge (let is : y ≡ x = cc in is) in omega arith
edge_bound (y ∷ ys) (suc i) x e = omega (arith, edge_bound ys i x e)

-- ---- whether it may be written

pub fits_shallow : (o : ArchiveValue) → ◌≡◌ {A = Result (Unit {0}) Refusal} (Ok tt) (archive_fits o) → depth_here o ≤ 1000
fits_shallow o = cond_both (nat_lt 1000 (depth_here o)) (Err (At Archive (Unwritable (depth_here o)))) (Ok tt)
    (λ (r : Result (Unit {0}) Refusal). ◌≡◌ {A = Result (Unit {0}) Refusal} (Ok tt) r → depth_here o ≤ 1000)
    (λ is e. let no : ⊥ = cc in absurd no) (λ not _. grind (arith, nat_tests))

-- an archive that holds a view is as deep as that
pub view_fits : (v : Tree) → archive_fits (Some (recorded v)) ≡ cond (nat_lt 1000 (depth v)) (Err (At Archive (Unwritable (depth v)))) (Ok tt)
view_fits v = ap (λ (n : ℕ). cond (nat_lt 1000 n) (Err (At Archive (Unwritable n))) (Ok tt)) (depth-recorded v)
