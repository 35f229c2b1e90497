-- The tree at the front of bytes.
use Rattle.std.proofs.Common.{◌≡◌, ℕ, ◌+◌, ◌≤◌, true, false, List, ◌++◌, length, take, drop, Some, refl, sym, ap, subst, ◌∙◌, arith, length-append, length-drop}
use Rattle.std.proofs.lemmas.List.{append-nil}
use Rattle.hm_tree.specs.Nodes.{Node, Tree, depth}
use Rattle.hm_tree.specs.Archives.{recorded, depth-recorded}
use Rattle.hm_tree_text.specs.Text.{whole, text}
use Rattle.hm_tree_text.specs.Opening.{Opens}
use Rattle.hm_tree_text.specs.Reading.{IsWhole, BeginsWith, IsFaultAt, IsWholeRead}
use Rattle.hm_tree_text.specs.FirstTree.{IsFirstTree}
use Rattle.hm_tree_text.proofs.Parts.{take_front}
use Rattle.hm_tree_text.proofs.Deep.{shallow_whole}
use Rattle.hm_tree_text.proofs.Whole.{sound_unmarked}

front_is : (bytes part : List ℕ) (end : ℕ) → bytes ≡ part ++ drop end bytes → end ≤ length bytes → take end bytes ≡ part
front_is bytes part end e within =
    let size = ap length e in
    let long : end ≡ length part + 0 = omega (arith, length-append part (drop end bytes), length-drop end bytes) in
    ap (take end) e ∙ take_front part (drop end bytes) 0 end long ∙ append-nil part

pub first_read : (t : Tree) (bytes : List ℕ) (end : ℕ) → IsWholeRead false 1000 bytes (Some (recorded t)) end → IsFirstTree bytes (Some (t, end))
unfolding recorded
first_read t bytes end h =
    let same : recorded t ≡ h.node = let e = h.read.is in cc in (
      (let s = h.read.shallow in let d = ap (λ (n : Node true). depth n) same in let r = depth-recorded t in omega arith),
      h.stands.within,
      front_is bytes _ end h.stands.spelled h.stands.within ∙ ap (λ (n : Node true). text whole n.shape) (sym same),
    )

module _ (bytes : List ℕ) (t : Tree) (rest : List ℕ) (shallow : depth t ≤ 1000) (is : bytes ≡ text whole t.shape ++ rest) where
  pub no_fault : (at : ℕ) → IsFaultAt (IsWhole false) bytes 0 at → ⊥
  unfolding recorded
  no_fault at f = f.longest.none (record {
    part = text whole t.shape;
    rest = rest;
    is_form = record { node = recorded t; marks = sound_unmarked true t.shape t.sound; is = refl };
    is = is;
  })

  pub not_deep : BeginsWith (Opens false 1001) bytes → ⊥
  unfolding recorded
  not_deep d = shallow_whole false 1001 (omega arith) (recorded t) (let e = depth-recorded t in omega arith) rest (subst (BeginsWith (Opens false 1001)) is d)
