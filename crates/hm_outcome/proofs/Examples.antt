-- The definitions, tried on small trees: which names are carried, where it is contested, and a mark without a reason.
use Rattle.std.proofs.Common.{◌≡◌, ◌≢◌, [], ◌∷◌, ◌++◌, Some, None, refl, sym, subst₂, ◌∙◌, inl, inr, arith}
use mathlib.Core.Bool.{true≢false}
use Rattle.std.specs.Prelude.{codes, false, T}
use Rattle.std.specs.FinSet.{empty, contains-empty}
use Rattle.std.specs.Str.{is_utf8}
use Rattle.hm_tree.specs.declared.archive.State.TheVariants.{Missing, Present, Marked}
use Rattle.hm_tree.specs.Names.{Name, name_cmp}
use Rattle.hm_tree.specs.Nodes.{bare, mark, edge, both, Tree, marked, edges, edges_of, is_marked}
use Rattle.hm_tree.specs.States.{Path, state}
use Rattle.hm_tree.proofs.Texts.{ascii_test}
use Rattle.hm_safety.specs.Views.{Views, Agree, both_present, both_missing}
use Rattle.hm_safety.specs.Changes.{IsLost}
use Rattle.hm_safety.proofs.SmallTrees.{nothing, ann, bob, tel, bob_text, tel_text, leaf_sound, leaf, has_bob, holds_ann, holds_bob, holds_nothing}
use Rattle.hm_schema.specs.declared.node.NodeId.{NodeId}
use Rattle.hm_schema.specs.Values.{Names, SchemaValue}
use Rattle.hm_outcome.specs.Trios.{given, views}
use Rattle.hm_outcome.specs.Carried.{IsCarried, AreCarried, on_both, clashing, kept, brought}
use Rattle.hm_outcome.specs.Contested.{IsContested, AreRefused, IsTopmostContested, earlier, lost, refused}
use Rattle.hm_outcome.specs.Outcomes.{IsOutcome}
use Rattle.hm_outcome.proofs.Marks.{has_or_lacks}

-- ---- small trees and archives

abbrev cid : Name
cid = codes "Cid"

cid_text : T (is_utf8 cid)
cid_text = ascii_test cid refl

abbrev has_cid : Tree
has_cid = leaf cid cid_text

abbrev bob_has_tel : Tree
bob_has_tel = record {
  shape = edge bob (edge tel bare bare) bare;
  sound = both _ _ (both _ _ bob_text tt) (both _ _ (leaf_sound false tel tel_text) tt);
}

disagree : Agree Missing Present → ⊥
disagree h = elim h [ ]

-- ---- both sides deleted Ann; the left side added Bob, the right side Cid

abbrev moved : Views
moved = views (given holds_ann has_bob has_cid)

-- what a side has added stays there
added_is_kept : IsCarried moved.archive moved.left moved.right (bob ∷ [])
unfolding edges edges_of is_marked name_cmp
added_is_kept = kept refl refl (λ l. l.known refl) (λ a. disagree a)

-- and comes to the other side
added_is_brought : IsCarried moved.archive moved.right moved.left (bob ∷ [])
unfolding edges edges_of is_marked name_cmp
added_is_brought = brought refl refl (λ l. l.known refl) (λ a. disagree a)

deleted_is_not_kept : ¬ (IsCarried moved.archive moved.left moved.right (ann ∷ []))
unfolding edges edges_of is_marked name_cmp
deleted_is_not_kept (on_both h g) = let e : Missing ≡ Present = h in let no : ⊥ = cc in no
deleted_is_not_kept (clashing l) = let e : Missing ≡ Present = l.has in let no : ⊥ = cc in no
deleted_is_not_kept (kept h l n c) = let e : Missing ≡ Present = h in let no : ⊥ = cc in no
deleted_is_not_kept (brought l h n c) = let e : Missing ≡ Present = h in let no : ⊥ = cc in no

-- ---- the left side deleted Bob, and the right side gave him a number

abbrev clash : Views
clash = views (given holds_bob nothing bob_has_tel)

is_lost : IsLost clash.archive clash.right clash.left (bob ∷ [])
unfolding edges edges_of is_marked name_cmp
is_lost = record {
  has = refl;
  lacks = refl;
  known = λ e. (let f : Present ≡ Missing = e in let no : ⊥ = cc in no);
  news = (tel ∷ [], refl, λ e. (let f : Missing ≡ Present = e in let no : ⊥ = cc in no));
}

-- he stays where he is
clashing_stays : IsCarried clash.archive clash.right clash.left (bob ∷ [])
clashing_stays = clashing is_lost

-- and doesn't come back to the other side
clashing_is_not_brought : ¬ (IsCarried clash.archive clash.left clash.right (bob ∷ []))
unfolding edges edges_of is_marked name_cmp
clashing_is_not_brought (on_both h g) = let e : Missing ≡ Present = h in let no : ⊥ = cc in no
clashing_is_not_brought (clashing l) = let e : Missing ≡ Present = l.has in let no : ⊥ = cc in no
clashing_is_not_brought (kept h l n c) = let e : Missing ≡ Present = h in let no : ⊥ = cc in no
clashing_is_not_brought (brought l h n c) = n is_lost

clash_is_contested : (s : SchemaValue) (i : NodeId) → IsContested s i clash (bob ∷ [])
unfolding edges edges_of is_marked name_cmp
clash_is_contested s i = lost refl (inr is_lost)

-- ---- the left side deleted Bob, and the right side left him as he was

abbrev deleted : Views
deleted = views (given holds_bob nothing has_bob)

not_lost : ¬ (IsLost deleted.archive deleted.right deleted.left (bob ∷ []))
unfolding edges edges_of is_marked name_cmp
not_lost l = as_he_was l.news.0 l.news.1 l.news.2
  where
    as_he_was : (r : Path) → state (Some has_bob) (bob ∷ r) ≡ Present → state holds_bob (bob ∷ r) ≢ Present → ⊥
    as_he_was [] has none = none refl
    as_he_was (k ∷ r) has none = let e : Missing ≡ Present = has in let no : ⊥ = cc in no

-- the deletion is carried to the right side
deleted_is_not_carried : ¬ (IsCarried deleted.archive deleted.right deleted.left (bob ∷ []))
unfolding edges edges_of is_marked name_cmp
deleted_is_not_carried (on_both h g) = let e : Missing ≡ Present = g in let no : ⊥ = cc in no
deleted_is_not_carried (clashing l) = not_lost l
deleted_is_not_carried (kept h l n c) = c both_present
deleted_is_not_carried (brought l h n c) = let e : Missing ≡ Present = h in let no : ⊥ = cc in no

-- and not undone on the left side
deleted_is_not_brought : ¬ (IsCarried deleted.archive deleted.left deleted.right (bob ∷ []))
unfolding edges edges_of is_marked name_cmp
deleted_is_not_brought (on_both h g) = let e : Missing ≡ Present = h in let no : ⊥ = cc in no
deleted_is_not_brought (clashing l) = let e : Missing ≡ Present = l.has in let no : ⊥ = cc in no
deleted_is_not_brought (kept h l n c) = let e : Missing ≡ Present = h in let no : ⊥ = cc in no
deleted_is_not_brought (brought l h n c) = c both_present

deleted_is_not_contested : (s : SchemaValue) (i : NodeId) → ¬ (IsContested s i deleted (bob ∷ []))
unfolding edges edges_of is_marked name_cmp
deleted_is_not_contested s i (earlier m d) = let e : Present ≡ Marked = m in let no : ⊥ = cc in no
deleted_is_not_contested s i (lost e (inl l)) = let f : Missing ≡ Present = l.has in let no : ⊥ = cc in no
deleted_is_not_contested s i (lost e (inr l)) = not_lost l
deleted_is_not_contested s i (refused r) = let e : Missing ≡ Present = r.has_left in let no : ⊥ = cc in no

-- ---- the root is marked

abbrev stopped : Tree → Tree → Views
stopped a b = views (given (Some marked) a b)

-- the mark stays where the sides differ below it
still_contested : (s : SchemaValue) (i : NodeId) → IsTopmostContested s i (stopped has_bob has_cid) []
unfolding edges edges_of is_marked marked name_cmp
still_contested s i = record { contested = earlier refl (bob ∷ [], λ a. agree_not a); topmost = above }
  where
    agree_not : Agree Present Missing → ⊥
    agree_not h = elim h [ ]

    above : (q r : Path) → [] ≡ q ++ r → r ≢ [] → ¬ (IsContested s i (stopped has_bob has_cid) q)
    above [] r e n c = n (sym e)
    above (k ∷ q) r e n c = let no : ⊥ = cc in no

-- and goes where they don't
no_longer_contested : (s : SchemaValue) (i : NodeId) (t : Tree) → ¬ (IsContested s i (stopped t t) [])
unfolding is_marked marked
no_longer_contested s i t (earlier m d) =
    d.1 (elim (has_or_lacks (Some t) d.0) [ inl h ↦ subst₂ Agree (sym h) (sym h) both_present | inr l ↦ subst₂ Agree (sym l) (sym l) both_missing ])
no_longer_contested s i t (lost e c) = let f : Marked ≡ Present = e in let no : ⊥ = cc in no
no_longer_contested s i t (refused r) = r.unmarked refl

-- ---- both sides deleted a name that is marked

abbrev both_deleted : Views
both_deleted = views (given (Some (record { shape = edge bob mark bare; sound = both _ _ (both _ _ bob_text tt) tt })) nothing nothing)

gone_is_not_contested : (s : SchemaValue) (i : NodeId) → ¬ (IsContested s i both_deleted (bob ∷ []))
unfolding edges edges_of is_marked name_cmp
gone_is_not_contested s i (earlier m d) = d.1 both_missing
gone_is_not_contested s i (lost e c) = let f : Marked ≡ Present = e in let no : ⊥ = cc in no
gone_is_not_contested s i (refused r) = let e : Missing ≡ Present = r.has_left in let no : ⊥ = cc in no

-- at the root only the schema can refuse
only_refused : (s : SchemaValue) (i : NodeId) → IsContested s i both_deleted [] → (left right : Names) × AreRefused s i both_deleted [] left right
unfolding edges edges_of is_marked name_cmp
only_refused s i (earlier m d) = let e : Present ≡ Marked = m in let no : ⊥ = cc in absurd no
only_refused s i (lost e (inl l)) = let f : Present ≡ Missing = l.lacks in let no : ⊥ = cc in absurd no
only_refused s i (lost e (inr l)) = let f : Present ≡ Missing = l.lacks in let no : ⊥ = cc in absurd no
only_refused s i (refused {left} {right} r) = (left, right, r)

-- a mark without a reason: nothing has changed, and no names are refused
not_an_outcome : (s : SchemaValue) (i : NodeId)
    → ((left right : Names) → ¬ (AreRefused s i (views (given holds_nothing nothing nothing)) [] left right))
    → ¬ (IsOutcome s i (given holds_nothing nothing nothing) (given (Some marked) nothing nothing))
unfolding edges edges_of is_marked marked
not_an_outcome s i allowed o = reasons (((o.marks []).0 (record { marked = refl; topmost = above })).contested)
  where
    above : (q r : Path) → [] ≡ q ++ r → r ≢ [] → state (Some marked) q ≢ Marked
    above [] r e n m = n (sym e)
    above (k ∷ q) r e n m = let no : ⊥ = cc in no

    reasons : IsContested s i (views (given holds_nothing nothing nothing)) [] → ⊥
    reasons (earlier m d) = let e : Present ≡ Marked = m in let no : ⊥ = cc in no
    reasons (lost e (inl l)) = let f : Present ≡ Missing = l.lacks in let no : ⊥ = cc in no
    reasons (lost e (inr l)) = let f : Present ≡ Missing = l.lacks in let no : ⊥ = cc in no
    reasons (refused {left} {right} r) = allowed left right r

-- ---- a node that permits no set of names, not even the empty one

abbrev barren : SchemaValue
barren = record { nodes = record { shapes = []; children = []; other = None; twins = [] } ∷ []; root = record { place = 0 } }

abbrev still : Views
still = views (given holds_nothing nothing nothing)

none_carried : (k : Name) → ¬ (IsCarried (state holds_nothing) (state (Some nothing)) (state (Some nothing)) (k ∷ []))
unfolding edges edges_of is_marked
none_carried k (on_both h g) = let e : Missing ≡ Present = h in let no : ⊥ = cc in no
none_carried k (clashing l) = let e : Missing ≡ Present = l.has in let no : ⊥ = cc in no
none_carried k (kept h l n c) = let e : Missing ≡ Present = h in let no : ⊥ = cc in no
none_carried k (brought l h n c) = let e : Missing ≡ Present = h in let no : ⊥ = cc in no

carry_none : AreCarried (state holds_nothing) (state (Some nothing)) (state (Some nothing)) [] empty
carry_none k = (λ h. absurd (true≢false (sym h ∙ contains-empty name_cmp k)), λ c. absurd (none_carried k c))

what_is_refused_is_contested : IsContested barren (record { place = 0 }) still []
unfolding is_marked
what_is_refused_is_contested = refused {left = empty} {right = empty} (record {
  has_left = refl;
  has_right = refl;
  unmarked = λ e. (let f : Present ≡ Marked = e in let no : ⊥ = cc in no);
  are_left = carry_none;
  are_right = carry_none;
  node = record { shapes = []; children = []; other = None; twins = [] };
  is = refl;
  refused = inl (λ a. let h = a.2 in omega (arith, h));
})
