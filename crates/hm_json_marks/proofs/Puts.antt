-- Values that are put at two keys.
use Rattle.std.proofs.Common.{◌≡◌, ℕ, List, Ordering, Less, Equal, Greater, nat_cmp, refl, sym, ap, ◌∙◌}
use Rattle.std.specs.Ordering.{match_ordering, ordering_reverse}
use Rattle.std.specs.Cmp.Lexicographic.{slice_cmp}
use Rattle.std.proofs.lemmas.Cmp.{nat_list_cmp_total}
use Rattle.serde_json.specs.Data.{Data, Members, no_members, member, put}
use Rattle.hm_json_documents.proofs.Members.{put_twice}

module _ (k l : List ℕ) (less : slice_cmp nat_cmp k l ≡ Less) (d e : Data) where
  behind_one : (m : List ℕ) → slice_cmp nat_cmp m l ≡ Less → slice_cmp nat_cmp l m ≡ Greater
  behind_one m is = nat_list_cmp_total.antisymm l m ∙ ap ordering_reverse is

  behind_same : (m : List ℕ) → slice_cmp nat_cmp k m ≡ Equal → slice_cmp nat_cmp l m ≡ Greater
  behind_same m is = behind_one m (sym (nat_list_cmp_total.congr k m l is) ∙ less)

  behind_more : (m : List ℕ) → slice_cmp nat_cmp k m ≡ Greater → slice_cmp nat_cmp l m ≡ Greater
  behind_more m is = behind_one m (nat_list_cmp_total.trans m k l (nat_list_cmp_total.antisymm m k ∙ ap ordering_reverse is) less)

  -- they may be put in either order
  pub put_either : (ms : Members) → put k d (put l e ms) ≡ put l e (put k d ms)
  put_either no_members = rw (less, behind_one k less) refl
  put_either (member m f ms) = go (slice_cmp nat_cmp k m) refl (slice_cmp nat_cmp l m) refl (put_either ms)
    where
      go : (o : Ordering) → slice_cmp nat_cmp k m ≡ o → (p : Ordering) → slice_cmp nat_cmp l m ≡ p → put k d (put l e ms) ≡ put l e (put k d ms)
          → put k d (match_ordering (slice_cmp nat_cmp l m) (member l e (member m f ms)) (member m e ms) (member m f (put l e ms)))
          ≡ put l e (match_ordering (slice_cmp nat_cmp k m) (member k d (member m f ms)) (member m d ms) (member m f (put k d ms)))
      go Less is Less also same = rw (is, also, less, behind_one k less) refl
      go Less is Equal also same = rw (is, also, behind_one k less) (rw is refl)
      go Less is Greater also same = rw (is, also, behind_one k less) (rw is refl)
      go Equal is p also same = rw (is, behind_same m is) (rw is refl)
      go Greater is p also same = rw (is, behind_more m is) (rw is (ap (member m f) same))

-- and of two that are put twice the later ones stay
pub puts_twice : (k l : List ℕ) → slice_cmp nat_cmp k l ≡ Less → (b c d e : Data) (ms : Members)
    → put l e (put k d (put l c (put k b ms))) ≡ put l e (put k d ms)
puts_twice k l less b c d e ms =
    ap (put l e) (put_either k l less d c (put k b ms)) ∙ put_twice l e c (put k d (put k b ms)) ∙ ap (put l e) (put_twice k d b ms)
