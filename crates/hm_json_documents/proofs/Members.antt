-- Members that are put and found keep what holds of values.
use Rattle.std.proofs.Common.{◌≡◌, ℕ, ◌≤◌, List, Option, Some, Ordering, Less, Equal, Greater, nat_cmp, false, IsUtf8, refl, ap, ◌∙◌, subst, arith}
use Rattle.std.specs.Ordering.{match_ordering, ordering_reverse}
use Rattle.std.specs.Cmp.Lexicographic.{slice_cmp}
use Rattle.std.proofs.lemmas.Bool.{or_parts, or_from}
use Rattle.std.proofs.lemmas.Cmp.{nat_list_cmp_total, tied_itself}
use Rattle.std.proofs.lemmas.Option.{same_Some, none-some}
use Rattle.serde_json.specs.Data.{Data, Members, no_members, member, put, depth, members_depth}
use Rattle.serde_json.specs.Find.{get_member}
use Rattle.serde_json.specs.Written.{has_float, members_have_float}
use Rattle.hm_json_documents.specs.Documents.{AreTexts, MembersAreTexts, IsBeforeFirst, IsSound, MembersAreSound}

-- of two values that are put at one key, the later one stays
pub put_twice : (k : List ℕ) (d e : Data) (ms : Members) → put k d (put k e ms) ≡ put k d ms
put_twice k d e no_members = rw (tied_itself nat_list_cmp_total k) refl
put_twice k d e (member l f ms) = go (slice_cmp nat_cmp k l) refl (put_twice k d e ms)
  where
    go : (o : Ordering) → slice_cmp nat_cmp k l ≡ o → put k d (put k e ms) ≡ put k d ms
        → put k d (match_ordering o (member k e (member l f ms)) (member l e ms) (member l f (put k e ms)))
        ≡ match_ordering o (member k d (member l f ms)) (member l d ms) (member l f (put k d ms))
    go Less is more = rw (tied_itself nat_list_cmp_total k) refl
    go Equal is more = rw is refl
    go Greater is more = rw is (ap (member l f) more)

-- ---- putting

-- what holds of each of three holds of the one that is taken
one_of : (P : Members → Type 0) (o : Ordering) (a b c : Members) → P a → P b → P c → P (match_ordering o a b c)
one_of P Less a b c p q r = p
one_of P Equal a b c p q r = q
one_of P Greater a b c p q r = r

pub put_no_float : (k : List ℕ) (d : Data) (ms : Members) → has_float d ≡ false → members_have_float ms ≡ false → members_have_float (put k d ms) ≡ false
put_no_float k d no_members new old = or_from (has_float d) false new refl
put_no_float k d (member l e ms) new old =
    let parts = or_parts (has_float e) (members_have_float ms) old in
    one_of (λ l. members_have_float l ≡ false) (slice_cmp nat_cmp k l) (member k d (member l e ms)) (member l d ms) (member l e (put k d ms))
    (or_from (has_float d) (members_have_float (member l e ms)) new old) (or_from (has_float d) (members_have_float ms) new parts.1)
    (or_from (has_float e) (members_have_float (put k d ms)) parts.0 (put_no_float k d ms new parts.1))

pub put_depth : (k : List ℕ) (d : Data) (ms : Members) (n : ℕ) → depth d ≤ n → members_depth ms ≤ n → members_depth (put k d ms) ≤ n
put_depth k d no_members n new old = omega arith
put_depth k d (member l e ms) n new old =
    one_of (λ l. members_depth l ≤ n) (slice_cmp nat_cmp k l) (member k d (member l e ms)) (member l d ms) (member l e (put k d ms))
    (omega arith) (omega arith) (omega (arith, put_depth k d ms n new (omega arith)))

pub put_texts : (k : List ℕ) (d : Data) (ms : Members) → IsUtf8 k → AreTexts d → MembersAreTexts ms → MembersAreTexts (put k d ms)
put_texts k d no_members key new old = (key, new, tt)
put_texts k d (member l e ms) key new old =
    one_of MembersAreTexts (slice_cmp nat_cmp k l) (member k d (member l e ms)) (member l d ms) (member l e (put k d ms))
    (key, new, old) (old.0, new, old.2) (old.0, old.1, put_texts k d ms key new old.2)

-- a key that is before a first key is before the first one still where another key behind it is put
before_put : (k l : List ℕ) (d : Data) (ms : Members) → slice_cmp nat_cmp k l ≡ Less → IsBeforeFirst k ms → IsBeforeFirst k (put l d ms)
before_put k l d no_members new old = new
before_put k l d (member m e ms) new old =
    one_of (IsBeforeFirst k) (slice_cmp nat_cmp l m) (member l d (member m e ms)) (member m d ms) (member m e (put l d ms)) new old old

pub put_sound : (k : List ℕ) (d : Data) (ms : Members) → IsUtf8 k → IsSound d → MembersAreSound ms → MembersAreSound (put k d ms)
put_sound k d no_members key new old = (key, new, tt, tt)
put_sound k d (member l e ms) key new old = go (slice_cmp nat_cmp k l) refl (put_sound k d ms key new old.3)
  where
    go : (o : Ordering) → slice_cmp nat_cmp k l ≡ o → MembersAreSound (put k d ms)
        → MembersAreSound (match_ordering o (member k d (member l e ms)) (member l d ms) (member l e (put k d ms)))
    go Less is more = (key, new, is, old)
    go Equal is more = (old.0, new, old.2, old.3)
    go Greater is more = (old.0, old.1, before_put l k d ms (nat_list_cmp_total.antisymm l k ∙ ap ordering_reverse is) old.2, more)

-- ---- finding

-- a value that is found is the first one, or it is found behind it
found_of : (P : Data → Type 0) (o : Ordering) (r : Option Data) (e d : Data) → P e → (r ≡ Some d → P d) → match_ordering o r (Some e) r ≡ Some d → P d
found_of P Less r e d first more is = more is
found_of P Equal r e d first more is = subst P (same_Some e d is) first
found_of P Greater r e d first more is = more is

pub found_no_float : (k : List ℕ) (d : Data) (ms : Members) → get_member k ms ≡ Some d → members_have_float ms ≡ false → has_float d ≡ false
found_no_float k d no_members is none = absurd (none-some d is)
found_no_float k d (member l e ms) is none =
    let parts = or_parts (has_float e) (members_have_float ms) none in
    found_of (λ f. has_float f ≡ false) (slice_cmp nat_cmp k l) (get_member k ms) e d parts.0 (λ later. found_no_float k d ms later parts.1) is

pub found_depth : (k : List ℕ) (d : Data) (ms : Members) → get_member k ms ≡ Some d → depth d ≤ members_depth ms
found_depth k d no_members is = absurd (none-some d is)
found_depth k d (member l e ms) is =
    found_of (λ f. depth f ≤ members_depth (member l e ms)) (slice_cmp nat_cmp k l) (get_member k ms) e d (omega arith)
    (λ later. let more = found_depth k d ms later in omega arith) is

pub found_texts : (k : List ℕ) (d : Data) (ms : Members) → get_member k ms ≡ Some d → MembersAreTexts ms → AreTexts d
found_texts k d no_members is all = absurd (none-some d is)
found_texts k d (member l e ms) is all =
    found_of AreTexts (slice_cmp nat_cmp k l) (get_member k ms) e d all.1 (λ later. found_texts k d ms later all.2) is

pub found_sound : (k : List ℕ) (d : Data) (ms : Members) → get_member k ms ≡ Some d → MembersAreSound ms → IsSound d
found_sound k d no_members is all = absurd (none-some d is)
found_sound k d (member l e ms) is all =
    found_of IsSound (slice_cmp nat_cmp k l) (get_member k ms) e d all.1 (λ later. found_sound k d ms later all.3) is
