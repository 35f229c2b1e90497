-- What holds of the bytes of each item of a list.
use Rattle.std.proofs.Common.{◌≡◌, ℕ, ◌<◌, List, [], ◌∷◌, ◌++◌, arith, length, get_or, All, Ok, Err, Result, sym, subst}
use Rattle.std.specs.Prelude.{Vec, IfOk, IsUtf8}
use Rattle.std.specs.declared.alloc.Global.{Global}
use Rattle.std.proofs.lemmas.List.{length-map, get_or-map}
use Rattle.std.specs.Borrow.{Bor}
use Rattle.std.proofs.lemmas.List.Elements.{All-append, All-cons, All-map}
use Rattle.hm_csv_fields.specs.Cutting.{bytes_of, all_bytes, lent, AreLentUtf8}

pub item_utf8 : (xs : List (Vec ℕ Global)) (i : ℕ) (x : Vec ℕ Global) → All (λ p. IsUtf8 p.items) xs → i < length xs → x ≡ get_or xs i x → IsUtf8 x.items
item_utf8 xs i x all lt is = subst (λ (v : Vec ℕ Global). IsUtf8 v.items) (sym is) (all i x lt)

-- where all that was cut is UTF-8, so is each of the pieces
pub cut_utf8 : {E : Type 0} (r : Result (Vec (Vec ℕ Global) Global) E) (ps : List (List ℕ)) → All IsUtf8 ps → IfOk r (λ v. all_bytes v ≡ ps)
    → IfOk r (λ v. All (λ p. IsUtf8 p.items) v.items)
cut_utf8 (Ok v) ps all is = λ i d lt.
    subst IsUtf8 (get_or-map bytes_of v.items i d (bytes_of d) lt)
    (subst (All IsUtf8) (sym is) all i (bytes_of d) (subst (λ n. i < n) (sym (length-map v.items bytes_of)) lt))
cut_utf8 (Err e) ps all is = tt

-- UTF-8 that is put behind such
pub pushed_utf8 : (old new : List (Bor (List ℕ))) (b : Bor (List ℕ)) → AreLentUtf8 old → new ≡ old ++ b ∷ [] → IsUtf8 b.now → AreLentUtf8 new
pushed_utf8 old new b all is one =
    subst AreLentUtf8 (sym is)
    (All-append (λ b. IsUtf8 b.now) old (b ∷ []) all (All-cons (λ b. IsUtf8 b.now) b [] one (λ k d lt. absurd (omega arith))))

-- what is lent
pub lent_utf8 : (bs : List (Bor (List ℕ))) → AreLentUtf8 bs → All IsUtf8 (lent bs)
lent_utf8 bs all = All-map IsUtf8 (λ b. b.now) bs all
