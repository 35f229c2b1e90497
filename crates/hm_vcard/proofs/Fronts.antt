-- Properties in front of a line that is none.
use Rattle.std.proofs.Common.{◌≡◌, ℕ, zero, suc, ◌<◌, ◌≤◌, List, [], ◌∷◌, ◌++◌, length, get_or, take, slice_get, Some, refl, sym, ap, ◌∙◌, subst, arith}
use Rattle.std.specs.Prelude.{All}
use Rattle.std.proofs.lemmas.List.{length-append}
use Rattle.std.proofs.lemmas.List.Elements.{All-head, All-tail, filter_map-append}
use Rattle.hm_lines.specs.Content.{IsContentLine}
use Rattle.hm_lines.proofs.Laws.{parted_once}
use Rattle.hm_book_cards.specs.Cards.{Shown}
use Rattle.hm_lines_cards.specs.Lines.{Line, AreFew, text_shown, texts_of}
use Rattle.hm_lines_cards.specs.Lent.{plain}
use Rattle.hm_vcard.specs.Cards.{IsProperty}
use Rattle.hm_lines_files.specs.Components.{Bytes}
use Rattle.hm_vcard.specs.Opening.{IsOther}

-- a line is a property in one way
pub one_line : (c p : Line) → IsProperty c → IsProperty p → c.0 ≡ p.0 → c ≡ p
one_line c p is_c is_p same =
    let parts = is_c.are ∙ ap Some (parted_once p.0 is_c.parts is_p.parts (subst (λ l. IsContentLine l is_c.parts) same is_c.content) is_p.content) ∙ sym is_p.are in
    λ i. (same i, parts i)

-- properties with which such lines begin are the first of theirs
pub in_front : (ps cs : List Line) (e : Bytes) (rest : List Bytes) → All IsProperty ps → All IsProperty cs → IsOther e
    → take (length ps) (plain cs ++ e ∷ rest) ≡ plain ps → (more : List Line) × (cs ≡ ps ++ more)
in_front [] cs e rest all others is_other t = (cs, refl)
in_front (p ∷ ps) [] e rest all others is_other t =
    let same : e ≡ p.0 = cc in
    absurd (is_other p.1 (subst (λ (x : Bytes). IsProperty (x, p.1)) (sym same) (All-head IsProperty p ps all)))
in_front (p ∷ ps) (c ∷ cs) e rest all others is_other t =
    let here : c.0 ≡ p.0 = cc in
    let later : take (length ps) (plain cs ++ e ∷ rest) ≡ plain ps = cc in
    let r = in_front ps cs e rest (All-tail IsProperty p ps all) (All-tail IsProperty c cs others) is_other later in
    (r.0, (λ i. one_line c p (All-head IsProperty c cs others) (All-head IsProperty p ps all) here i ∷ r.1 i))

-- fewer lines have fewer texts
pub fewer : (properties : Shown) (ps more : List Line) → AreFew properties (ps ++ more) → AreFew properties ps
fewer properties ps more few = λ i d lt e.
    let p = get_or properties i d in
    let all = few i d lt e in
    let long = ap length (filter_map-append (text_shown p.0) ps more) ∙ length-append (texts_of p.0 ps) (texts_of p.0 more) in
    omega (arith, all, long)

-- what stands behind some lines
pub got_behind : (ps more : List Line) (rest : List Bytes) → slice_get (plain (ps ++ more) ++ rest) (length ps) ≡ slice_get (plain more ++ rest) 0
got_behind [] more rest = refl
got_behind (p ∷ ps) more rest = got_behind ps more rest

pub taken_front : {X : Type 0} (n : ℕ) (xs more : List X) → n ≤ length xs → take n (take n xs ++ more) ≡ take n xs
taken_front zero xs more le = refl
taken_front (suc n) [] more le = absurd (omega (arith, le))
taken_front (suc n) (x ∷ xs) more le = ap (λ l. x ∷ l) (taken_front n xs more (omega (arith, le)))

pub less_taken : {X : Type 0} (n : ℕ) (xs more : List X) → n < length xs → take n (take (suc n) xs ++ more) ≡ take n xs
less_taken n [] more lt = absurd (omega (arith, lt))
less_taken zero (x ∷ xs) more lt = refl
less_taken (suc n) (x ∷ xs) more lt = ap (λ l. x ∷ l) (less_taken n xs more (omega (arith, lt)))

pub got_front : {X : Type 0} (n : ℕ) (xs more : List X) → n < length xs → slice_get (take (suc n) xs ++ more) n ≡ slice_get xs n
got_front n [] more lt = absurd (omega (arith, lt))
got_front zero (x ∷ xs) more lt = refl
got_front (suc n) (x ∷ xs) more lt = got_front n xs more (omega (arith, lt))
