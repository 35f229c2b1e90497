-- What the getters of the matches give, by what the rows say; and how the texts of words are gathered.
use Rattle.std.proofs.Common.{◌≡◌, ◌∙◌, ◌+◌, ◌<◌, zero, suc, ℕ, Bool, true, false, ap, subst, arith, codes, List, [], ◌∷◌, length, get_or, take, Option, Some, IsUtf8}
use Rattle.std.specs.Prelude.{unwrap_or}
use Rattle.std.specs.Option.{option_map}
use Rattle.clap.specs.Walk.{Text, one_of, rows_of}
use Rattle.clap.specs.Matches.{matched_of, one_text, raw_values}
use Rattle.clap.specs.declared.parser.matches.Found.{Found}
use Rattle.clap.proofs.WalkLemmas.{one_text-rows, raw_values-rows}
use Rattle.hm_command_line.specs.Parse.{AreUtf8, truth, values_in}

flag_as : (seen flag : Bool) (text : Option Text) → text ≡ Some (truth seen) → (text ≡ Some (codes "true") → flag ≡ true) → (text ≡ Some (codes "false") → flag ≡ false)
    → flag ≡ seen
flag_as true flag text e on off = on e
flag_as false flag text e on off = off e

pub flag_so : (f : Found) (seen flag : Bool) → one_of (codes "quiet") (rows_of f) ≡ Some (truth seen) → (one_text f (codes "quiet") ≡ Some (codes "true") → flag ≡ true)
    → (one_text f (codes "quiet") ≡ Some (codes "false") → flag ≡ false) → flag ≡ seen
flag_so f seen flag e on off = flag_as seen flag (one_text f (codes "quiet")) (one_text-rows f (codes "quiet") ∙ e) on off

pub words_so : (f : Found) (found : Option (List Text)) → found ≡ option_map raw_values (matched_of f (codes "words"))
    → unwrap_or found [] ≡ values_in (codes "words") (rows_of f)
words_so f found e = ap (λ (o : Option (List Text)). unwrap_or o []) (e ∙ raw_values-rows f (codes "words"))

utf8_next : (xs : List Text) (i : ℕ) (x : Text) → i < length xs → IsUtf8 (get_or xs i x) → AreUtf8 (take i xs) → AreUtf8 (take (suc i) xs)
utf8_next [] i x lt here before = absurd (omega arith)
utf8_next (y ∷ ys) zero x lt here before = (here, tt)
utf8_next (y ∷ ys) (suc i) x lt here before = (before.0, utf8_next ys i x (omega arith) here before.1)

pub utf8_more : (xs : List Text) (i : ℕ) (x : Text) → i < length xs → x ≡ get_or xs i x → IsUtf8 x → AreUtf8 (take i xs) → AreUtf8 (take (i + 1) xs)
utf8_more xs i x lt is here before =
    let next : suc i ≡ i + 1 = omega arith in
    subst (λ (n : ℕ). AreUtf8 (take n xs)) next (utf8_next xs i x lt (subst IsUtf8 is here) before)
