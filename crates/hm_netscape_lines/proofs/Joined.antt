-- Lines behind lines, and the lines of a folder.
use Rattle.std.proofs.Common.{◌≡◌, ℕ, ◌+◌, ◌-◌, List, [], ◌∷◌, ◌++◌, Option, Some, None, refl, sym, ap, ◌∙◌, subst, append_assoc, arith}
use Rattle.std.specs.Option.{option_map}
use Rattle.hm_marks.specs.Contents.{nothing, link, folder, separator}
use Rattle.hm_marks_tokens.specs.Grammar.{Entry, Contents}
use Rattle.hm_marks_tokens.specs.Lines.{Line, opens, closes, links, heads, rules, depth_at, depth_behind, core, indent, laid, open_behind}
use Rattle.hm_netscape_entries.specs.Written.{trimmed, tidied, note_lines, contents_lines}
use Rattle.hm_netscape_lines.specs.Behind.{AreBehind, StandBehind, heading_lines, IsHeaded, IsEnded, joined}

-- ---- how many folders are open

open_append : (n : ℕ) (ls ms : List Line) → open_behind n (ls ++ ms) ≡ open_behind (open_behind n ls) ms
open_append n [] ms = refl
open_append n (l ∷ ls) ms = open_append (depth_behind n l) ls ms

open_note : (n : ℕ) (note : Option (List ℕ)) → open_behind n (note_lines note) ≡ n
open_note n None = refl
open_note n (Some bytes) = refl

one_less : (n : ℕ) → n + 1 - 1 ≡ n
one_less n = omega arith

-- as many behind what stands in a folder as before it
pub open_contents : (n : ℕ) (c : Contents) → open_behind n (contents_lines c) ≡ n
open_contents n nothing = refl
open_contents n (link e c) =
    open_append n (note_lines e.note) (contents_lines c) ∙ ap (λ k. open_behind k (contents_lines c)) (open_note n e.note) ∙ open_contents n c
open_contents n (folder e inside c) =
    open_append n (note_lines e.note) (opens ∷ (contents_lines inside ++ closes ∷ contents_lines c))
    ∙ ap (λ k. open_behind k (opens ∷ (contents_lines inside ++ closes ∷ contents_lines c))) (open_note n e.note)
    ∙ open_append (n + 1) (contents_lines inside) (closes ∷ contents_lines c)
    ∙ ap (λ k. open_behind (k - 1) (contents_lines c)) (open_contents (n + 1) inside) ∙ ap (λ k. open_behind k (contents_lines c)) (one_less n)
    ∙ open_contents n c
open_contents n (separator a c) = open_contents n c

-- ---- lines behind lines

pub laid_append : (n : ℕ) (ls ms : List Line) → laid n (ls ++ ms) ≡ laid n ls ++ laid (open_behind n ls) ms
laid_append n [] ms = refl
laid_append n (l ∷ ls) ms =
    let first = indent (depth_at n l) in
    let rest = laid (depth_behind n l) ls in
    let more = laid (open_behind (depth_behind n l) ls) ms in
    ap (λ bs. first ++ (core l ++ 10 ∷ bs)) (laid_append (depth_behind n l) ls ms)
    ∙ ap (λ bs. first ++ bs) (sym (append_assoc (core l) (10 ∷ rest) more)) ∙ sym (append_assoc first (core l ++ 10 ∷ rest) more)

pub behind_more : (n : ℕ) (a b c : List ℕ) (ls ms : List Line) → AreBehind n a b ls → AreBehind (open_behind n ls) b c ms → AreBehind n a c (ls ++ ms)
behind_more n a b c ls ms one other =
    other ∙ ap (λ bs. bs ++ laid (open_behind n ls) ms) one ∙ append_assoc a (laid n ls) (laid (open_behind n ls) ms) ∙ ap (λ bs. a ++ bs) (sym (laid_append n ls ms))

joined_lines : (c d : Contents) → contents_lines (tidied (joined c d)) ≡ contents_lines (tidied c) ++ contents_lines (tidied d)
joined_lines nothing d = refl
joined_lines (link e c) d =
    let note = note_lines (option_map trimmed e.note) in
    ap (λ ls. links e.attributes e.title ∷ ls)
    (ap (λ ls. note ++ ls) (joined_lines c d) ∙ sym (append_assoc note (contents_lines (tidied c)) (contents_lines (tidied d))))
joined_lines (folder e inside c) d =
    let note = note_lines (option_map trimmed e.note) in
    let inner = contents_lines (tidied inside) in
    let mine = contents_lines (tidied c) in
    let more = contents_lines (tidied d) in
    ap (λ ls. heads e.attributes e.title ∷ ls)
    (ap (λ ls. note ++ opens ∷ (inner ++ closes ∷ ls)) (joined_lines c d)
    ∙ ap (λ ls. note ++ opens ∷ ls) (sym (append_assoc inner (closes ∷ mine) more)) ∙ sym (append_assoc note (opens ∷ (inner ++ closes ∷ mine)) more))
joined_lines (separator a c) d = ap (λ ls. rules a ∷ ls) (joined_lines c d)

-- the lines of what stands in a folder, and those of what stands behind it
pub lines_joined : (n : ℕ) (x y z : List ℕ) (c d : Contents) → StandBehind n x y c → StandBehind n y z d → StandBehind n x z (joined c d)
lines_joined n x y z c d one other =
    subst (AreBehind n x z) (sym (joined_lines c d))
    (behind_more n x y z (contents_lines (tidied c)) (contents_lines (tidied d)) one
    (subst (λ k. AreBehind k y z (contents_lines (tidied d))) (sym (open_contents n (tidied c))) other))

-- ---- a folder

open_heading : (n : ℕ) (e : Entry) → open_behind n (heading_lines e) ≡ n + 1
open_heading n e =
    open_append n (note_lines (option_map trimmed e.note)) (opens ∷ []) ∙ ap (λ k. k + 1) (open_note n (option_map trimmed e.note))

folder_parts : (e : Entry) (c : Contents) → (heading_lines e ++ contents_lines (tidied c)) ++ closes ∷ [] ≡ contents_lines (tidied (folder e c nothing))
folder_parts e c =
    let note = note_lines (option_map trimmed e.note) in
    let inner = contents_lines (tidied c) in
    ap (λ ls. heads e.attributes e.title ∷ ls)
    (ap (λ ls. ls ++ closes ∷ []) (append_assoc note (opens ∷ []) inner) ∙ append_assoc note (opens ∷ inner) (closes ∷ []))

-- a heading, what stands in the folder, and its end
pub folder_lines : (n : ℕ) (w x y z : List ℕ) (e : Entry) (c : Contents) → IsHeaded n w x e → StandBehind (n + 1) x y c → IsEnded n y z
    → StandBehind n w z (folder e c nothing)
folder_lines n w x y z e c heading inside end =
    let inner = contents_lines (tidied c) in
    let begun = behind_more n w x y (heading_lines e) inner heading (subst (λ k. AreBehind k x y inner) (sym (open_heading n e)) inside) in
    let opened : open_behind n (heading_lines e ++ inner) ≡ n + 1 =
    open_append n (heading_lines e) inner ∙ ap (λ k. open_behind k inner) (open_heading n e) ∙ open_contents (n + 1) (tidied c) in
    subst (AreBehind n w z) (folder_parts e c)
    (behind_more n w y z (heading_lines e ++ inner) (closes ∷ []) begun (subst (λ k. AreBehind k y z (closes ∷ [])) (sym opened) end))
