-- The folders that are open where a reader stands, the innermost first, and how deep folders lie in them.
use Rattle.std.proofs.Common.{◌≡◌, ℕ, ◌+◌, ◌-◌, ◌≤◌, ◌<◌, max, length, List, [], ◌∷◌, ◌++◌, false, Option, refl, arith}
use Rattle.std.specs.Borrow.{Bor}
use Rattle.hm_marks_tokens.specs.Symbols as symbols
use Rattle.hm_marks_tokens.specs.Symbols.{Symbol, HasSymbols}
use Rattle.hm_marks_tokens.specs.Grammar.{Entry, Contents, contents_symbols}
use Rattle.hm_netscape_entries.specs.declared.next.Next.{Next as LentNext}
use Rattle.hm_netscape_entries.specs.declared.next.Next.TheVariants.{End, Link, Folder, Separator}
use Rattle.hm_netscape_entries.specs.Next.{entry_seen, next_seen, Next, an_end, a_link, a_folder, a_separator, IsLeft, IsInFolder, Begins, begins_end, begins_link, begins_folder, begins_separator}
use Rattle.hm_marks_schema.specs.Nesting.{nesting}

-- the symbols of what is left of folders, and of more behind them
abbrev pub open_symbols : List Contents → List Symbol → List Symbol
open_symbols [] more = more
open_symbols (c ∷ cs) more = contents_symbols c ++ symbols.list_end ∷ open_symbols cs more

-- how many folders lie one within another in what is left of them, the outermost of them being none
abbrev pub open_nesting : List Contents → ℕ
open_nesting [] = 0
open_nesting (c ∷ cs) = max (nesting c + length cs) (open_nesting cs)

-- so many folders are open within one, of all that were found so far the deepest lies so deep, and so deep lies the deepest of all
pub record IsOpen (whole within deepest : ℕ) (bytes : List ℕ) (more : List Symbol) (rest : List ℕ) : Type 0 where
  pub first : Contents
  pub others : List Contents
  pub left : IsLeft bytes first (open_symbols others more) rest
  pub count : length others ≡ within
  pub nested : max deepest (open_nesting (first ∷ others)) ≡ whole
  pub below : within ≤ deepest

-- a reader stands in a folder there
pub in_folder : (whole within deepest : ℕ) (bytes : List ℕ) (more : List Symbol) (rest : List ℕ) → IsOpen whole within deepest bytes more rest → IsInFolder bytes
in_folder whole within deepest bytes more rest is = (is.first, (open_symbols is.others more, (rest, is.left)))

pub is_open : (c : Contents) (bytes : List ℕ) (more : List Symbol) (rest : List ℕ) → IsLeft bytes c more rest → IsOpen (nesting c) 0 0 bytes more rest
is_open c bytes more rest left =
    record { first = c; others = []; left = left; count = refl; nested = omega arith; below = omega arith }

module _ (whole within deepest : ℕ) (bytes : List ℕ) (more : List Symbol) (rest : List ℕ) where
  -- what is next of the innermost folder
  abbrev pub NextIs : Next → List ℕ → IsOpen whole within deepest bytes more rest → Type 0
  NextIs next back is = Begins back (open_symbols is.others more) rest is.first next

  pub closed_all : (back : List ℕ) (is : IsOpen whole within deepest bytes more rest) → NextIs an_end back is → within ≡ 0
      → (deepest ≡ whole) × HasSymbols false back more rest
  closed_all back is next none = go is.first is.others next is.count is.nested
    where
      go : (c : Contents) (cs : List Contents) → Begins back (open_symbols cs more) rest c an_end → length cs ≡ within → max deepest (open_nesting (c ∷ cs)) ≡ whole
          → (deepest ≡ whole) × HasSymbols false back more rest
      go _ [] (begins_end has) count nested = (omega arith, has)
      go _ (d ∷ cs) (begins_end has) count nested = absurd (omega arith)

  pub closed_one : (back : List ℕ) (is : IsOpen whole within deepest bytes more rest) → NextIs an_end back is → 0 < within
      → IsOpen whole (within - 1) deepest back more rest
  closed_one back is next some = go is.first is.others next is.count is.nested is.below
    where
      go : (c : Contents) (cs : List Contents) → Begins back (open_symbols cs more) rest c an_end → length cs ≡ within → max deepest (open_nesting (c ∷ cs)) ≡ whole
          → within ≤ deepest → IsOpen whole (within - 1) deepest back more rest
      go _ [] (begins_end has) count nested below = absurd (omega arith)
      go _ (d ∷ cs) (begins_end has) count nested below =
          record { first = d; others = cs; left = has; count = omega arith; nested = omega arith; below = omega arith }

  pub opened_one : (e : Entry) (back : List ℕ) (is : IsOpen whole within deepest bytes more rest) → NextIs (a_folder e) back is
      → IsOpen whole (within + 1) (max deepest (within + 1)) back more rest
  opened_one e back is next = go is.first is.others next is.count is.nested is.below
    where
      go : (c : Contents) (cs : List Contents) → Begins back (open_symbols cs more) rest c (a_folder e) → length cs ≡ within → max deepest (open_nesting (c ∷ cs)) ≡ whole
          → within ≤ deepest → IsOpen whole (within + 1) (max deepest (within + 1)) back more rest
      go _ cs (begins_folder {inside = inside} {c = c} left) count nested below =
          record { first = inside; others = c ∷ cs; left = left; count = omega arith; nested = omega arith; below = omega arith }

  pub passed_link : (e : Entry) (back : List ℕ) (is : IsOpen whole within deepest bytes more rest) → NextIs (a_link e) back is
      → IsOpen whole within deepest back more rest
  passed_link e back is next = go is.first is.others next is.count is.nested is.below
    where
      go : (c : Contents) (cs : List Contents) → Begins back (open_symbols cs more) rest c (a_link e) → length cs ≡ within → max deepest (open_nesting (c ∷ cs)) ≡ whole
          → within ≤ deepest → IsOpen whole within deepest back more rest
      go _ cs (begins_link {c = c} left) count nested below =
          record { first = c; others = cs; left = left; count = count; nested = nested; below = below }

  pub passed_separator : (a : List ℕ) (back : List ℕ) (is : IsOpen whole within deepest bytes more rest) → NextIs (a_separator a) back is
      → IsOpen whole within deepest back more rest
  passed_separator a back is next = go is.first is.others next is.count is.nested is.below
    where
      go : (c : Contents) (cs : List Contents) → Begins back (open_symbols cs more) rest c (a_separator a) → length cs ≡ within → max deepest (open_nesting (c ∷ cs)) ≡ whole
          → within ≤ deepest → IsOpen whole within deepest back more rest
      go _ cs (begins_separator {c = c} left) count nested below =
          record { first = c; others = cs; left = left; count = count; nested = nested; below = below }

  -- a link or a separator
  pub passed : (k : LentNext) → (k ≡ End → ⊥) → ((a t : Bor (List ℕ)) (n : Option (Bor (List ℕ))) → k ≡ Folder a t n → ⊥) → (back : List ℕ)
      → (is : IsOpen whole within deepest bytes more rest) → NextIs (next_seen k) back is → IsOpen whole within deepest back more rest
  passed End no_end no_folder back is next = absurd (no_end refl)
  passed (Link a t n) no_end no_folder back is next = passed_link (entry_seen a t n) back is next
  passed (Folder a t n) no_end no_folder back is next = absurd (no_folder a t n refl)
  passed (Separator a) no_end no_folder back is next = passed_separator a.now back is next
