-- What may stand next in a folder, a symbol after the other, and where it leads.
use Rattle.std.specs.Prelude.{◌≡◌, ◌⊎◌, ℕ, zero, suc, ◌+◌, Bool, true, false, cond, List, [], ◌∷◌, length, Option, Some, None}
use Rattle.hm_marks_tokens.specs.Attributes.{are_attributes, are_of_link}
use Rattle.hm_marks_tokens.specs.Symbols.{Symbol, list, list_end, entry, link, link_end, heading, heading_end, note, rule, words, IsNextSymbol, HasNoSymbol, HasSymbols}

-- where a reader stands: what it has read of the entry that it is in, with the bytes of its attributes, its title and its note
pub data Place : Type 0 where
  before : Place  -- before the outermost list
  inside : Place  -- an entry may begin, or the list may end
  begun : Place  -- behind `<DT>`
  linking : (attributes title : List ℕ) → Place  -- behind an `<A>`, and behind its text where there is one
  linked : (attributes title : List ℕ) → Place  -- behind an `</A>`
  noting : (attributes title : List ℕ) → Place  -- behind the `<DD>` of a link
  titling : (attributes title : List ℕ) → Place  -- behind an `<H3>`, and behind its text where there is one
  titled : (attributes title : List ℕ) → Place  -- behind an `</H3>`
  telling : (attributes title : List ℕ) → Place  -- behind the `<DD>` of a folder
  told : (attributes title note : List ℕ) → Place  -- behind the text of such a note
  over : Place  -- behind the end of the outermost list

-- a reader: within how many lists it stands, and where
pub record State : Type 0 where
  pub lists : ℕ
  pub place : Place

-- a reader within so many lists, at a place
abbrev pub at : ℕ → Place → Option State
at n p = Some (record { lists = n; place = p })

-- what stands next is within an A or H3
abbrev pub in_title : Place → Bool
in_title before = false
in_title inside = false
in_title begun = false
in_title (linking a t) = true
in_title (linked a t) = false
in_title (noting a t) = false
in_title (titling a t) = true
in_title (titled a t) = false
in_title (telling a t) = false
in_title (told a t b) = false
in_title over = false

-- behind the end of a list, where so many have begun and not ended before it
abbrev pub closed : ℕ → Option State
closed zero = None
closed (suc zero) = at 0 over
closed (suc (suc n)) = at (suc n) inside

-- behind a text that isn't empty, where none was read before it; none else
abbrev pub first_words : List ℕ → List ℕ → Option State → Option State
first_words [] [] s = None
first_words [] (b ∷ bytes) s = s
first_words (c ∷ title) bytes s = None

-- where an entry may begin, or the list may end
abbrev pub in_list : ℕ → Symbol → Option State
in_list n entry = at n begun
in_list n (rule a) = cond (are_attributes a) (at n inside) None
in_list n list_end = closed n
in_list n m = None

-- where a list must begin
abbrev pub at_start : ℕ → Symbol → Option State
at_start n list = at (suc n) inside
at_start n m = None

-- behind `<DT>`
abbrev pub behind_entry : ℕ → Symbol → Option State
behind_entry n (link a) = cond (are_of_link a) (at n (linking a [])) None
behind_entry n (heading a) = cond (are_attributes a) (at n (titling a [])) None
behind_entry n m = None

-- behind an `<A>`
abbrev pub in_link : ℕ → List ℕ → List ℕ → Symbol → Option State
in_link n a t (words bytes) = first_words t bytes (at n (linking a bytes))
in_link n a t link_end = at n (linked a t)
in_link n a t m = None

-- behind an `</A>`
abbrev pub behind_link : ℕ → List ℕ → List ℕ → Symbol → Option State
behind_link n a t note = at n (noting a t)
behind_link n a t m = in_list n m

-- behind the `<DD>` of a link
abbrev pub in_link_note : ℕ → Symbol → Option State
in_link_note n (words bytes) = first_words [] bytes (at n inside)
in_link_note n m = in_list n m

-- behind an `<H3>`
abbrev pub in_heading : ℕ → List ℕ → List ℕ → Symbol → Option State
in_heading n a t (words bytes) = first_words t bytes (at n (titling a bytes))
in_heading n a t heading_end = at n (titled a t)
in_heading n a t m = None

-- behind an `</H3>`
abbrev pub behind_heading : ℕ → List ℕ → List ℕ → Symbol → Option State
behind_heading n a t note = at n (telling a t)
behind_heading n a t m = at_start n m

-- behind the `<DD>` of a folder
abbrev pub in_heading_note : ℕ → List ℕ → List ℕ → Symbol → Option State
in_heading_note n a t (words bytes) = first_words [] bytes (at n (told a t bytes))
in_heading_note n a t m = at_start n m

-- behind a symbol, where a reader stands at a place within so many lists; none where the symbol doesn't fit there
abbrev pub step_at : ℕ → Place → Symbol → Option State
step_at n before m = at_start n m
step_at n inside m = in_list n m
step_at n begun m = behind_entry n m
step_at n (linking a t) m = in_link n a t m
step_at n (linked a t) m = behind_link n a t m
step_at n (noting a t) m = in_link_note n m
step_at n (titling a t) m = in_heading n a t m
step_at n (titled a t) m = behind_heading n a t m
step_at n (telling a t) m = in_heading_note n a t m
step_at n (told a t b) m = at_start n m
step_at n over m = None

-- the same of a reader
abbrev pub step : State → Symbol → Option State
step s m = step_at s.lists s.place m

-- these symbols lead a reader from one state to another
abbrev pub Runs : State → List Symbol → State → Type 0
Runs s [] t = s ≡ t
Runs s (m ∷ ms) t = (u : State) × ((step s m ≡ Some u) × Runs u ms t)

-- a reader that has read nothing
abbrev pub start : State
start = record { lists = 0; place = before }

-- bytes begin with the symbols of an outermost folder, and this rest stands behind the last of them
pub record IsFolder (bytes rest : List ℕ) : Type 0 where
  pub symbols : List Symbol
  pub state : State
  pub has : HasSymbols false bytes symbols rest
  pub runs : Runs start symbols state
  pub ends : state.place ≡ over

-- and these symbols are so many
pub record HasFolder (bytes rest : List ℕ) (count : ℕ) : Type 0 where
  pub folder : IsFolder bytes rest
  pub count_is : count ≡ length folder.symbols

-- no symbol stands next, or one that doesn't fit
abbrev pub IsStuck : State → List ℕ → Type 0
IsStuck s bytes = HasNoSymbol (in_title s.place) bytes ⊎ ((m : Symbol) × (more : List ℕ) × (IsNextSymbol (in_title s.place) bytes m more × (step s m ≡ None)))

-- the symbol of this number, from 1 on, is the first that doesn't fit; at the end of the symbols, the number behind the last
pub record IsMisfit (bytes : List ℕ) (number : ℕ) : Type 0 where
  pub symbols : List Symbol
  pub state : State
  pub rest : List ℕ
  pub has : HasSymbols false bytes symbols rest
  pub runs : Runs start symbols state
  pub goes_on : state.place ≡ over → ⊥
  pub stuck : IsStuck state rest
  pub number_is : number ≡ length symbols + 1
