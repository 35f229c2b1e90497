-- What a reader finds next in a folder, symbol by symbol.
use Rattle.std.proofs.Common.{◌≡◌, ℕ, Bool, true, false, List, [], ◌∷◌, ◌++◌, Option, Some, None, refl, sym, ap, ◌∙◌, subst}
use Rattle.std.specs.Prelude.{MatchOption}
use Rattle.std.specs.Borrow.{Bor}
use Rattle.std.proofs.lemmas.Bool.{true≢false}
use Rattle.hm_marks.specs.Contents.{nothing, link, folder, separator}
use Rattle.hm_marks_tokens.specs.declared.symbol.Symbol.{Symbol as LentSymbol}
use Rattle.hm_marks_tokens.specs.declared.symbol.Symbol.TheVariants.{ListEnd, Entry as EntryTag, Link, Heading, Note, Rule, Words}
use Rattle.hm_marks_tokens.specs.Symbols as symbols
use Rattle.hm_marks_tokens.specs.Symbols.{Symbol, words_of, is_titled_behind, IsNextSymbol, HasNoSymbol, HasSymbols}
use Rattle.hm_marks_tokens.specs.Grammar.{Entry, Contents, note_symbols}
use Rattle.hm_marks_tokens.specs.Lent.{symbol_seen}
use Rattle.hm_marks_tokens.proofs.NextSymbols.{symbol_once}
use Rattle.hm_marks_tokens.proofs.Unambiguous.{ended, link_parts, folder_parts}
use Rattle.hm_netscape_entries.specs.declared.next.Next.{Next as LentNext}
use Rattle.hm_netscape_entries.specs.Next.{an_end, a_link, a_folder, a_separator, next_seen, IsLeft, Begins, begins_end, begins_link, begins_folder, begins_separator, IsNoText, IsBehindNote}

-- ---- what isn't lent isn't seen

pub no_text : (k : LentSymbol) → ((x : Bor (List ℕ)) → k ≡ Words x → ⊥) → IsNoText (symbol_seen k)
no_text (Words x) isnt b e = isnt x refl
no_text k isnt b e = let bad : ⊥ = cc in bad

pub no_note : (k : LentSymbol) → (k ≡ Note → ⊥) → symbol_seen k ≡ symbols.note → ⊥
no_note Note isnt e = isnt refl
no_note k isnt e = let bad : ⊥ = cc in bad

pub no_end : (k : LentSymbol) → (k ≡ ListEnd → ⊥) → symbol_seen k ≡ symbols.list_end → ⊥
no_end ListEnd isnt e = isnt refl
no_end k isnt e = let bad : ⊥ = cc in bad

pub no_entry : (k : LentSymbol) → (k ≡ EntryTag → ⊥) → symbol_seen k ≡ symbols.entry → ⊥
no_entry EntryTag isnt e = isnt refl
no_entry k isnt e = let bad : ⊥ = cc in bad

pub no_rule : (k : LentSymbol) → ((x : Bor (List ℕ)) → k ≡ Rule x → ⊥) → (a : List ℕ) → symbol_seen k ≡ symbols.rule a → ⊥
no_rule (Rule x) isnt b e = isnt x refl
no_rule k isnt b e = let bad : ⊥ = cc in bad

pub no_link : (k : LentSymbol) → ((x : Bor (List ℕ)) → k ≡ Link x → ⊥) → (a : List ℕ) → symbol_seen k ≡ symbols.link a → ⊥
no_link (Link x) isnt b e = isnt x refl
no_link k isnt b e = let bad : ⊥ = cc in bad

pub no_heading : (k : LentSymbol) → ((x : Bor (List ℕ)) → k ≡ Heading x → ⊥) → (a : List ℕ) → symbol_seen k ≡ symbols.heading a → ⊥
no_heading (Heading x) isnt b e = isnt x refl
no_heading k isnt b e = let bad : ⊥ = cc in bad

-- ---- one symbol

-- bytes begin with a symbol, and then with others
pub record IsFound (titled : Bool) (k m : Symbol) (back : List ℕ) (ms : List Symbol) (rest : List ℕ) : Type 0 where
  pub same : k ≡ m
  pub has : HasSymbols (is_titled_behind titled m) back ms rest

pub found : (titled : Bool) (bytes : List ℕ) (k : Symbol) (back : List ℕ) → IsNextSymbol titled bytes k back → (m : Symbol) (ms : List Symbol) (rest : List ℕ)
    → HasSymbols titled bytes (m ∷ ms) rest → IsFound titled k m back ms rest
found titled bytes k back next m ms rest has =
    let one = symbol_once titled bytes k m back has.0 next has.1.0 in
    record { same = one.symbol; has = subst (λ b. HasSymbols (is_titled_behind titled m) b ms rest) (sym one.rest) has.1.1 }

pub not_none : (titled : Bool) (bytes : List ℕ) → HasNoSymbol titled bytes → (m : Symbol) (ms : List Symbol) (rest : List ℕ)
    → HasSymbols titled bytes (m ∷ ms) rest → ⊥
not_none titled bytes none m ms rest has = none m has.0 has.1.0

-- ---- a text

module _ (bytes : List ℕ) (m : Symbol) (more : List Symbol) (rest : List ℕ) (other : IsNoText m) where
  pub text_here : (v back : List ℕ) → IsNextSymbol false bytes (symbols.words v) back → (w : List ℕ) → HasSymbols false bytes (words_of w ++ m ∷ more) rest
      → (v ≡ w) × HasSymbols false back (m ∷ more) rest
  text_here v back next [] has = absurd (other v (sym (found false bytes (symbols.words v) back next m more rest has).same))
  text_here v back next (b ∷ w) has =
      let is = found false bytes (symbols.words v) back next (symbols.words (b ∷ w)) (m ∷ more) rest has in
      let e = is.same in (cc, is.has)

  pub text_absent : (k : Symbol) (back : List ℕ) → IsNextSymbol false bytes k back → IsNoText k → (w : List ℕ)
      → HasSymbols false bytes (words_of w ++ m ∷ more) rest → ([] ≡ w) × HasSymbols false bytes (m ∷ more) rest
  text_absent k back next isnt [] has = (refl, has)
  text_absent k back next isnt (b ∷ w) has = absurd (isnt (b ∷ w) (found false bytes k back next (symbols.words (b ∷ w)) (m ∷ more) rest has).same)

pub text_none : (titled : Bool) (bytes : List ℕ) (m : Symbol) (more : List Symbol) (rest : List ℕ) → HasNoSymbol titled bytes → (w : List ℕ)
    → HasSymbols titled bytes (words_of w ++ m ∷ more) rest → ⊥
text_none titled bytes m more rest none [] has = not_none titled bytes none m more rest has
text_none titled bytes m more rest none (b ∷ w) has = not_none titled bytes none (symbols.words (b ∷ w)) (m ∷ more) rest has

-- ---- a note

module _ (bytes : List ℕ) (m : Symbol) (more : List Symbol) (rest : List ℕ) (other : IsBehindNote m) where
  pub note_here : (back : List ℕ) → IsNextSymbol false bytes symbols.note back → (v end : List ℕ)
      → ((w : List ℕ) → HasSymbols false back (words_of w ++ m ∷ more) rest → (v ≡ w) × HasSymbols false end (m ∷ more) rest)
      → (note : Option (List ℕ)) → HasSymbols false bytes (note_symbols note ++ m ∷ more) rest → (Some v ≡ note) × HasSymbols false end (m ∷ more) rest
  note_here back next v end words None has = absurd (other.0 (sym (found false bytes symbols.note back next m more rest has).same))
  note_here back next v end words (Some w) has =
      let is = words w (found false bytes symbols.note back next symbols.note (words_of w ++ m ∷ more) rest has).has in (ap Some is.0, is.1)

  pub note_absent : (k : Symbol) (back : List ℕ) → IsNextSymbol false bytes k back → (k ≡ symbols.note → ⊥) → (note : Option (List ℕ))
      → HasSymbols false bytes (note_symbols note ++ m ∷ more) rest → (◌≡◌ {A = Option (List ℕ)} None note) × HasSymbols false bytes (m ∷ more) rest
  note_absent k back next isnt None has = (refl, has)
  note_absent k back next isnt (Some w) has = absurd (isnt (found false bytes k back next symbols.note (words_of w ++ m ∷ more) rest has).same)

  pub note_none : HasNoSymbol false bytes → (note : Option (List ℕ)) → HasSymbols false bytes (note_symbols note ++ m ∷ more) rest → ⊥
  note_none none None has = not_none false bytes none m more rest has
  note_none none (Some w) has = not_none false bytes none symbols.note (words_of w ++ m ∷ more) rest has

-- ---- a title

module _ (bytes : List ℕ) (m : Symbol) (more : List Symbol) (rest : List ℕ) (ends : is_titled_behind true m ≡ false) where
  title_symbol : (v back : List ℕ) → IsNextSymbol true bytes (symbols.words v) back → (t : List ℕ) → HasSymbols true bytes (words_of t ++ m ∷ more) rest
      → (v ≡ t) × HasSymbols true back (m ∷ more) rest
  title_symbol v back next [] has =
      let e = (found true bytes (symbols.words v) back next m more rest has).same in
      absurd (true≢false (ap (is_titled_behind true) e ∙ ends))
  title_symbol v back next (b ∷ t) has =
      let is = found true bytes (symbols.words v) back next (symbols.words (b ∷ t)) (m ∷ more) rest has in
      let e = is.same in (cc, is.has)

  pub title_here : (v back : List ℕ) → IsNextSymbol true bytes (symbols.words v) back → (k : Symbol) (end : List ℕ) → IsNextSymbol true back k end
      → (t : List ℕ) → HasSymbols true bytes (words_of t ++ m ∷ more) rest → (v ≡ t) × HasSymbols false end more rest
  title_here v back next k end last t has =
      let is = title_symbol v back next t has in
      (is.0, subst (λ b. HasSymbols b end more rest) ends (found true back k end last m more rest is.1).has)

  pub title_cut : (v back : List ℕ) → IsNextSymbol true bytes (symbols.words v) back → HasNoSymbol true back
      → (t : List ℕ) → HasSymbols true bytes (words_of t ++ m ∷ more) rest → ⊥
  title_cut v back next none t has = not_none true back none m more rest (title_symbol v back next t has).1

  pub title_absent : (k : Symbol) (back : List ℕ) → IsNextSymbol true bytes k back → IsNoText k
      → (t : List ℕ) → HasSymbols true bytes (words_of t ++ m ∷ more) rest → ([] ≡ t) × HasSymbols false back more rest
  title_absent k back next isnt [] has =
      (refl, subst (λ b. HasSymbols b back more rest) ends (found true bytes k back next m more rest has).has)
  title_absent k back next isnt (b ∷ t) has = absurd (isnt (b ∷ t) (found true bytes k back next (symbols.words (b ∷ t)) (m ∷ more) rest has).same)

-- ---- an entry

-- the symbols of an entry behind `<DT>`, and of what is left behind it
abbrev link_tail : Entry → Contents → List Symbol → List Symbol
link_tail e c more = symbols.link e.attributes ∷ (words_of e.title ++ symbols.link_end ∷ (note_symbols e.note ++ ended c more))

abbrev folder_tail : Entry → Contents → Contents → List Symbol → List Symbol
folder_tail e inside c more =
    symbols.heading e.attributes ∷ (words_of e.title ++ symbols.heading_end ∷ (note_symbols e.note ++ symbols.list ∷ ended inside (ended c more)))

pub list_clear : IsBehindNote symbols.list
list_clear = (λ e. let bad : ⊥ = cc in bad, λ b e. let bad : ⊥ = cc in bad)

-- what is left of a folder begins with a symbol that may stand behind a note
record BeginsClear (ms : List Symbol) : Type 0 where
  first : Symbol
  others : List Symbol
  are : ms ≡ first ∷ others
  clear : IsBehindNote first

clear_ended : (c : Contents) (more : List Symbol) → BeginsClear (ended c more)
clear_ended nothing more =
    record { first = symbols.list_end; others = more; are = refl; clear = (λ e. let bad : ⊥ = cc in bad, λ b e. let bad : ⊥ = cc in bad) }
clear_ended (link e c) more =
    record { first = symbols.entry; others = link_tail e c more; are = link_parts e c more; clear = (λ e. let bad : ⊥ = cc in bad, λ b e. let bad : ⊥ = cc in bad) }
clear_ended (folder e inside c) more =
    record { first = symbols.entry; others = folder_tail e inside c more; are = folder_parts e inside c more; clear = (λ e. let bad : ⊥ = cc in bad, λ b e. let bad : ⊥ = cc in bad) }
clear_ended (separator a c) more =
    record { first = symbols.rule a; others = ended c more; are = refl; clear = (λ e. let bad : ⊥ = cc in bad, λ b e. let bad : ⊥ = cc in bad) }

-- what is found behind `<DT>`, with what stands behind it
abbrev Result : Type 0
Result = Option (LentNext × Bor (List ℕ))

-- the link is found
abbrev pub FindsLink : List ℕ → List ℕ → Result → Type 0
FindsLink attributes bytes result =
    (title : List ℕ) (note : Option (List ℕ)) (m : Symbol) (more : List Symbol) (rest : List ℕ) → IsBehindNote m
    → HasSymbols true bytes (words_of title ++ symbols.link_end ∷ (note_symbols note ++ m ∷ more)) rest
    → MatchOption result ⊥ (λ f. (next_seen f.0 ≡ a_link (record { attributes = attributes; title = title; note = note })) × HasSymbols false f.1.now (m ∷ more) rest)

-- and so is the folder
abbrev pub FindsFolder : List ℕ → List ℕ → Result → Type 0
FindsFolder attributes bytes result =
    (title : List ℕ) (note : Option (List ℕ)) (more : List Symbol) (rest : List ℕ)
    → HasSymbols true bytes (words_of title ++ symbols.heading_end ∷ (note_symbols note ++ symbols.list ∷ more)) rest
    → MatchOption result ⊥ (λ f. (next_seen f.0 ≡ a_folder (record { attributes = attributes; title = title; note = note })) × HasSymbols false f.1.now more rest)

weaker : (r : Result) (P Q : LentNext × Bor (List ℕ) → Type 0) → ((f : LentNext × Bor (List ℕ)) → P f → Q f) → MatchOption r ⊥ P → MatchOption r ⊥ Q
weaker None P Q imply h = h
weaker (Some f) P Q imply h = imply f h

-- the symbols behind `<DT>`
module _ (bytes : List ℕ) (k : Symbol) (back : List ℕ) (next : IsNextSymbol false bytes k back) (more ms : List Symbol) (rest : List ℕ)
    (has : HasSymbols false bytes ms rest) where
  behind_entry : (m : Symbol) (others : List Symbol) → ms ≡ m ∷ others → IsFound false k m back others rest
  behind_entry m others e = found false bytes k back next m others rest (subst (λ l. HasSymbols false bytes l rest) e has)

  begun_link : (e : Entry) (c : Contents) → ended (link e c) more ≡ symbols.entry ∷ ms
      → IsFound false k (symbols.link e.attributes) back (words_of e.title ++ symbols.link_end ∷ (note_symbols e.note ++ ended c more)) rest
  begun_link e c is =
      let whole : symbols.entry ∷ ms ≡ symbols.entry ∷ link_tail e c more = sym is ∙ link_parts e c more in
      behind_entry (symbols.link e.attributes) (words_of e.title ++ symbols.link_end ∷ (note_symbols e.note ++ ended c more)) cc

  begun_folder : (e : Entry) (inside c : Contents) → ended (folder e inside c) more ≡ symbols.entry ∷ ms
      → IsFound false k (symbols.heading e.attributes) back (words_of e.title ++ symbols.heading_end ∷ (note_symbols e.note ++ symbols.list ∷ ended inside (ended c more))) rest
  begun_folder e inside c is =
      let whole : symbols.entry ∷ ms ≡ symbols.entry ∷ folder_tail e inside c more = sym is ∙ folder_parts e inside c more in
      behind_entry (symbols.heading e.attributes) (words_of e.title ++ symbols.heading_end ∷ (note_symbols e.note ++ symbols.list ∷ ended inside (ended c more))) cc

module _ (bytes back : List ℕ) (more ms : List Symbol) (rest : List ℕ) (has : HasSymbols false bytes ms rest) where
  pub link_begins : (a : List ℕ) (r : Result) → IsNextSymbol false bytes (symbols.link a) back → FindsLink a back r
      → (c : Contents) → ended c more ≡ symbols.entry ∷ ms → MatchOption r ⊥ (λ f. Begins f.1.now more rest c (next_seen f.0))
  link_begins a r next finds nothing e = let bad : ⊥ = cc in absurd bad
  link_begins a r next finds (separator b c) e = let bad : ⊥ = cc in absurd bad
  link_begins a r next finds (folder d inside c) e =
      let is = (begun_folder bytes (symbols.link a) back next more ms rest has d inside c e).same in let bad : ⊥ = cc in absurd bad
  link_begins a r next finds (link d c) e =
      let is = begun_link bytes (symbols.link a) back next more ms rest has d c e in
      let attributes : a ≡ d.attributes = let same = is.same in cc in
      let clear = clear_ended c more in
      let symbols_are = subst (λ l. HasSymbols true back (words_of d.title ++ symbols.link_end ∷ (note_symbols d.note ++ l)) rest) clear.are is.has in
      weaker r _ _ (λ f h.
      subst (λ n. Begins f.1.now more rest (link d c) n) (sym (h.0 ∙ (λ i. a_link (record { attributes = attributes i; title = d.title; note = d.note }))))
      (begins_link (subst (λ l. HasSymbols false f.1.now l rest) (sym clear.are) h.1)))
      (finds d.title d.note clear.first clear.others rest clear.clear symbols_are)

  pub folder_begins : (a : List ℕ) (r : Result) → IsNextSymbol false bytes (symbols.heading a) back → FindsFolder a back r
      → (c : Contents) → ended c more ≡ symbols.entry ∷ ms → MatchOption r ⊥ (λ f. Begins f.1.now more rest c (next_seen f.0))
  folder_begins a r next finds nothing e = let bad : ⊥ = cc in absurd bad
  folder_begins a r next finds (separator b c) e = let bad : ⊥ = cc in absurd bad
  folder_begins a r next finds (link d c) e =
      let is = (begun_link bytes (symbols.heading a) back next more ms rest has d c e).same in let bad : ⊥ = cc in absurd bad
  folder_begins a r next finds (folder d inside c) e =
      let is = begun_folder bytes (symbols.heading a) back next more ms rest has d inside c e in
      let attributes : a ≡ d.attributes = let same = is.same in cc in
      weaker r _ _ (λ f h.
      subst (λ n. Begins f.1.now more rest (folder d inside c) n) (sym (h.0 ∙ (λ i. a_folder (record { attributes = attributes i; title = d.title; note = d.note }))))
      (begins_folder h.1))
      (finds d.title d.note (ended inside (ended c more)) rest is.has)

  pub no_tag : (k : Symbol) → IsNextSymbol false bytes k back → ((a : List ℕ) → k ≡ symbols.link a → ⊥) → ((a : List ℕ) → k ≡ symbols.heading a → ⊥)
      → (c : Contents) → ended c more ≡ symbols.entry ∷ ms → ⊥
  no_tag k next not_link not_heading nothing e = let bad : ⊥ = cc in bad
  no_tag k next not_link not_heading (separator b c) e = let bad : ⊥ = cc in bad
  no_tag k next not_link not_heading (link d c) e = not_link d.attributes (begun_link bytes k back next more ms rest has d c e).same
  no_tag k next not_link not_heading (folder d inside c) e = not_heading d.attributes (begun_folder bytes k back next more ms rest has d inside c e).same

pub begun_none : (bytes : List ℕ) (more ms : List Symbol) (rest : List ℕ) → HasSymbols false bytes ms rest → HasNoSymbol false bytes
    → (c : Contents) → ended c more ≡ symbols.entry ∷ ms → ⊥
begun_none bytes more ms rest has none nothing e = let bad : ⊥ = cc in bad
begun_none bytes more ms rest has none (separator b c) e = let bad : ⊥ = cc in bad
begun_none bytes more ms rest has none (link d c) e =
    let whole : symbols.entry ∷ ms ≡ symbols.entry ∷ link_tail d c more = sym e ∙ link_parts d c more in
    let are : ms ≡ link_tail d c more = cc in
    none (symbols.link d.attributes) (subst (λ l. HasSymbols false bytes l rest) are has).0 (subst (λ l. HasSymbols false bytes l rest) are has).1.0
begun_none bytes more ms rest has none (folder d inside c) e =
    let whole : symbols.entry ∷ ms ≡ symbols.entry ∷ folder_tail d inside c more = sym e ∙ folder_parts d inside c more in
    let are : ms ≡ folder_tail d inside c more = cc in
    none (symbols.heading d.attributes) (subst (λ l. HasSymbols false bytes l rest) are has).0 (subst (λ l. HasSymbols false bytes l rest) are has).1.0

-- ---- what stands next

link_left : (bytes : List ℕ) (e : Entry) (c : Contents) (more : List Symbol) (rest : List ℕ) → IsLeft bytes (link e c) more rest
    → HasSymbols false bytes (symbols.entry ∷ link_tail e c more) rest
link_left bytes e c more rest left = subst (λ ms. HasSymbols false bytes ms rest) (link_parts e c more) left

folder_left : (bytes : List ℕ) (e : Entry) (inside c : Contents) (more : List Symbol) (rest : List ℕ) → IsLeft bytes (folder e inside c) more rest
    → HasSymbols false bytes (symbols.entry ∷ folder_tail e inside c more) rest
folder_left bytes e inside c more rest left = subst (λ ms. HasSymbols false bytes ms rest) (folder_parts e inside c more) left

module _ (bytes back : List ℕ) (more : List Symbol) (rest : List ℕ) where
  pub end_begins : IsNextSymbol false bytes symbols.list_end back → (c : Contents) → IsLeft bytes c more rest → Begins back more rest c an_end
  end_begins next nothing left = begins_end (found false bytes symbols.list_end back next symbols.list_end more rest left).has
  end_begins next (separator a c) left =
      let is = (found false bytes symbols.list_end back next (symbols.rule a) (ended c more) rest left).same in let bad : ⊥ = cc in absurd bad
  end_begins next (link e c) left =
      let is = (found false bytes symbols.list_end back next symbols.entry (link_tail e c more) rest (link_left bytes e c more rest left)).same in let bad : ⊥ = cc in absurd bad
  end_begins next (folder e inside c) left =
      let is = (found false bytes symbols.list_end back next symbols.entry (folder_tail e inside c more) rest (folder_left bytes e inside c more rest left)).same in let bad : ⊥ = cc in absurd bad

  pub separator_begins : (a : List ℕ) → IsNextSymbol false bytes (symbols.rule a) back → (c : Contents) → IsLeft bytes c more rest
      → Begins back more rest c (a_separator a)
  separator_begins a next nothing left =
      let is = (found false bytes (symbols.rule a) back next symbols.list_end more rest left).same in let bad : ⊥ = cc in absurd bad
  separator_begins a next (separator b c) left =
      let is = found false bytes (symbols.rule a) back next (symbols.rule b) (ended c more) rest left in
      let same : b ≡ a = let e = is.same in cc in
      subst (λ n. Begins back more rest (separator b c) (a_separator n)) same (begins_separator is.has)
  separator_begins a next (link e c) left =
      let is = (found false bytes (symbols.rule a) back next symbols.entry (link_tail e c more) rest (link_left bytes e c more rest left)).same in let bad : ⊥ = cc in absurd bad
  separator_begins a next (folder e inside c) left =
      let is = (found false bytes (symbols.rule a) back next symbols.entry (folder_tail e inside c more) rest (folder_left bytes e inside c more rest left)).same in let bad : ⊥ = cc in absurd bad

  -- the symbols behind `<DT>`
  pub entry_begins : IsNextSymbol false bytes symbols.entry back → (c : Contents) → IsLeft bytes c more rest
      → (ms : List Symbol) × ((ended c more ≡ symbols.entry ∷ ms) × HasSymbols false back ms rest)
  entry_begins next nothing left =
      let is = (found false bytes symbols.entry back next symbols.list_end more rest left).same in let bad : ⊥ = cc in absurd bad
  entry_begins next (separator a c) left =
      let is = (found false bytes symbols.entry back next (symbols.rule a) (ended c more) rest left).same in let bad : ⊥ = cc in absurd bad
  entry_begins next (link e c) left = (link_tail e c more, (link_parts e c more, (found false bytes symbols.entry back next symbols.entry (link_tail e c more) rest (link_left bytes e c more rest left)).has))
  entry_begins next (folder e inside c) left = (folder_tail e inside c more, (folder_parts e inside c more, (found false bytes symbols.entry back next symbols.entry (folder_tail e inside c more) rest (folder_left bytes e inside c more rest left)).has))

  pub no_other : (k : Symbol) → IsNextSymbol false bytes k back → (k ≡ symbols.list_end → ⊥) → ((a : List ℕ) → k ≡ symbols.rule a → ⊥)
      → (k ≡ symbols.entry → ⊥) → (c : Contents) → IsLeft bytes c more rest → ⊥
  no_other k next not_end not_rule not_entry nothing left = not_end (found false bytes k back next symbols.list_end more rest left).same
  no_other k next not_end not_rule not_entry (separator a c) left = not_rule a (found false bytes k back next (symbols.rule a) (ended c more) rest left).same
  no_other k next not_end not_rule not_entry (link e c) left = not_entry (found false bytes k back next symbols.entry (link_tail e c more) rest (link_left bytes e c more rest left)).same
  no_other k next not_end not_rule not_entry (folder e inside c) left = not_entry (found false bytes k back next symbols.entry (folder_tail e inside c more) rest (folder_left bytes e inside c more rest left)).same

pub left_none : (bytes : List ℕ) (more : List Symbol) (rest : List ℕ) → HasNoSymbol false bytes → (c : Contents) → IsLeft bytes c more rest → ⊥
left_none bytes more rest none nothing left = not_none false bytes none symbols.list_end more rest left
left_none bytes more rest none (separator a c) left = not_none false bytes none (symbols.rule a) (ended c more) rest left
left_none bytes more rest none (link e c) left = not_none false bytes none symbols.entry (link_tail e c more) rest (link_left bytes e c more rest left)
left_none bytes more rest none (folder e inside c) left = not_none false bytes none symbols.entry (folder_tail e inside c more) rest (folder_left bytes e inside c more rest left)
