-- What is read of bytes, symbol by symbol, is known: they have at most one folder, or one first symbol that doesn't fit.
use Rattle.std.proofs.Common.{◌≡◌, inl, inr, ℕ, ◌+◌, List, [], ◌∷◌, length, Some, refl, sym, ap, ◌∙◌, subst}
use Rattle.std.proofs.lemmas.Option.{same_Some, none-some}
use Rattle.hm_marks_tokens.specs.Symbols.{Symbol, IsNextSymbol}
use Rattle.hm_marks_tokens.specs.Reading.{Place, State, over, in_title, step_at, step, start, IsFolder, IsStuck, IsMisfit}
use Rattle.hm_marks_tokens.proofs.NextSymbols.{symbol_once}
use Rattle.hm_marks_tokens.proofs.Steps.{IsReading, reads_on}

-- no symbol stands next that fits
abbrev Stops : State → List ℕ → Type 0
Stops s bytes = (m : Symbol) (more : List ℕ) (u : State) → IsNextSymbol (in_title s.place) bytes m more → step s m ≡ Some u → ⊥

stops_over : (s : State) (bytes : List ℕ) → s.place ≡ over → Stops s bytes
stops_over s bytes is m more u next fits = none-some u (sym (ap (λ (p : Place). step_at s.lists p m) is) ∙ fits)

stops_stuck : (s : State) (bytes : List ℕ) → IsStuck s bytes → Stops s bytes
stops_stuck s bytes (inl none) m more u next fits = none m more next
stops_stuck s bytes (inr other) m more u next fits =
    let same = symbol_once (in_title s.place) bytes other.0 m other.1 more other.2.0 next in
    none-some u (sym other.2.1 ∙ ap (λ (k : Symbol). step s k) same.symbol ∙ fits)

-- two readings of bytes end alike
pub record AreAlike (t u : State) (r q : List ℕ) (ms ns : List Symbol) : Type 0 where
  pub state : t ≡ u
  pub rest : r ≡ q
  pub symbols : ms ≡ ns

-- one that ends where another goes on could go on too
goes_no_further : (s : State) (bytes : List ℕ) (n : Symbol) (ns : List Symbol) (t u : State) (r q : List ℕ) → IsReading s bytes [] t r
    → IsReading s bytes (n ∷ ns) u q → Stops t r → ⊥
goes_no_further s bytes n ns t u r q one other stops =
    stops n other.has.0 other.runs.0
    (subst (λ (b : List ℕ). IsNextSymbol (in_title t.place) b n other.has.0) one.has
    (subst (λ (k : State). IsNextSymbol (in_title k.place) bytes n other.has.0) one.runs other.has.1.0))
    (ap (λ (k : State). step k n) (sym one.runs) ∙ other.runs.1.0)

read_once : (s : State) (bytes : List ℕ) (ms ns : List Symbol) (t u : State) (r q : List ℕ) → IsReading s bytes ms t r → IsReading s bytes ns u q
    → Stops t r → Stops u q → AreAlike t u r q ms ns
read_once s bytes [] [] t u r q one other stops ends = record { state = sym one.runs ∙ other.runs; rest = sym one.has ∙ other.has; symbols = refl }
read_once s bytes [] (n ∷ ns) t u r q one other stops ends = absurd (goes_no_further s bytes n ns t u r q one other stops)
read_once s bytes (m ∷ ms) [] t u r q one other stops ends = absurd (goes_no_further s bytes m ms u t q r other one ends)
read_once s bytes (m ∷ ms) (n ∷ ns) t u r q one other stops ends =
    let same = symbol_once (in_title s.place) bytes m n one.has.0 other.has.0 one.has.1.0 other.has.1.0 in
    let state : other.runs.0 ≡ one.runs.0 =
    same_Some other.runs.0 one.runs.0 (sym other.runs.1.0 ∙ ap (λ (k : Symbol). step s k) (sym same.symbol) ∙ one.runs.1.0) in
    let moved =
    subst (λ (b : List ℕ). IsReading one.runs.0 b ns u q) (sym same.rest)
    (subst (λ (k : State). IsReading k other.has.0 ns u q) state (reads_on s bytes n ns u q other)) in
    let alike = read_once one.runs.0 one.has.0 ms ns t u r q (reads_on s bytes m ms t r one) moved stops ends in
    record { state = alike.state; rest = alike.rest; symbols = λ i. same.symbol i ∷ alike.symbols i }

-- a folder and what doesn't fit, as they are read from the beginning
folder_read : (bytes r : List ℕ) (is : IsFolder bytes r) → IsReading start bytes is.symbols is.state r
folder_read bytes r is = record { has = is.has; runs = is.runs }

misfit_read : (bytes : List ℕ) (n : ℕ) (is : IsMisfit bytes n) → IsReading start bytes is.symbols is.state is.rest
misfit_read bytes n is = record { has = is.has; runs = is.runs }

pub one_folder : (bytes r s : List ℕ) (one : IsFolder bytes r) (other : IsFolder bytes s) → one.symbols ≡ other.symbols
one_folder bytes r s one other =
    (read_once start bytes one.symbols other.symbols one.state other.state r s (folder_read bytes r one) (folder_read bytes s other)
    (stops_over one.state r one.ends) (stops_over other.state s other.ends)).symbols

pub one_rest : (bytes r s : List ℕ) → IsFolder bytes r → IsFolder bytes s → r ≡ s
one_rest bytes r s one other =
    (read_once start bytes one.symbols other.symbols one.state other.state r s (folder_read bytes r one) (folder_read bytes s other)
    (stops_over one.state r one.ends) (stops_over other.state s other.ends)).rest

pub no_misfit : (bytes r : List ℕ) (n : ℕ) → IsFolder bytes r → IsMisfit bytes n → ⊥
no_misfit bytes r n folder misfit =
    let alike =
    read_once start bytes folder.symbols misfit.symbols folder.state misfit.state r misfit.rest (folder_read bytes r folder) (misfit_read bytes n misfit)
    (stops_over folder.state r folder.ends) (stops_stuck misfit.state misfit.rest misfit.stuck) in
    misfit.goes_on (ap (λ (k : State). k.place) (sym alike.state) ∙ folder.ends)

pub one_number : (bytes : List ℕ) (m n : ℕ) → IsMisfit bytes m → IsMisfit bytes n → m ≡ n
one_number bytes m n one other =
    let alike =
    read_once start bytes one.symbols other.symbols one.state other.state one.rest other.rest (misfit_read bytes m one) (misfit_read bytes n other)
    (stops_stuck one.state one.rest one.stuck) (stops_stuck other.state other.rest other.stuck) in
    one.number_is ∙ ap (λ (l : List Symbol). length l + 1) alike.symbols ∙ sym other.number_is
