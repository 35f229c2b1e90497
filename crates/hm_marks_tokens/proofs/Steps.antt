-- One symbol more that is read.
use Rattle.std.proofs.Common.{◌≡◌, ℕ, ◌+◌, length, Bool, false, List, [], ◌∷◌, ◌++◌, Some, refl, sym, ap, ◌∙◌, subst}
use Rattle.std.proofs.lemmas.List.{length-append}
use Rattle.hm_marks_tokens.specs.Symbols.{Symbol, IsNextSymbol, HasSymbols}
use Rattle.hm_marks_tokens.specs.Reading.{State, over, in_title, step, Runs, start, HasFolder}
use Rattle.hm_marks_tokens.proofs.Titles.{titled_behind}

-- bytes begin with so many symbols that fit, which lead to a state, and this rest stands behind them
pub record HasRead (bytes : List ℕ) (number : ℕ) (state : State) (rest : List ℕ) : Type 0 where
  pub symbols : List Symbol
  pub has : HasSymbols false bytes symbols rest
  pub runs : Runs start symbols state
  pub number_is : number ≡ length symbols

-- a reader in one state reads bytes up to another
pub record IsReading (s : State) (bytes : List ℕ) (ms : List Symbol) (t : State) (rest : List ℕ) : Type 0 where
  pub has : HasSymbols (in_title s.place) bytes ms rest
  pub runs : Runs s ms t

-- it goes on so behind the first symbol
pub reads_on : (s : State) (bytes : List ℕ) (m : Symbol) (ms : List Symbol) (t : State) (rest : List ℕ) (is : IsReading s bytes (m ∷ ms) t rest)
    → IsReading is.runs.0 is.has.0 ms t rest
reads_on s bytes m ms t rest is =
    record { has = subst (λ (b : Bool). HasSymbols b is.has.0 ms rest) (titled_behind s m is.runs.0 is.runs.1.0) is.has.1.1; runs = is.runs.1.1 }

reads_more : (s : State) (bytes : List ℕ) (ms : List Symbol) (t : State) (rest : List ℕ) (m : Symbol) (more : List ℕ) (u : State)
    → IsReading s bytes ms t rest → IsNextSymbol (in_title t.place) rest m more → step t m ≡ Some u
    → IsReading s bytes (ms ++ m ∷ []) u more
reads_more s bytes [] t rest m more u is next fits =
    record {
      has = (
        more,
        (
          subst (λ (b : List ℕ). IsNextSymbol (in_title s.place) b m more) (sym is.has)
              (subst (λ (k : State). IsNextSymbol (in_title k.place) rest m more) (sym is.runs) next),
          refl,
        ),
      );
      runs = (u, (ap (λ (k : State). step k m) is.runs ∙ fits, refl));
    }
reads_more s bytes (k ∷ ks) t rest m more u is next fits =
    let on = reads_more is.runs.0 is.has.0 ks t rest m more u (reads_on s bytes k ks t rest is) next fits in
    record {
      has = (
        is.has.0,
        (is.has.1.0, subst (λ (b : Bool). HasSymbols b is.has.0 (ks ++ m ∷ []) more) (sym (titled_behind s k is.runs.0 is.runs.1.0)) on.has),
      );
      runs = (is.runs.0, (is.runs.1.0, on.runs));
    }

pub has_more : (bytes : List ℕ) (number : ℕ) (t : State) (rest : List ℕ) → HasRead bytes number t rest → (m : Symbol) (more : List ℕ)
    → IsNextSymbol (in_title t.place) rest m more → (u : State) → step t m ≡ Some u → HasRead bytes (number + 1) u more
has_more bytes number t rest read m more next u fits =
    let is = reads_more start bytes read.symbols t rest m more u (record { has = read.has; runs = read.runs }) next fits in
    record {
      symbols = read.symbols ++ m ∷ [];
      has = is.has;
      runs = is.runs;
      number_is = ap (λ n. n + 1) read.number_is ∙ sym (length-append read.symbols (m ∷ []));
    }

pub has_folder : (bytes : List ℕ) (number : ℕ) (t : State) (rest : List ℕ) → HasRead bytes number t rest → t.place ≡ over → HasFolder bytes rest number
has_folder bytes number t rest read ends =
    record { folder = record { symbols = read.symbols; state = t; has = read.has; runs = read.runs; ends = ends }; count_is = read.number_is }
