-- What a parse answers, against what the words say.
use Rattle.std.proofs.Common.{◌≡◌, ◌∙◌, inl, inr, ◌≢◌, true, refl, sym, ap, ap₂, subst, List, [], Option, Some, None}
use Rattle.clap.specs.Walk.{Row, Text}
use Rattle.clap.specs.Values.{kind_of}
use Rattle.clap.specs.Kinds.{HasKind, IsAmong, Kinds}
use Rattle.clap.specs.Simple.{App, is_simple, matches_of}
use Rattle.clap.specs.Faults.{fault_of, is_simple_and_free}
use Rattle.clap.specs.declared.error.Error.{Error}
use Rattle.clap.specs.declared.error.kind.ErrorKind.TheVariants.{OutOfMemory}
use Rattle.hm_command_line.specs.Words.{LineValue, line_of}
use Rattle.hm_command_line.specs.Parse.{AreUtf8, Says, command}
use Rattle.hm_command_line.proofs.Rules.{is_plain}
use Rattle.hm_command_line.proofs.Turns.{IsWrong}
use Rattle.hm_command_line.proofs.Parsing.{Parses, parses_so}

simple : is_simple command ≡ true
simple = refl

module _ (ws : List Text) (utf8 : AreUtf8 ws) where
  right_line : (said : Option LineValue) → Parses ws said → fault_of command ws ≡ [] → (rows : List Row) → rows ≡ matches_of command ws
      → (line : LineValue) → ((l : LineValue) → Says l rows → line ≡ l) → Some line ≡ said
  right_line None p none rows are line is = absurd (subst IsWrong none p)
  right_line (Some l) p none rows are line is = ap Some (is l (subst (Says l) (sym are) p.says))

  no_line : (said : Option LineValue) → Parses ws said → (e : Error) → HasKind (fault_of command ws) e → kind_of e ≢ OutOfMemory → None ≡ said
  no_line None p e h other = refl
  no_line (Some l) p e (inl memory) other = absurd (other memory)
  no_line (Some l) p e (inr among) other = absurd (subst (IsAmong (kind_of e)) p.right among)

  module _ (app : App) (taken : List Text) (is : app ≡ command) (are : taken ≡ ws) where
    faults : fault_of app taken ≡ fault_of command ws
    faults = ap₂ fault_of is are

    free : is_simple_and_free app ≡ true
    free = ap is_simple_and_free is ∙ is_plain

    pub accepted : (is_simple_and_free app ≡ true → fault_of app taken ≡ []) → (rows : List Row) {X : Type 0} → (is_simple app ≡ true → (rows ≡ matches_of app taken) × X)
        → (line : LineValue) → ((l : LineValue) → Says l rows → line ≡ l) → Some line ≡ line_of ws
    accepted kinds rows matches line so =
        right_line (line_of ws) (parses_so ws utf8) (sym faults ∙ kinds free) rows ((matches (ap is_simple is ∙ simple)).0 ∙ ap₂ matches_of is are) line so

    pub refused : (e : Error) → (is_simple_and_free app ≡ true → HasKind (fault_of app taken) e) → kind_of e ≢ OutOfMemory → None ≡ line_of ws
    refused e kinds other = no_line (line_of ws) (parses_so ws utf8) e (subst (λ (k : Kinds). HasKind k e) faults (kinds free)) other
