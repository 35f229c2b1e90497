-- Dates as YYYYMMDD and as YYYY-MM-DD, the basic and the extended form of ISO 8601, in the calendar of that standard.
use Rattle.std.specs.Prelude.{ℕ, ◌+◌, ◌*◌, ◌-◌, Bool, cond, ◌&&◌, ◌==◌, [], ◌∷◌, pos}
use Rattle.std.specs.Bool.{nat_le}
use Rattle.jiff.specs.Words.{days_in_month}
use Rattle.hm_tree.specs.Names.{Name}
use Rattle.hm_tree.specs.declared.class.Class.TheVariants.{Filled}
use Rattle.hm_text_lens.specs.Meanings.{TextMeaning}
use Rattle.hm_text_kit.specs.Kinds.{exchange}

abbrev pub is_from : ℕ → ℕ → ℕ → Bool
is_from low high n = nat_le low n && nat_le n high

-- the calendar has this day, in a year from 0 to 9999
abbrev pub in_calendar : ℕ → ℕ → ℕ → Bool
in_calendar y m d = nat_le y 9999 && (is_from 1 12 m && is_from 1 (days_in_month (pos y) m) d)

abbrev pub is_digit : ℕ → Bool
is_digit = is_from 48 57

-- what digits say
abbrev pub two : ℕ → ℕ → ℕ
two a b = 10 * (a - 48) + (b - 48)

abbrev pub four : ℕ → ℕ → ℕ → ℕ → ℕ
four a b c d = 100 * two a b + two c d

-- eight digits of a date
unfoldable pub is_date : (a b c d e f g h : ℕ) → Bool
is_date a b c d e f g h =
    (is_digit a && (is_digit b && (is_digit c && (is_digit d && (is_digit e && (is_digit f && (is_digit g && is_digit h)))))))
    && in_calendar (four a b c d) (two e f) (two g h)

-- the two spellings of a date are exchanged, and other texts stay
abbrev pub exchanged : Name → Name
exchanged (a ∷ b ∷ c ∷ d ∷ e ∷ f ∷ g ∷ h ∷ []) =
    cond (is_date a b c d e f g h) (a ∷ b ∷ c ∷ d ∷ 45 ∷ e ∷ f ∷ 45 ∷ g ∷ h ∷ []) (a ∷ b ∷ c ∷ d ∷ e ∷ f ∷ g ∷ h ∷ [])
exchanged (a ∷ b ∷ c ∷ d ∷ p ∷ e ∷ f ∷ q ∷ g ∷ h ∷ []) =
    cond ((p == 45) && ((q == 45) && is_date a b c d e f g h)) (a ∷ b ∷ c ∷ d ∷ e ∷ f ∷ g ∷ h ∷ []) (a ∷ b ∷ c ∷ d ∷ p ∷ e ∷ f ∷ q ∷ g ∷ h ∷ [])
exchanged t = t

-- what `SwapDate` means
abbrev pub swapping_dates : Name → TextMeaning
swapping_dates name = exchange name Filled exchanged
