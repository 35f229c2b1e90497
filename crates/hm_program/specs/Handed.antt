-- The formats and the text lenses that the program hands in, by what they mean.
use Rattle.std.specs.Prelude.{◌≡◌, List, [], ◌∷◌}
use Rattle.hm_text_lens.specs.Meanings.{TextMeaning}
use Rattle.hm_text_kit.specs.TextLenses.{trim, date, email, yes_no}
use Rattle.hm_format.specs.Formats.{FormatMeaning}
use Rattle.hm_format.specs.Meanings.{MeanTheSame}
use Rattle.hm_format.specs.Plain.{plain}
use Rattle.hm_lines_files.specs.Writing.{meaning_of}
use Rattle.hm_csv.specs.Writing as tables
use Rattle.hm_ical.specs.Calendars.{ical}
use Rattle.hm_json_marks.specs.Writing.{json_marks}
use Rattle.hm_netscape_marks.specs.Writing.{netscape_marks}
use Rattle.hm_vcard.specs.Cards.{vcards}

-- the formats in their order: bookmarks as JSON and as Netscape's, vCards, calendars, CSV, and trees as text
pub record AreFormats {B : Type 0} (means : B → FormatMeaning) (formats : List B) : Type 0 where
  pub chrome : B
  pub netscape : B
  pub vcard : B
  pub icalendar : B
  pub csv : B
  pub tree : B
  pub are : formats ≡ chrome ∷ netscape ∷ vcard ∷ icalendar ∷ csv ∷ tree ∷ []
  pub chrome_means : MeanTheSame (means chrome) json_marks
  pub netscape_means : MeanTheSame (means netscape) netscape_marks
  pub vcard_means : MeanTheSame (means vcard) (meaning_of vcards)
  pub icalendar_means : MeanTheSame (means icalendar) (meaning_of ical)
  pub csv_means : MeanTheSame (means csv) tables.csv
  pub tree_means : MeanTheSame (means tree) plain

-- the text lenses in theirs
abbrev pub text_lenses : List TextMeaning
text_lenses = trim ∷ date ∷ email ∷ yes_no ∷ []
