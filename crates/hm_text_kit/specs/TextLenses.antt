-- What the text lenses mean that lens files can name.
use Rattle.std.specs.Prelude.{codes}
use Rattle.hm_text_lens.specs.Meanings.{TextMeaning}
use Rattle.hm_text_lens.specs.Chains.{chain_of}
use Rattle.hm_text_kit.specs.Trimmed.{trimming}
use Rattle.hm_text_kit.specs.Folding.{folding_case}
use Rattle.hm_text_kit.specs.Dates.{swapping_dates}
use Rattle.hm_text_kit.specs.WordTables.{swapping_words}
use Rattle.hm_text_kit.specs.YesAndNo.{yes_and_no}

abbrev pub trim : TextMeaning
trim = trimming (codes "trim")

abbrev pub date : TextMeaning
date = swapping_dates (codes "date")

-- an address without spaces at its ends, in one case
abbrev pub email : TextMeaning
email = chain_of (codes "email") (trimming (codes "trim")) (folding_case (codes "fold"))

-- a word for yes or no, and the letter that stands for it
abbrev pub yes_no : TextMeaning
yes_no = swapping_words (codes "yesno") yes_and_no
