use Rattle.std.proofs.Common.{◌≡◌, refl, sym, subst}
use Rattle.hm_format.specs.Formats.{FormatMeaning}
use Rattle.hm_format.specs.Meanings.{MeanTheSame, means_itself}
use Rattle.hm_format.specs.Plain.{plain}
use Rattle.hm_lines_files.specs.Writing.{meaning_of}
use Rattle.hm_csv.specs.Writing.{csv}
use Rattle.hm_ical.specs.Calendars.{ical}
use Rattle.hm_json_marks.specs.Writing.{json_marks}
use Rattle.hm_netscape_marks.specs.Writing.{netscape_marks}
use Rattle.hm_vcard.specs.Cards.{vcards}
use Rattle.harmony.proofs.status_of.OwnLists.{own-1}
use Rattle.harmony.proofs.status_of.Goals as goal

-- a box means what the entry of its table says
by_entry : (m : FormatMeaning) (k at : _) → k ≡ at → ((w : ((own-1).entry at).0.Denot) → MeanTheSame (((own-1).entry at).1.means w) m)
    → (w : ((own-1).entry k).0.Denot) → MeanTheSame (((own-1).entry k).1.means w) m
by_entry m k at is h = subst (λ j. (w : ((own-1).entry j).0.Denot) → MeanTheSame (((own-1).entry j).1.means w) m) (sym is) h

pub run_with-requires-clause-formats : goal.run_with-requires-clause-formats
run_with-requires-clause-formats c = record {
  chrome = c.into_dyn_box.result;
  netscape = c.into_dyn_box-in_ok-new-2.result;
  vcard = c.into_dyn_box-in_ok-new-3.result;
  icalendar = c.into_dyn_box-in_ok-new-4.result;
  csv = c.into_dyn_box-in_ok-new-5.result;
  tree = c.into_dyn_box-in_ok-new-6.result;
  are = refl;
  chrome_means = by_entry json_marks _ _ c.into_dyn_box.ensures.0 (λ w. means_itself json_marks) _;
  netscape_means = by_entry netscape_marks _ _ c.into_dyn_box-in_ok-new-2.ensures.0 (λ w. means_itself netscape_marks) _;
  vcard_means = by_entry (meaning_of vcards) _ _ c.into_dyn_box-in_ok-new-3.ensures.0 (λ w. means_itself (meaning_of vcards)) _;
  icalendar_means = by_entry (meaning_of ical) _ _ c.into_dyn_box-in_ok-new-4.ensures.0 (λ w. means_itself (meaning_of ical)) _;
  csv_means = by_entry csv _ _ c.into_dyn_box-in_ok-new-5.ensures.0 (λ w. means_itself csv) _;
  tree_means = by_entry plain _ _ c.into_dyn_box-in_ok-new-6.ensures.0 (λ w. means_itself plain) _;
}
