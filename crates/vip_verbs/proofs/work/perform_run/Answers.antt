use Rattle.vip_verbs.proofs.WorkLemmas.{fresh-of, save-performs, show-performs}
use Rattle.vip_verbs.proofs.work.perform_run.Goals as goal

pub show_trace-requires : goal.show_trace-requires
show_trace-requires g c = record { fresh = fresh-of _ c.requires }

pub returns-in-Trace : goal.returns-in-Trace
returns-in-Trace g c = rw (c.in-Trace.is, c.ran.ensures) (show-performs _ _ _ _ _ _ c.show_trace.ensures)

pub show_pictures-requires : goal.show_pictures-requires
show_pictures-requires g c = record { fresh = fresh-of _ c.requires }

pub returns-in-Pictures : goal.returns-in-Pictures
returns-in-Pictures g c = rw (c.in-Pictures.is, c.ran-in-Pictures.ensures) (show-performs _ _ _ _ _ _ c.show_pictures.ensures)

pub returns-in-Commands : goal.returns-in-Commands
returns-in-Commands g c = rw c.in-Commands.is c.debug.ensures

pub show_saved-requires : goal.show_saved-requires
show_saved-requires g c = record { fresh = fresh-of _ c.requires }

pub returns-in-State : goal.returns-in-State
returns-in-State g c = rw (c.in-State.is, c.end_of_saving.ensures) (save-performs _ _ _ _ _ _ c.show_saved.ensures)

pub show_profile-requires : goal.show_profile-requires
show_profile-requires g c = record { fresh = fresh-of _ c.requires }

pub returns-in-Profile : goal.returns-in-Profile
returns-in-Profile g c = rw (c.in-Profile.is, c.ran-in-Profile.ensures) (show-performs _ _ _ _ _ _ c.show_profile.ensures)

pub show_summary-requires : goal.show_summary-requires
show_summary-requires g c = record { fresh = fresh-of _ c.requires }

pub returns-in-Summary : goal.returns-in-Summary
returns-in-Summary g c = rw (c.in-Summary.is, c.ran-in-Summary.ensures) (show-performs _ _ _ _ _ _ c.show_summary.ensures)
