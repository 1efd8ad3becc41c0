use Rattle.std.proofs.Common.{refl}
use Rattle.vip_verbs.proofs.program.make_ready.Goals as goal

pub returns-in_ok-page-in-Profile : goal.returns-in_ok-page-in-Profile
returns-in_ok-page-in-Profile c =
    rw c.in-Profile.is (c.in_ok-counts-in-Profile.counts, c.in_ok-page-in-Profile.page, c.in_ok-page-in-Profile.ensures, refl)
