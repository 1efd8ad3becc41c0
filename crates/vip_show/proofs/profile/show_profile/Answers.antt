use Rattle.vip_show.proofs.Profiling.{profile-fails, profile-whole}
use Rattle.vip_show.proofs.profile.show_profile.Goals as goal

pub returns-in_err-put : goal.returns-in_err-put
returns-in_err-put g c =
    profile-fails c.args.page.now _ _ _ _ c.count_points-end.ensures _ _ _ c.from_residual.ensures.0 _ c.in_err-put.ensures

pub returns : goal.returns
returns g c = profile-whole c.args.page.now _ _ _ _ c.count_points-end.ensures _ _ _ c.in_ok-put.ensures
