-- What the fields of a run that tells of the last dispatch point met mean, and what holds of them.
use Rattle.std.specs.Prelude.{◌≡◌, length}
use Rattle.std.specs.Option.{option_map}
use Rattle.chip8_lang.specs.View.{seen}
use Rattle.vip_relation.specs.State.{VipState, screen_size}
use Rattle.vip_relation.specs.Follows.{Follows}
use Rattle.vip_relation.specs.declared.vip.Vip.TheInside.{Inside}

abbrev pub vip_of : Inside → VipState
vip_of a = a.run

-- the state and the screen that are kept are those of the run
pub record KeepsLast (a : Inside) : Type 0 where
  pub follows : Follows a.run
  pub last : option_map seen a.last ≡ a.run.last
  pub shown : a.shown.items ≡ a.run.shown
  pub size : length a.shown.items ≡ screen_size a.run.edition
