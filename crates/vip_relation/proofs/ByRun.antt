-- What is told by the run alone is what is told.
use Rattle.std.proofs.Common.{◌≡◌, ap₂, sym, subst, Option}
use Rattle.std.specs.Option.{option_map}
use Rattle.vip_relation.specs.State.{VipState}
use Rattle.vip_relation.specs.Follows.{Follows}
use Rattle.vip_relation.specs.Kept.{by_run, named}
use Rattle.vip_relation.specs.declared.run.Named.{Named}

pub whole : (v : VipState) → Follows v → by_run v ≡ v
whole v f = ap₂ (λ last shown. record v { last = last; shown = shown }) (sym f.last) (sym f.shown)

pub as-run : (P : VipState → Type 0) (v : VipState) → Follows v → P v → P (by_run v)
as-run P v f p = subst P (sym (whole v f)) p

pub follows-run : (v : VipState) → Follows v → Follows (by_run v)
follows-run v f = as-run Follows v f f

pub named-run : (v : VipState) → Follows v → (last : Option Named) → last ≡ option_map named v.last → last ≡ option_map named (by_run v).last
named-run v f last is = as-run (λ (w : VipState). last ≡ option_map named w.last) v f is
