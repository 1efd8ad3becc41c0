use Rattle.std.proofs.Common.{map, take}
use Rattle.vip_c.proofs.FileLemmas.{Found}
use Rattle.vip_c.proofs.given.files_of.Given as goal

-- what was found so far
abbrev pub invariant-loop-place : goal.invariant-loop-place
invariant-loop-place l = Found l.bytes (take l.place-index l.places) (map (λ name. name.now) l.names.items) l.files
