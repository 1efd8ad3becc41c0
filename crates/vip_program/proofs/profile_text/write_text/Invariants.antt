use Rattle.std.proofs.Common.{◌≡◌, ℕ, ◌+◌, ◌*◌, ◌++◌, ◌≤◌, List, length, vec_capacity}
use Rattle.vip_program.specs.declared.counts.Point.{Point}
use Rattle.vip_program.specs.Counts.{Counted}
use Rattle.vip_program.specs.Profile.{Code, profile_text}
use Rattle.vip_program.specs.Sums.{AreWithin, IsShown, row_room}
use Rattle.vip_program.proofs.Rows.{left}
use Rattle.vip_program.proofs.profile_text.write_text.Given as goal

-- the rows of the addresses so far are written, and the others are left
abbrev pub invariant-loop-pc : goal.invariant-loop-pc
invariant-loop-pc g l = record {
  text :
      (points : List Point) (code : ℕ → Code) → Counted l.counts points → IsShown (g.C.Codes.code l.codes) code
      → l.text.items ++ left l.origins code points l.before l.pc ≡ profile_text g.C.Codes.title l.origins code points;
  size : (most : ℕ) → AreWithin l.origins.labels most → length l.text.items ≤ 1_024 + (row_room l.origins + most) * l.pc;
  room : vec_capacity l.fn.text ≤ vec_capacity l.text;
}
