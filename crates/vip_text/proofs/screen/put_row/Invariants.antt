use Rattle.std.proofs.Common.{◌≡◌, ◌+◌, ◌++◌, length, map}
use Rattle.std.specs.List.{range_with_len}
use Rattle.vip_text.specs.Screens.{dot, pixels_of}
use Rattle.vip_text.proofs.screen.put_row.Given as goal

-- the first pixels are there
abbrev pub invariant-loop-x : goal.invariant-loop-x
invariant-loop-x l =
    (l.into.items ≡ l.initial.into.items ++ map (λ x. dot (pixels_of l.rows x l.y)) (range_with_len 0 l.x))
    × (length l.into.items ≡ length l.initial.into.items + l.x)
