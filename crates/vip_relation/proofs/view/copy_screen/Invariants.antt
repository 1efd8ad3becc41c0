use Rattle.std.proofs.Common.{◌≡◌, ◌-◌, ◌*◌, length, slice_range}
use Rattle.chip8_lang.specs.Editions.{screen_start}
use Rattle.vip_relation.proofs.view.copy_screen.Given as goal

-- the pages of the screen up to this one are there
abbrev pub invariant-loop-high : goal.invariant-loop-high
invariant-loop-high l =
    (l.into.items ≡ slice_range l.memory.ram (screen_start l.fn.edition) (l.high * 256))
    × (length l.into.items ≡ l.high * 256 - screen_start l.fn.edition)
