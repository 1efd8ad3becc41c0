use Rattle.std.proofs.Common.{◌≡◌, ℕ, List, [], ◌++◌, length, take, get_or, set}
use Rattle.machine.specs.Pictures.{filled}
use Rattle.vip_video.proofs.buffer.Picture.write.Given as goal

-- so many of the bytes are written
abbrev pub invariant-loop-k : goal.invariant-loop-k
invariant-loop-k l =
    (first : List ℕ) → length first ≡ l.place → get_or l.fn.self.lines l.line [] ≡ filled first
    → l.self.lines ≡ set l.fn.self.lines l.line (filled (first ++ take l.k l.bytes))
