use Rattle.std.proofs.Common.{◌≡◌, ◌+◌, ◌++◌, ◌≤◌, ◌∙◌, List, ℕ, [], ap, sym, length, take, get_or, set, arith}
use Rattle.machine.specs.Pictures.{filled}
use Rattle.vip_video.proofs.Lines.{fill-more, set-again}
use Rattle.vip_video.proofs.buffer.Picture.write.Goals as goal

pub loop-k-preserved : goal.loop-k-preserved
loop-k-preserved c first size is =
    let k = c.loop-k.k in
    let bytes : List ℕ = c.args.bytes.now in
    let lines : List (List ℕ) = c.args.self.now.lines in
    let put : List ℕ → List ℕ = λ (l : List ℕ). set l (c.args.place + k) (get_or bytes k 0) in
    let so_far : List ℕ = filled (first ++ take k bytes) in
    let room : length first + length bytes ≤ 8 = omega (arith, size, c.requires.room) in
    let more : put so_far ≡ filled (first ++ take (k + 1) bytes) =
    ap (λ n. set so_far (n + k) (get_or bytes k 0)) (sym size) ∙ fill-more first bytes k c.loop-k-test.true room in
    ap (λ (m : List (List ℕ)). set m c.args.line (put (get_or m c.args.line []))) (c.loop-k.invariant first size is)
    ∙ set-again lines c.args.line so_far [] put
    ∙ ap (set lines c.args.line) more
