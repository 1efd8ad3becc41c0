use Rattle.std.proofs.Common.{◌≡◌, ◌+◌, ◌<◌, ◌≤◌, ℕ, true, refl, ◌∙◌, ap, subst, arith}
use Rattle.machine.specs.Signals.{dma_at}
use Rattle.vip_board.specs.Seen.{Seen}
use Rattle.vip_board.proofs.Scans.{along, awake-here, scanned-aside, scan-switch, scan-moved}
use Rattle.vip_board.proofs.board.Board.scan.Goals as goal

-- what the video chip says of the cycles ahead, said of the board
dma-of : (x s : Seen) (ahead : ℕ) → x ≡ s → ((k : ℕ) → k < ahead → dma_at (x.machine.cycle + k) x.machine.on ≡ true) → (n : ℕ) → n ≤ ahead
    → (k : ℕ) → k < n → dma_at (s.machine.cycle + k) s.machine.on ≡ true
dma-of x s ahead view dma n most k l = subst (λ (y : Seen). dma_at (y.machine.cycle + k) y.machine.on ≡ true) view (dma k (omega (arith, l, most)))

pub invariant_of-self : goal.invariant_of-self
invariant_of-self g c =
    scan-switch c.self-2.inside.cpu c.self-2.inside.wires c.scan.new.self c.args.self.now c.min-count.result _
    (c.self-2.view_is ∙ c.take_bytes-bytes.ensures.board) c.self-2.invariant c.take_bytes-bytes.ensures.bytes c.scan.ensures

pub returns-clause-moved : goal.returns-clause-moved
returns-clause-moved g c =
    scan-moved c.self-2.inside.cpu c.self-2.inside.wires c.scan.new.self c.args.self.now c.min-count.result _
    (c.self-2.view_is ∙ c.take_bytes-bytes.ensures.board) c.self-2.invariant c.take_bytes-bytes.ensures.bytes c.scan.ensures c.requires
    (dma-of _ _ _ c.self.view_is c.dma_ahead.ensures.dma _ (omega (arith, c.min-count.ensures, c.min-ahead.ensures)))

pub returns-clause-aside : goal.returns-clause-aside
returns-clause-aside g c =
    scanned-aside c.args.self.now c.min-count.result
    (dma-of _ _ _ c.self.view_is c.dma_ahead.ensures.dma _ (omega (arith, c.min-count.ensures, c.min-ahead.ensures))) c.min-count.result (omega arith)

pub returns-clause-within : goal.returns-clause-within
returns-clause-within g c some =
    let dma = dma-of _ _ _ c.self.view_is c.dma_ahead.ensures.dma c.min-count.result (omega (arith, c.min-count.ensures, c.min-ahead.ensures)) in
    let a = along c.args.self.now c.min-count.result dma c.min-count.result (omega arith) in
    let is =
    scan-moved c.self-2.inside.cpu c.self-2.inside.wires c.scan.new.self c.args.self.now c.min-count.result _
    (c.self-2.view_is ∙ c.take_bytes-bytes.ensures.board) c.self-2.invariant c.take_bytes-bytes.ensures.bytes c.scan.ensures c.requires dma in
    omega (arith, some, ap (λ (x : Seen). x.machine.cycle) is, a.cycle, c.min-count.ensures, c.saturating_sub.ensures, c.now.ensures)

pub returns-clause-awake : goal.returns-clause-awake
returns-clause-awake g c some =
    awake-here c.args.self.now.machine 0 refl
    (dma-of _ _ _ c.self.view_is c.dma_ahead.ensures.dma _ (omega (arith, c.min-count.ensures, c.min-ahead.ensures)) 0 some)
