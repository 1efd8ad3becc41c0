use Rattle.std.proofs.Common.{sym, ap, ◌∙◌}
use Rattle.vip_board.specs.Seen.{Seen, cycled}
use Rattle.vip_board.specs.declared.board.Move.TheVariants.{Instruction}
use Rattle.vip_board.proofs.Whole.{fetches_of, name_of-fetch, make_two, make_three, is-fetched, is-going}
use Rattle.machine.specs.Board.Case.{Dma as DmaCase, Interrupt as InterruptCase, Idle as IdleCase}
use Rattle.vip_board.proofs.Cases.{dma-move, interrupt-move, idle-move, name-in}
use Rattle.vip_board.proofs.Calls.{begins-otherwise}
use Rattle.vip_board.proofs.board.Board.make.Goals as goal
use Rattle.vip_board.proofs.board.Board.make.Goals.{then-length-eq3, else-length-eq3}

pub go_on-requires-clause-middle : goal.go_on-requires-clause-middle
go_on-requires-clause-middle g c e =
    is-fetched c.args.self.now c.requires.boundary (sym c.begin.ensures.did ∙ c.in-Fetch.is)
    (sym (ap (λ (s : Seen). s.phase) c.begin.ensures.board) ∙ e)

pub go_on-requires-in-Fetch-clause-middle : goal.go_on-requires-in-Fetch-clause-middle
go_on-requires-in-Fetch-clause-middle g c e =
    let s = c.args.self.now in
    let is_fetch = sym c.begin.ensures.did ∙ c.in-Fetch.is in
    elim c.if-length-eq3.branch [
      | then-length-eq3 w ↦
          is-going s c.args.length c.requires.boundary is_fetch c.requires.long w.if-length-eq3.true
          (sym (ap (λ (s : Seen). s.phase) (w.self-is ∙ w.go_on.ensures ∙ ap cycled c.begin.ensures.board)) ∙ e)
      | else-length-eq3 w ↦
          is-fetched s c.requires.boundary is_fetch (sym (ap (λ (s : Seen). s.phase) (w.self-is ∙ c.begin.ensures.board)) ∙ e)
    ]

pub unreachable-requires : goal.unreachable-requires
unreachable-requires g c = begins-otherwise c.args.self.now c.requires.boundary (sym c.begin.ensures.did ∙ c.in-Execute.is)

pub returns-after-length-eq3-clause-moved : goal.returns-after-length-eq3-clause-moved
returns-after-length-eq3-clause-moved g c =
    let s = c.args.self.now in
    let is_fetch = sym c.begin.ensures.did ∙ c.in-Fetch.is in
    elim c.if-length-eq3.branch [
      | then-length-eq3 w ↦
          c.go_on-in-Fetch.ensures
          ∙ ap cycled (w.self-is ∙ w.go_on.ensures ∙ ap cycled c.begin.ensures.board)
          ∙ make_three s c.args.length c.requires.boundary is_fetch c.requires.long w.if-length-eq3.true
      | else-length-eq3 w ↦
          c.go_on-in-Fetch.ensures
          ∙ ap cycled (w.self-is ∙ c.begin.ensures.board)
          ∙ make_two s c.args.length c.requires.boundary is_fetch c.requires.long w.if-length-eq3.false
    ]

pub returns-after-length-eq3-clause-named : goal.returns-after-length-eq3-clause-named
returns-after-length-eq3-clause-named g c =
    let s = c.args.self.now in
    let is_fetch = sym c.begin.ensures.did ∙ c.in-Fetch.is in
    ap Instruction
    (c.counter-address.ensures) ∙ sym (name_of-fetch s.machine (fetches_of s c.requires.boundary is_fetch))

pub returns-in-Dma-clause-moved : goal.returns-in-Dma-clause-moved
returns-in-Dma-clause-moved g c =
    c.begin.ensures.board ∙ (dma-move c.args.self.now c.in-Dma.field-0 c.requires.boundary (sym c.begin.ensures.did ∙ c.in-Dma.is)).whole

pub returns-in-Dma-clause-named : goal.returns-in-Dma-clause-named
returns-in-Dma-clause-named g c =
    let is = dma-move c.args.self.now c.in-Dma.field-0 c.requires.boundary (sym c.begin.ensures.did ∙ c.in-Dma.is) in
    sym (name-in c.args.self.now.machine DmaCase is.case)

pub returns-in-Interrupt-clause-moved : goal.returns-in-Interrupt-clause-moved
returns-in-Interrupt-clause-moved g c =
    c.begin.ensures.board ∙ (interrupt-move c.args.self.now c.requires.boundary (sym c.begin.ensures.did ∙ c.in-Interrupt.is)).whole

pub returns-in-Interrupt-clause-named : goal.returns-in-Interrupt-clause-named
returns-in-Interrupt-clause-named g c =
    let is = interrupt-move c.args.self.now c.requires.boundary (sym c.begin.ensures.did ∙ c.in-Interrupt.is) in
    sym (name-in c.args.self.now.machine InterruptCase is.case)

pub returns-in-Idle-clause-moved : goal.returns-in-Idle-clause-moved
returns-in-Idle-clause-moved g c =
    c.begin.ensures.board ∙ (idle-move c.args.self.now c.requires.boundary (sym c.begin.ensures.did ∙ c.in-Idle.is)).whole

pub returns-in-Idle-clause-named : goal.returns-in-Idle-clause-named
returns-in-Idle-clause-named g c =
    let is = idle-move c.args.self.now c.requires.boundary (sym c.begin.ensures.did ∙ c.in-Idle.is) in
    sym (name-in c.args.self.now.machine IdleCase is.case)
