use Rattle.std.proofs.Common.{sym, subst, ap, ◌∙◌}
use Rattle.vip_board.specs.Seen.{Seen, cycled}
use Rattle.vip_board.specs.declared.board.Move.TheVariants.{Instruction}
use Rattle.vip_board.proofs.Whole.{fetches_of, name_of-fetch}
use Rattle.machine.specs.Board.Case.{Dma as DmaCase, Interrupt as InterruptCase, Idle as IdleCase}
use Rattle.vip_board.proofs.Cases.{dma-move, interrupt-move, idle-move, name-in}
use Rattle.vip_board.proofs.Calls.{begins-otherwise}
use Rattle.vip_board.proofs.Joins.{EndsLinked, two-ends, three-ends, dma-leaves, interrupt-leaves, idle-leaves}
use Rattle.vip_board.proofs.board.Board.linked.Goals as goal
use Rattle.vip_board.proofs.board.Board.linked.Goals.{then-length-eq3, else-length-eq3}

pub unreachable-requires : goal.unreachable-requires
unreachable-requires g c = begins-otherwise c.args.self.now c.requires.boundary (sym c.cycle.ensures.did ∙ c.in-Execute.is)

pub returns-in-Dma-clause-moved : goal.returns-in-Dma-clause-moved
returns-in-Dma-clause-moved g c =
    let s = c.args.self.now in
    let is = dma-move s c.in-Dma.field-0 c.requires.boundary (sym c.cycle.ensures.did ∙ c.in-Dma.is) in
    c.cycle.ensures.board ∙ is.whole ∙ (dma-leaves s c.args.incoming.now c.args.outgoing.now is.case).board

pub returns-in-Dma-clause-incoming : goal.returns-in-Dma-clause-incoming
returns-in-Dma-clause-incoming g c =
    let s = c.args.self.now in
    let is = dma-move s c.in-Dma.field-0 c.requires.boundary (sym c.cycle.ensures.did ∙ c.in-Dma.is) in
    (dma-leaves s c.args.incoming.now c.args.outgoing.now is.case).incoming_is

pub returns-in-Dma-clause-outgoing : goal.returns-in-Dma-clause-outgoing
returns-in-Dma-clause-outgoing g c =
    let s = c.args.self.now in
    let is = dma-move s c.in-Dma.field-0 c.requires.boundary (sym c.cycle.ensures.did ∙ c.in-Dma.is) in
    (dma-leaves s c.args.incoming.now c.args.outgoing.now is.case).outgoing_is

pub returns-in-Dma-clause-named : goal.returns-in-Dma-clause-named
returns-in-Dma-clause-named g c =
    let is = dma-move c.args.self.now c.in-Dma.field-0 c.requires.boundary (sym c.cycle.ensures.did ∙ c.in-Dma.is) in
    sym (name-in c.args.self.now.machine DmaCase is.case)

pub returns-in-Interrupt-clause-moved : goal.returns-in-Interrupt-clause-moved
returns-in-Interrupt-clause-moved g c =
    let s = c.args.self.now in
    let is = interrupt-move s c.requires.boundary (sym c.cycle.ensures.did ∙ c.in-Interrupt.is) in
    c.cycle.ensures.board ∙ is.whole ∙ (interrupt-leaves s c.args.incoming.now c.args.outgoing.now is.case).board

pub returns-in-Interrupt-clause-incoming : goal.returns-in-Interrupt-clause-incoming
returns-in-Interrupt-clause-incoming g c =
    let s = c.args.self.now in
    let is = interrupt-move s c.requires.boundary (sym c.cycle.ensures.did ∙ c.in-Interrupt.is) in
    (interrupt-leaves s c.args.incoming.now c.args.outgoing.now is.case).incoming_is

pub returns-in-Interrupt-clause-outgoing : goal.returns-in-Interrupt-clause-outgoing
returns-in-Interrupt-clause-outgoing g c =
    let s = c.args.self.now in
    let is = interrupt-move s c.requires.boundary (sym c.cycle.ensures.did ∙ c.in-Interrupt.is) in
    (interrupt-leaves s c.args.incoming.now c.args.outgoing.now is.case).outgoing_is

pub returns-in-Interrupt-clause-named : goal.returns-in-Interrupt-clause-named
returns-in-Interrupt-clause-named g c =
    let is = interrupt-move c.args.self.now c.requires.boundary (sym c.cycle.ensures.did ∙ c.in-Interrupt.is) in
    sym (name-in c.args.self.now.machine InterruptCase is.case)

pub returns-in-Idle-clause-moved : goal.returns-in-Idle-clause-moved
returns-in-Idle-clause-moved g c =
    let s = c.args.self.now in
    let is = idle-move s c.requires.boundary (sym c.cycle.ensures.did ∙ c.in-Idle.is) in
    c.cycle.ensures.board ∙ is.whole ∙ (idle-leaves s c.args.incoming.now c.args.outgoing.now is.case).board

pub returns-in-Idle-clause-incoming : goal.returns-in-Idle-clause-incoming
returns-in-Idle-clause-incoming g c =
    let s = c.args.self.now in
    let is = idle-move s c.requires.boundary (sym c.cycle.ensures.did ∙ c.in-Idle.is) in
    (idle-leaves s c.args.incoming.now c.args.outgoing.now is.case).incoming_is

pub returns-in-Idle-clause-outgoing : goal.returns-in-Idle-clause-outgoing
returns-in-Idle-clause-outgoing g c =
    let s = c.args.self.now in
    let is = idle-move s c.requires.boundary (sym c.cycle.ensures.did ∙ c.in-Idle.is) in
    (idle-leaves s c.args.incoming.now c.args.outgoing.now is.case).outgoing_is

pub returns-in-Idle-clause-named : goal.returns-in-Idle-clause-named
returns-in-Idle-clause-named g c =
    let is = idle-move c.args.self.now c.requires.boundary (sym c.cycle.ensures.did ∙ c.in-Idle.is) in
    sym (name-in c.args.self.now.machine IdleCase is.case)

pub end_linked-requires-clause-last : goal.end_linked-requires-clause-last
end_linked-requires-clause-last g c =
    let s = c.args.self.now in
    let incoming = c.args.incoming.now in
    let outgoing = c.args.outgoing.now in
    let is_fetch = sym c.cycle.ensures.did ∙ c.in-Fetch.is in
    let E : Seen → Type 0 = λ v. EndsLinked s v incoming outgoing in
    elim c.if-length-eq3.branch [
      | then-length-eq3 w ↦
          (subst E (sym (w.self-is ∙ w.cycle-then-length-eq3.ensures.board ∙ ap cycled c.cycle.ensures.board))
          (three-ends s c.next_length-length.result incoming outgoing c.requires.boundary is_fetch c.next_length-length.ensures
          w.if-length-eq3.true)).last
      | else-length-eq3 w ↦
          (subst E (sym (w.self-is ∙ c.cycle.ensures.board))
          (two-ends s c.next_length-length.result incoming outgoing c.requires.boundary is_fetch c.next_length-length.ensures
          w.if-length-eq3.false)).last
    ]

pub returns-after-length-eq3-clause-moved : goal.returns-after-length-eq3-clause-moved
returns-after-length-eq3-clause-moved g c =
    let s = c.args.self.now in
    let incoming = c.args.incoming.now in
    let outgoing = c.args.outgoing.now in
    let is_fetch = sym c.cycle.ensures.did ∙ c.in-Fetch.is in
    let E : Seen → Type 0 = λ v. EndsLinked s v incoming outgoing in
    elim c.if-length-eq3.branch [
      | then-length-eq3 w ↦
          c.end_linked.ensures.board
          ∙ (subst E (sym (w.self-is ∙ w.cycle-then-length-eq3.ensures.board ∙ ap cycled c.cycle.ensures.board))
          (three-ends s c.next_length-length.result incoming outgoing c.requires.boundary is_fetch c.next_length-length.ensures
          w.if-length-eq3.true)).board
      | else-length-eq3 w ↦
          c.end_linked.ensures.board
          ∙ (subst E (sym (w.self-is ∙ c.cycle.ensures.board))
          (two-ends s c.next_length-length.result incoming outgoing c.requires.boundary is_fetch c.next_length-length.ensures
          w.if-length-eq3.false)).board
    ]

pub returns-after-length-eq3-clause-incoming : goal.returns-after-length-eq3-clause-incoming
returns-after-length-eq3-clause-incoming g c =
    let s = c.args.self.now in
    let incoming = c.args.incoming.now in
    let outgoing = c.args.outgoing.now in
    let is_fetch = sym c.cycle.ensures.did ∙ c.in-Fetch.is in
    let E : Seen → Type 0 = λ v. EndsLinked s v incoming outgoing in
    elim c.if-length-eq3.branch [
      | then-length-eq3 w ↦
          c.end_linked.ensures.incoming
          ∙ (subst E (sym (w.self-is ∙ w.cycle-then-length-eq3.ensures.board ∙ ap cycled c.cycle.ensures.board))
          (three-ends s c.next_length-length.result incoming outgoing c.requires.boundary is_fetch c.next_length-length.ensures
          w.if-length-eq3.true)).incoming_is
      | else-length-eq3 w ↦
          c.end_linked.ensures.incoming
          ∙ (subst E (sym (w.self-is ∙ c.cycle.ensures.board))
          (two-ends s c.next_length-length.result incoming outgoing c.requires.boundary is_fetch c.next_length-length.ensures
          w.if-length-eq3.false)).incoming_is
    ]

pub returns-after-length-eq3-clause-outgoing : goal.returns-after-length-eq3-clause-outgoing
returns-after-length-eq3-clause-outgoing g c =
    let s = c.args.self.now in
    let incoming = c.args.incoming.now in
    let outgoing = c.args.outgoing.now in
    let is_fetch = sym c.cycle.ensures.did ∙ c.in-Fetch.is in
    let E : Seen → Type 0 = λ v. EndsLinked s v incoming outgoing in
    elim c.if-length-eq3.branch [
      | then-length-eq3 w ↦
          c.end_linked.ensures.outgoing
          ∙ (subst E (sym (w.self-is ∙ w.cycle-then-length-eq3.ensures.board ∙ ap cycled c.cycle.ensures.board))
          (three-ends s c.next_length-length.result incoming outgoing c.requires.boundary is_fetch c.next_length-length.ensures
          w.if-length-eq3.true)).outgoing_is
      | else-length-eq3 w ↦
          c.end_linked.ensures.outgoing
          ∙ (subst E (sym (w.self-is ∙ c.cycle.ensures.board))
          (two-ends s c.next_length-length.result incoming outgoing c.requires.boundary is_fetch c.next_length-length.ensures
          w.if-length-eq3.false)).outgoing_is
    ]

pub returns-after-length-eq3-clause-named : goal.returns-after-length-eq3-clause-named
returns-after-length-eq3-clause-named g c =
    let s = c.args.self.now in
    let is_fetch = sym c.cycle.ensures.did ∙ c.in-Fetch.is in
    ap Instruction c.counter-address.ensures ∙ sym (name_of-fetch s.machine (fetches_of s c.requires.boundary is_fetch))
