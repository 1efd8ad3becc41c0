use Rattle.std.proofs.Common.{◌≡◌, ◌<◌, ◌++◌, ◌∷◌, [], arith, ap, ap₂, sym, subst, ◌∙◌}
use Rattle.machine.specs.Board.{byte_of, case_of}
use Rattle.machine.specs.Board.Case.{Instruction}
use Rattle.machine.specs.Instruction.{at}
use Rattle.vip_program.specs.Counts.{addresses, Counted}
use Rattle.vip_program.specs.Instructions.{fetched_at, pc_of, points_of}
use Rattle.vip_program.specs.Lines.{three_at}
use Rattle.vip_program.specs.declared.instructions.Fetched.{Fetched}
use Rattle.vip_program.proofs.Instructing.{first-met, first-same, points-kept, points-more}
use Rattle.vip_program.proofs.instructions.ProgramProfile.meet.Goals as goal

pub returns-then-next_is_instruction : goal.returns-then-next_is_instruction
returns-then-next_is_instruction c run profiles behind =
    let b = c.args.board.now.machine in
    let rom = c.args.board.now.rom in
    let is = c.next_is_instruction.ensures.0 c.if-next_is_instruction.true in
    let pc : c.r-pc.result ≡ pc_of b = (rw c.cpu-cpu.ensures at c.r-pc.ensures.number) ∙ ap (at b.regs) (rw c.cpu-cpu.ensures at c.p.ensures.value) in
    let three : c.three_at.result ≡ three_at (byte_of rom b) (pc_of b) = (rw c.memory-memory.ensures at c.three_at.ensures) ∙ ap (three_at (byte_of rom b)) pc in
    let fetched : Fetched = record { latch = c.latch_set.result; three = c.three_at.result } in
    let same : fetched ≡ fetched_at rom b = ap₂ (λ latch three. record { latch = latch; three = three }) (rw c.memory-memory.ensures at c.latch_set.ensures) three in
    let within : c.r-pc.result < addresses = omega arith in
    record {
      counted =
          subst (Counted c.meet-then-next_is_instruction.new.self)
          (ap₂ (λ pc cycle. points_of run ++ record { pc = pc; cycle = cycle } ∷ []) pc c.now.ensures ∙ sym (points-more run b is))
          (c.meet-then-next_is_instruction.ensures (points_of run) profiles.counted (omega (arith, behind, c.now.ensures)));
      first =
          first-met run b rom c.args.self.now.instructions c.meet.new.self c.r-pc.result fetched profiles.first
          (sym c.args.self.now.instructions.first.ok.0 ∙ c.args.self.now.instructions.first_len) within is pc same c.meet.ensures.first c.meet.ensures.later;
    }

pub returns-else-next_is_instruction : goal.returns-else-next_is_instruction
returns-else-next_is_instruction c run profiles behind =
    let b = c.args.board.now.machine in
    let other : case_of b ≡ Instruction → ⊥ = λ starts. let is = c.next_is_instruction.ensures.1 starts in let no = c.if-next_is_instruction.false in cc in
    record {
      counted = subst (Counted c.args.self.now.counts) (sym (points-kept run b other)) profiles.counted;
      first = first-same run b c.args.board.now.rom c.args.self.now.instructions profiles.first other;
    }
