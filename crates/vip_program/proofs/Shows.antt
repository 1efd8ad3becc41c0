-- A whole trace.
use Rattle.std.proofs.Common.{◌≡◌, ℕ, List, ap, ◌∙◌, subst, arith}
use Rattle.std.specs.Prelude.{Result, Ok, Err, IsErr}
use Rattle.asm_core.specs.Origins.{Origins}
use Rattle.vip_board.specs.Seen.{Seen, held_by}
use Rattle.vip_outside.specs.Sink.{SinkMeaning}
use Rattle.vip_outside.specs.Pieces.{PutsAll, FailsWithin}
use Rattle.vip_outside.specs.declared.sink.Failed.{Failed}
use Rattle.vip_program.specs.Moves.{machine_after}
use Rattle.vip_program.specs.Trace.{Traces, TraceFails, ShowsProgram, ShowAnswers, end_at, lines_of, moves_ahead, moves_to, program_trace}
use Rattle.vip_program.specs.declared.trace.ProgramEnd.{ProgramEnd}
use Rattle.vip_program.proofs.Runs.{machine-by, moves-few}

module _ (origins : Origins) (limit : ℕ) (old : Seen) where
  -- each move takes a cycle, so no more moves are asked for than there can be
  all_asked : moves_ahead old limit limit ≡ moves_to old.rom (held_by old) old.machine limit
  all_asked = let few = moves-few old.rom (held_by old) limit old.machine in omega (arith, few)

  module _ (new : Seen) (out out' : SinkMeaning) where
    pub show-traced : (made : ℕ) → Traces origins limit limit old new out out' made → (end : ProgramEnd) → end ≡ end_at new.machine
        → ShowsProgram (program_trace origins old limit) limit old out out' end
    show-traced made t end is = record {
      puts = subst (λ n. PutsAll (lines_of origins old n) out out') all_asked t.puts;
      ending = is ∙ ap end_at (ap (λ (s : Seen). s.machine) t.moved ∙ machine-by old made ∙ ap (machine_after old) (t.all ∙ all_asked));
    }

    pub show-fails : TraceFails origins limit limit old new out out' → (answer : Result ProgramEnd Failed) → IsErr answer
        → ShowAnswers (program_trace origins old limit) limit old out out' answer
    show-fails t (Ok end) bad = cc
    show-fails t (Err e) bad = subst (λ n. FailsWithin (lines_of origins old n) out out') all_asked t.fails
