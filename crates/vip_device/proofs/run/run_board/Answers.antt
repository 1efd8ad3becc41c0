use Rattle.std.proofs.Common.{◌∙◌, ap, arith}
use Rattle.vip_board.proofs.Through.{positive}
use Rattle.vip_board.specs.Seen.{Seen}
use Rattle.vip_device.proofs.Moving.{later-by, moves-more, moves-phase}
use Rattle.vip_device.proofs.run.run_board.Goals as goal

pub resting-requires : goal.resting-requires
resting-requires g c = moves-phase c.args.board.now c.loop-code.board c.loop-code.invariant.moves ∙ c.requires

pub run-requires : goal.run-requires
run-requires g c = moves-phase c.args.board.now c.loop-code.board c.loop-code.invariant.moves ∙ c.requires

pub met-requires : goal.met-requires
met-requires g c =
    moves-phase c.args.board.now c.run.new.self
    (moves-more c.args.board.now c.loop-code.board c.run.new.self c.run.result c.loop-code.invariant.moves c.run.ensures.made.moves)
    ∙ c.requires

pub returns-in-Some-met-clause-moves : goal.returns-in-Some-met-clause-moves
returns-in-Some-met-clause-moves g c =
    moves-more c.args.board.now c.loop-code.board c.run.new.self c.run.result c.loop-code.invariant.moves c.run.ensures.made.moves

pub loop-code-smaller : goal.loop-code-smaller
loop-code-smaller g c =
    omega (
      arith,
      ap (λ (s : Seen). s.machine.cycle) c.run.ensures.made.moves,
      later-by c.run.result c.loop-code.board,
      positive c.run.result c.if-run-eq0.false,
      c.run.ensures.made.within (positive c.run.result c.if-run-eq0.false),
    )

pub loop-code-preserved : goal.loop-code-preserved
loop-code-preserved g c =
    record {
      moves = moves-more c.args.board.now c.loop-code.board c.run.new.self c.run.result c.loop-code.invariant.moves c.run.ensures.made.moves;
      rom = c.note.ensures.rom ∙ c.loop-code.invariant.rom;
      kind = c.note.ensures.kind ∙ c.loop-code.invariant.kind;
    }
