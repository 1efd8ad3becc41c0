use Rattle.std.proofs.Common.{◌≡◌, length, take}
use Rattle.vip_board.specs.Moves.{taken_by, dma_bytes}
use Rattle.vip_board.specs.Wired.{seen_of}
use Rattle.vip_board.proofs.board.Board.take_bytes.Given as goal

-- so many bytes are taken
abbrev pub invariant-loop-k : goal.invariant-loop-k
invariant-loop-k g l =
    record {
      board : seen_of l.self-inside.cpu l.self-inside.wires ≡ taken_by l.k l.fn.self;
      wires : l.self-inside.wires ≡ l.initial.self-inside.wires;
      bytes : take l.k l.bytes ≡ dma_bytes l.k l.fn.self;
      size : length l.bytes ≡ 8;
    }
