-- The profile of a program: its points are the starts of the instructions of its run, each of which ends at or before the limit.
use Rattle.std.specs.Prelude.{◌≡◌, ℕ, ◌==◌, Bool, true, false, List, [], ◌∷◌, ◌++◌, Option, Some, None, filter, find, map, codes}
use Rattle.std.specs.Option.{option_map}
use Rattle.machine.specs.Board.{Machine, Case, byte_of, case_of}
use Rattle.machine.specs.Board.Case.{Instruction}
use Rattle.machine.specs.Instruction.{at}
use Rattle.asm_core.specs.Origins.{Origins}
use Rattle.vip_board.specs.Seen.{Seen}
use Rattle.vip_isa.specs.Texts.{instruction_text}
use Rattle.vip_program.specs.declared.counts.Point.{Point}
use Rattle.vip_program.specs.declared.instructions.Fetched.{Fetched}
use Rattle.vip_program.specs.declared.instructions.Instructions.{Instructions}
use Rattle.vip_program.specs.declared.instructions.ProgramProfile.{ProgramProfile}
use Rattle.vip_program.specs.Counts.{Counted, HasValues}
use Rattle.vip_program.specs.Lines.{code_in, code_text, three_at}
use Rattle.vip_program.specs.Pictures.{made}
use Rattle.vip_program.specs.Profile.{Code, profile_text}

abbrev pub is_instruction : Case → Bool
is_instruction Instruction = true
is_instruction _ = false

-- the machines before the instructions among some moves
abbrev pub instructions : List Machine → List Machine
instructions run = filter (λ b. is_instruction (case_of b)) run

abbrev pub pc_of : Machine → ℕ
pc_of b = at b.regs b.regs.p

abbrev pub point_at : Machine → Point
point_at b = record { pc = pc_of b; cycle = b.cycle }

abbrev pub points_of : List Machine → List Point
points_of run = map point_at (instructions run)

-- the instruction that begins with a move: its opcode and the two bytes behind it, and whether they are read through the boot latch
abbrev pub fetched_at : List ℕ → Machine → Fetched
fetched_at rom b = record { latch = b.latch; three = three_at (byte_of rom b) (pc_of b) }

-- the first instruction that began at an address
abbrev pub first_at : List ℕ → List Machine → ℕ → Option Fetched
first_at rom run pc = option_map (fetched_at rom) (find (λ b. pc_of b == pc) (instructions run))

-- a row shows the bytes of an instruction, and the instruction two blanks behind the numbers
abbrev pub code_shown : ℕ → Option Fetched → Code
code_shown pc None = record { text = []; words = []; bytes = []; latch = false }
code_shown pc (Some fetched) = record {
  text = code_text fetched.three;
  words = codes "  " ++ instruction_text pc fetched.three;
  bytes = code_in fetched.three;
  latch = fetched.latch;
}

abbrev pub title : List ℕ
title = codes "bytes "

-- the profile of a run, with what a source gave
unfoldable pub program_profile : Origins → Seen → ℕ → List (List ℕ)
program_profile origins s limit =
    profile_text title origins (λ pc. code_shown pc (first_at s.rom (made s limit) pc)) (points_of (made s limit)) ∷ []

-- ---- what is counted

-- the instructions that were met first are those of these moves
abbrev pub AreFirst : Instructions → List ℕ → List Machine → Type 0
AreFirst instructions rom run = HasValues instructions.first.items (first_at rom run)

-- what was counted is of these moves
pub record Profiles (profile : ProgramProfile) (rom : List ℕ) (run : List Machine) : Type 0 where
  pub counted : Counted profile.counts (points_of run)
  pub first : AreFirst profile.instructions rom run
