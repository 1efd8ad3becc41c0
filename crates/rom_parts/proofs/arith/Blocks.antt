-- What the blocks of this part come to.
use Rattle.std.proofs.Common.{refl}
use Rattle.machine.specs.Board.{Machine}
use Rattle.machine.specs.Ranges.{FitsMachine, FitsRom}
use Rattle.chip8_lang.specs.declared.view.Edition.{Edition}
use Rattle.chip8_image.specs.declared.parts.Part.TheVariants.{Arith as IsArith}
use Rattle.rom_law.specs.Rows.{Since}
use Rattle.rom_law.proofs.Kept.{RunsBlock}
use Rattle.rom_rows.specs.ArithBlocks.{ArithBlock}
use Rattle.rom_rows.specs.ArithBlocks.ArithBlock.{Load, Add, SkipEq, SkipNe, SkipSame, SameTest, SkipDiffer, DifferTest, NoSkip, Skip, Unknown81, Arith, Operation, Flag, Unknown82}
use Rattle.rom_rows.specs.ArithBlocks.ArithBlock.{System, SystemLow, SystemBack, MachineCode, Return, ReturnTake, Empty, JumpTo, Call, CallPut, Full, JumpPlus}
use Rattle.rom_rows.specs.Table.{Head, calm_pieces}
use Rattle.rom_rows.specs.Table.Block.{OfArith}
use Rattle.rom_rows.proofs.Bytes.{with_part_fits}
use Rattle.rom_parts.specs.arith.Code.{arith_code}
use Rattle.rom_parts.proofs.Parts.{Comes, calm_comes}
use Rattle.rom_parts.proofs.Rom.{both, quick}
use Rattle.rom_parts.proofs.arith.Jumps.{system_comes, system_low_comes, system_back_comes, machine_comes, return_comes, return_take_comes, empty_comes, jump_comes, call_comes, call_put_comes, full_comes, jump_plus_comes}
use Rattle.rom_parts.proofs.arith.Loads.{load_comes, add_comes}
use Rattle.rom_parts.proofs.arith.Skips.{eq_comes, ne_comes, skip_same_comes, same_comes, skip_differ_comes, differ_comes, no_skip_comes, skip_comes, unknown81_comes}
use Rattle.rom_parts.proofs.arith.Arithmetic.{arith_comes, operation_comes, flag_comes, unknown82_comes}

pub arith_block : (e : Edition) (l : ArithBlock) (b : Machine) (h : Since) → FitsMachine b → Head (quick arith_code e) (OfArith l) b h
    → RunsBlock (quick arith_code e) (calm_pieces (quick arith_code e)) (OfArith l) b h
arith_block e System b h f o = system_comes e b h f o.0 o.1
arith_block e SystemLow b h f o = system_low_comes e b h f o.0.0 o.0.1 o.1
arith_block e SystemBack b h f o = system_back_comes e b h f o.0.0 o.0.1 o.0.2 o.1
arith_block e MachineCode b h f o = machine_comes e b h f o.0.0 o.0.1 o.1
arith_block e Return b h f o = return_comes e b h f o.0.0 o.0.1 o.0.2 o.1
arith_block e ReturnTake b h f o = return_take_comes e b h f o.0.0 o.0.1 o.0.2 o.0.3 o.1
arith_block e Empty b h f o = empty_comes e b h f o.0.0 o.0.1 o.1
arith_block e JumpTo b h f o = jump_comes e b h f o.0 o.1
arith_block e Call b h f o = call_comes e b h f o.0 o.1
arith_block e CallPut b h f o = call_put_comes e b h f o.0.0 o.0.1 o.1
arith_block e Full b h f o = full_comes e b h f o.0.0 o.0.1 o.1
arith_block e JumpPlus b h f o = jump_plus_comes e b h f o.0 o.1
arith_block e Load b h f o = load_comes e b h f o.0 o.1
arith_block e Add b h f o = add_comes e b h f o.0 o.1
arith_block e SkipEq b h f o = eq_comes e b h f o.0 o.1
arith_block e SkipNe b h f o = ne_comes e b h f o.0 o.1
arith_block e SkipSame b h f o = skip_same_comes e b h f o.0 o.1
arith_block e SameTest b h f o = same_comes e b h f o.0.0 o.0.1 o.1
arith_block e SkipDiffer b h f o = skip_differ_comes e b h f o.0 o.1
arith_block e DifferTest b h f o = differ_comes e b h f o.0.0 o.0.1 o.1
arith_block e (NoSkip i) b h f o = no_skip_comes e b h f i o.0.0 o.0.1 o.1
arith_block e Skip b h f o = skip_comes e b h f o.0 o.1
arith_block e Unknown81 b h f o = unknown81_comes e b h f o.0.0 o.0.1 o.1
arith_block e Arith b h f o = arith_comes e b h f o.0 o.1
arith_block e (Operation n) b h f o = operation_comes e b h f n o.0.0 o.0.1 o.0.2 o.1
arith_block e Flag b h f o = flag_comes e b h f o.0 o.1
arith_block e Unknown82 b h f o = unknown82_comes e b h f o.0.0 o.0.1 o.1

pub fits : (e : Edition) → FitsRom (both arith_code e)
fits = with_part_fits arith_code refl

pub comes : Comes IsArith (both arith_code)
comes = calm_comes IsArith (both arith_code) arith_block (λ e l. absurd l)
