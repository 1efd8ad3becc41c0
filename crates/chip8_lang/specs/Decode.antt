-- Which instruction an opcode is (RCA's manual, "CHIP-8 instructions"). An opcode is two bytes; its four digits are the instruction's
-- digit, X, Y and N, KK is the low byte, and MMM the last three digits.
use Rattle.std.specs.Prelude.{ℕ, ◌+◌, ◌*◌, ◌/◌, ◌%◌, ◌==◌, if◌then◌else◌}
use Rattle.chip8_lang.specs.declared.instr.Instr.{Instr}
use Rattle.chip8_lang.specs.declared.instr.Instr.TheVariants.{Clear, Return, Machine, Jump, Call, SkipEq, SkipNe, SkipSame, Load, Add, Copy, Or, And, Xor, Sum, Sub, Right, SubN, Left, SkipDiffer, Index, JumpPlus, Random, Draw, SkipDown, SkipUp, GetDelay, WaitKey, SetDelay, SetSound, AddIndex, Font, Decimal, Store, Fetch, Unknown}

-- 8XYN
abbrev pub arithmetic : ℕ → ℕ → ℕ → ℕ → Instr
arithmetic n x y opcode =
    if n == 0 then Copy x y
    else if n == 1 then Or x y
    else if n == 2 then And x y
    else if n == 3 then Xor x y
    else if n == 4 then Sum x y
    else if n == 5 then Sub x y
    else if n == 6 then Right x y
    else if n == 7 then SubN x y
    else if n == 0xe then Left x y
    else Unknown opcode

-- EXKK
abbrev pub key_test : ℕ → ℕ → ℕ → Instr
key_test kk x opcode =
    if kk == 0x9e then SkipDown x
    else if kk == 0xa1 then SkipUp x
    else Unknown opcode

-- FXKK
abbrev pub transfer : ℕ → ℕ → ℕ → Instr
transfer kk x opcode =
    if kk == 0x07 then GetDelay x
    else if kk == 0x0a then WaitKey x
    else if kk == 0x15 then SetDelay x
    else if kk == 0x18 then SetSound x
    else if kk == 0x1e then AddIndex x
    else if kk == 0x29 then Font x
    else if kk == 0x33 then Decimal x
    else if kk == 0x55 then Store x
    else if kk == 0x65 then Fetch x
    else Unknown opcode

-- the instruction whose opcode has these two bytes
abbrev pub instr_of_bytes : ℕ → ℕ → Instr
instr_of_bytes high kk =
    let digit = high / 16 in
    let x = high % 16 in
    let y = kk / 16 in
    let n = kk % 16 in
    let mmm = x * 256 + kk in
    let opcode = high * 256 + kk in
    if digit == 0 then (if mmm == 0x0e0 then Clear else if mmm == 0x0ee then Return else Machine mmm)
    else if digit == 1 then Jump mmm
    else if digit == 2 then Call mmm
    else if digit == 3 then SkipEq x kk
    else if digit == 4 then SkipNe x kk
    else if digit == 5 then (if n == 0 then SkipSame x y else Unknown opcode)
    else if digit == 6 then Load x kk
    else if digit == 7 then Add x kk
    else if digit == 8 then arithmetic n x y opcode
    else if digit == 9 then (if n == 0 then SkipDiffer x y else Unknown opcode)
    else if digit == 0xa then Index mmm
    else if digit == 0xb then JumpPlus mmm
    else if digit == 0xc then Random x kk
    else if digit == 0xd then Draw x y n
    else if digit == 0xe then key_test kk x opcode
    else transfer kk x opcode

-- the instruction of an opcode of 16 bits
abbrev pub instr_of : ℕ → Instr
instr_of opcode = instr_of_bytes (opcode / 256) (opcode % 256)
