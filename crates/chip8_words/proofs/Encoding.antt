-- The parts of an opcode are read again from it.
use Rattle.std.proofs.Common.{◌≡◌, ℕ, ◌+◌, ◌*◌, ◌/◌, ◌%◌, ◌≤◌, ◌==◌, Bool, true, false, cond, Some, arith, refl}
use Rattle.chip8_words.specs.Codes.{IsValid, canonical, canonical_by, decoded, encoded}
use Rattle.chip8_words.specs.Table.{opcode_of, parts_of}
use Rattle.chip8_lang.specs.declared.instr.Instr.TheVariants as instr
use Rattle.chip8_words.specs.declared.code.Op.{Op}
use Rattle.chip8_words.specs.declared.table.Form.{Form}
use Rattle.chip8_words.specs.declared.table.Form.TheVariants.{Clear, Return, Machine, Jump, Call, SkipEq, SkipNe, Load, Add, Index, JumpPlus, Random, SkipDown, SkipUp, GetDelay, WaitKey, SetDelay, SetSound, AddIndex, Font, Decimal, Store, Fetch, Draw}

-- the first digit of an opcode, its second and its low byte
record Digits (opcode first x low : ℕ) : Type 0 where
  digit : opcode / 256 / 16 ≡ first
  second : opcode / 256 % 16 ≡ x
  byte : opcode % 256 ≡ low

digits : (opcode first x low : ℕ) → opcode ≡ 4096 * first + 256 * x + low → x ≤ 15 → low ≤ 255 → Digits opcode first x low
digits opcode first x low is l k = record { digit = omega (arith, is); second = omega (arith, is); byte = omega (arith, is) }

-- those of an opcode with a number of three digits, and of one with two in its low byte
address : (opcode first number : ℕ) → opcode ≡ 4096 * first + number → number ≤ 4095 → Digits opcode first (number / 256) (number % 256)
address opcode first number is l = digits opcode first (number / 256) (number % 256) (omega (arith, is)) (omega (arith, l)) (omega arith)

whole : (number : ℕ) → number / 256 * 256 + number % 256 ≡ number
whole number = omega arith

upper : (y n : ℕ) → n ≤ 15 → (16 * y + n) / 16 ≡ y
upper y n l = omega (arith, l)

lower : (y n : ℕ) → n ≤ 15 → (16 * y + n) % 16 ≡ n
lower y n l = omega (arith, l)

none : {n : ℕ} → n ≤ 0 → n ≡ 0
none l = omega (arith, l)

abbrev op : Form → ℕ → ℕ → ℕ → Op
op form x y number = record { form = form; x = x; y = y; number = number }

-- of SYS, by whether it is CLS or RET
as_other :
    (clear ret : Bool) (number : ℕ)
    → parts_of (cond clear instr.Clear (cond ret instr.Return (instr.Machine number)))
    ≡ Some (cond clear (op Clear 0 0 0) (cond ret (op Return 0 0 0) (op Machine 0 0 number)))
as_other true ret number = refl
as_other false true number = refl
as_other false false number = refl

-- the arm behind the others is for two registers
again :
    (form : Form) (x y number opcode : ℕ) → IsValid (op form x y number) → opcode ≡ encoded (op form x y number)
    → decoded opcode ≡ Some (canonical_by form (op form x y number))
again Clear x y number opcode v is = rw (is, none v.x, none v.y, none v.number) refl
again Return x y number opcode v is = rw (is, none v.x, none v.y, none v.number) refl
again Machine x y number opcode v is =
    let d = address opcode 0 number (omega (arith, is, v.x, v.y)) v.number in
    rw (d.digit, d.second, d.byte, whole number, none v.x, none v.y) (as_other (number == 0x0e0) (number == 0x0ee) number)
again Jump x y number opcode v is =
    let d = address opcode 1 number (omega (arith, is, v.x, v.y)) v.number in rw (d.digit, d.second, d.byte, whole number, none v.x, none v.y) refl
again Call x y number opcode v is =
    let d = address opcode 2 number (omega (arith, is, v.x, v.y)) v.number in rw (d.digit, d.second, d.byte, whole number, none v.x, none v.y) refl
again SkipEq x y number opcode v is =
    let d = digits opcode 3 x number (omega (arith, is, v.y)) v.x v.number in rw (d.digit, d.second, d.byte, none v.y) refl
again SkipNe x y number opcode v is =
    let d = digits opcode 4 x number (omega (arith, is, v.y)) v.x v.number in rw (d.digit, d.second, d.byte, none v.y) refl
again Load x y number opcode v is =
    let d = digits opcode 6 x number (omega (arith, is, v.y)) v.x v.number in rw (d.digit, d.second, d.byte, none v.y) refl
again Add x y number opcode v is =
    let d = digits opcode 7 x number (omega (arith, is, v.y)) v.x v.number in rw (d.digit, d.second, d.byte, none v.y) refl
again Index x y number opcode v is =
    let d = address opcode 10 number (omega (arith, is, v.x, v.y)) v.number in rw (d.digit, d.second, d.byte, whole number, none v.x, none v.y) refl
again JumpPlus x y number opcode v is =
    let d = address opcode 11 number (omega (arith, is, v.x, v.y)) v.number in rw (d.digit, d.second, d.byte, whole number, none v.x, none v.y) refl
again Random x y number opcode v is =
    let d = digits opcode 12 x number (omega (arith, is, v.y)) v.x v.number in rw (d.digit, d.second, d.byte, none v.y) refl
again Draw x y number opcode v is =
    let d = digits opcode 13 x (16 * y + number) (omega (arith, is)) v.x (omega (arith, v.y, v.number)) in
    rw (d.digit, d.second, d.byte, upper y number v.number, lower y number v.number) refl
again SkipDown x y number opcode v is =
    let d = digits opcode 14 x 0x9e (omega (arith, is, v.y, v.number)) v.x (omega arith) in rw (d.digit, d.second, d.byte, none v.y, none v.number) refl
again SkipUp x y number opcode v is =
    let d = digits opcode 14 x 0xa1 (omega (arith, is, v.y, v.number)) v.x (omega arith) in rw (d.digit, d.second, d.byte, none v.y, none v.number) refl
again GetDelay x y number opcode v is =
    let d = digits opcode 15 x 0x07 (omega (arith, is, v.y, v.number)) v.x (omega arith) in rw (d.digit, d.second, d.byte, none v.y, none v.number) refl
again WaitKey x y number opcode v is =
    let d = digits opcode 15 x 0x0a (omega (arith, is, v.y, v.number)) v.x (omega arith) in rw (d.digit, d.second, d.byte, none v.y, none v.number) refl
again SetDelay x y number opcode v is =
    let d = digits opcode 15 x 0x15 (omega (arith, is, v.y, v.number)) v.x (omega arith) in rw (d.digit, d.second, d.byte, none v.y, none v.number) refl
again SetSound x y number opcode v is =
    let d = digits opcode 15 x 0x18 (omega (arith, is, v.y, v.number)) v.x (omega arith) in rw (d.digit, d.second, d.byte, none v.y, none v.number) refl
again AddIndex x y number opcode v is =
    let d = digits opcode 15 x 0x1e (omega (arith, is, v.y, v.number)) v.x (omega arith) in rw (d.digit, d.second, d.byte, none v.y, none v.number) refl
again Font x y number opcode v is =
    let d = digits opcode 15 x 0x29 (omega (arith, is, v.y, v.number)) v.x (omega arith) in rw (d.digit, d.second, d.byte, none v.y, none v.number) refl
again Decimal x y number opcode v is =
    let d = digits opcode 15 x 0x33 (omega (arith, is, v.y, v.number)) v.x (omega arith) in rw (d.digit, d.second, d.byte, none v.y, none v.number) refl
again Store x y number opcode v is =
    let d = digits opcode 15 x 0x55 (omega (arith, is, v.y, v.number)) v.x (omega arith) in rw (d.digit, d.second, d.byte, none v.y, none v.number) refl
again Fetch x y number opcode v is =
    let d = digits opcode 15 x 0x65 (omega (arith, is, v.y, v.number)) v.x (omega arith) in rw (d.digit, d.second, d.byte, none v.y, none v.number) refl
again form x y number opcode v is =
    let d = digits opcode (opcode_of form / 4096) x (16 * y + opcode_of form % 16) (omega (arith, is, v.number)) v.x (omega (arith, v.y)) in
    rw (d.digit, d.second, d.byte, upper y (opcode_of form % 16) (omega arith), lower y (opcode_of form % 16) (omega arith), none v.number) refl

pub read_again : (op : Op) → IsValid op → decoded (encoded op) ≡ Some (canonical op)
read_again op valid = again op.form op.x op.y op.number (encoded op) valid refl
