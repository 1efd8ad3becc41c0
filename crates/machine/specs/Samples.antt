-- The cases that the examples compute.
use Rattle.std.specs.Prelude.{ℕ, Bool, true, false, List, [], ◌∷◌, Option}
use Rattle.machine.specs.Bank.{word, zeros}
use Rattle.machine.specs.Instruction.{Inputs, regs_after_reset, executed, at}
use Rattle.machine.specs.Keys.{Event}

-- the same byte everywhere
abbrev pub everywhere : ℕ → Inputs
everywhere byte = record { byte = λ a. byte; next = byte; after = byte; flag = λ n. false; taken = 0 }

-- D and DF after an instruction that was fetched, from D and DF before it and a byte that is read
abbrev pub after_byte : ℕ → ℕ → ℕ → ℕ → ℕ × ℕ
after_byte opcode d df byte =
    let s = (executed opcode (record regs_after_reset { d = d; df = df }) (everywhere byte)).regs in (s.d, s.df)

-- R(P) after BR to 12, whose second byte is at 0100: the first byte of the next page
abbrev pub after_branch : ℕ
after_branch =
    let s = (executed 0x30 (record regs_after_reset { r = record zeros { r0 = word 0x01 0x00 } }) (everywhere 0x12)).regs in at s s.p

-- T, X, R(2) and the write of MARK with X = 3, P = 4 and R(2) = 0100
abbrev pub after_mark : ℕ × (ℕ × (ℕ × Option (ℕ × ℕ)))
after_mark =
    let e = executed 0x79 (record regs_after_reset { r = record zeros { r2 = word 0x01 0x00 }; p = 4; x = 3 }) (everywhere 0) in
    (e.regs.t, (e.regs.x, (at e.regs 2, e.write)))

abbrev pub event : ℕ → Bool → Event
event cycle down = record { cycle = cycle; key = 5; down = down }

-- key 5 goes down, up, and down and up at one cycle
abbrev pub key_script : List Event
key_script = event 10 true ∷ event 20 false ∷ event 30 true ∷ event 30 false ∷ []
