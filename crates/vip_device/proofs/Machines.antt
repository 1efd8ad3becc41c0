-- The machine of a device, by its parts.
use Rattle.std.proofs.Common.{◌≡◌, ◌∙◌, ap, refl, ℕ, List, ◌%◌, ◌++◌, replicate, drop, length, ◌+◌, lit≤}
use Rattle.std.proofs.lemmas.List.{take-replicate}
use Rattle.std.specs.Prelude.{Bool}
use Rattle.machine.specs.Bank.{Bank, bank_of}
use Rattle.machine.specs.Bit.{bit}
use Rattle.machine.specs.Board.{Machine, start}
use Rattle.machine.specs.Instruction.{Regs}
use Rattle.vip_memory.specs.Contents.{loaded}
use Rattle.vip_device.specs.Device.{is_set, regs_in}
use Rattle.vip_device.specs.declared.device.VipRegisters.{VipRegisters}

abbrev pub made : Regs → List ℕ → ℕ → ℕ → ℕ → ℕ → Machine
made regs ram latch display key cycle =
    record { regs = regs; ram = ram; latch = is_set latch; on = is_set display; key = key % 16; cycle = cycle }

pub same-machine : (r s : Regs) → r ≡ s → (ram ram2 : List ℕ) → ram ≡ ram2 → (l l2 : ℕ) → l ≡ l2 → (o o2 : ℕ) → o ≡ o2 → (k k2 : ℕ) → k ≡ k2
    → (t t2 : ℕ) → t ≡ t2 → made r ram l o k t ≡ made s ram2 l2 o2 k2 t2
same-machine r s e1 ram ram2 e2 l l2 e3 o o2 e4 k k2 e5 t t2 e6 =
    ap (λ (x : Regs). made x ram l o k t) e1
    ∙ ap (λ (x : List ℕ). made s x l o k t) e2
    ∙ ap (λ x. made s ram2 x o k t) e3
    ∙ ap (λ x. made s ram2 l2 x k t) e4
    ∙ ap (λ x. made s ram2 l2 o2 x t) e5
    ∙ ap (λ x. made s ram2 l2 o2 k2 x) e6

-- RAM with a game
pub started : (game : List ℕ) → loaded (replicate 0x1000 0) 0x200 game ≡ (start game).ram
started game =
    ap (λ (x : List ℕ). x ++ game ++ drop (0x200 + length game) (replicate 0x1000 0)) (take-replicate 0x200 0x1000 0 (lit≤ tt))

abbrev nine : Bank → ℕ → ℕ → ℕ → ℕ → ℕ → Bool → Bool → Bool → Regs
nine r d df p x t q ie idle = record { r = r; d = d; df = df; p = p; x = x; t = t; q = q; ie = ie; idle = idle }

pub same-regs : (a : VipRegisters) (b : Regs) → bank_of a.r ≡ b.r → a.d ≡ b.d → bit (is_set a.df) ≡ b.df → a.p % 16 ≡ b.p → a.x % 16 ≡ b.x → a.t ≡ b.t → is_set a.q ≡ b.q → is_set a.ie ≡ b.ie → is_set a.idle ≡ b.idle → regs_in a ≡ b
same-regs a b er ed edf ep ex et eq eie eidle =
    ap (λ (v : Bank). nine v (a.d) (bit (is_set a.df)) (a.p % 16) (a.x % 16) (a.t) (is_set a.q) (is_set a.ie) (is_set a.idle)) er
    ∙ ap (λ (v : ℕ). nine b.r v (bit (is_set a.df)) (a.p % 16) (a.x % 16) (a.t) (is_set a.q) (is_set a.ie) (is_set a.idle)) ed
    ∙ ap (λ (v : ℕ). nine b.r b.d v (a.p % 16) (a.x % 16) (a.t) (is_set a.q) (is_set a.ie) (is_set a.idle)) edf
    ∙ ap (λ (v : ℕ). nine b.r b.d b.df v (a.x % 16) (a.t) (is_set a.q) (is_set a.ie) (is_set a.idle)) ep
    ∙ ap (λ (v : ℕ). nine b.r b.d b.df b.p v (a.t) (is_set a.q) (is_set a.ie) (is_set a.idle)) ex
    ∙ ap (λ (v : ℕ). nine b.r b.d b.df b.p b.x v (is_set a.q) (is_set a.ie) (is_set a.idle)) et
    ∙ ap (λ (v : Bool). nine b.r b.d b.df b.p b.x b.t v (is_set a.ie) (is_set a.idle)) eq
    ∙ ap (λ (v : Bool). nine b.r b.d b.df b.p b.x b.t b.q v (is_set a.idle)) eie
    ∙ ap (λ (v : Bool). nine b.r b.d b.df b.p b.x b.t b.q b.ie v) eidle
