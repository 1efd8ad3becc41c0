-- Sixteen registers that are the same one by one are the same.
use Rattle.std.proofs.Common.{◌≡◌, ◌∙◌, ap, sym, ℕ, ◌<◌, List, slice_index, lit<}
use Rattle.machine.specs.Bank.{Bank, Word, word_of, get, bank_of}
use Rattle.vip_cpu.proofs.Banks.{get_bank_of}

abbrev bank : Word → Word → Word → Word → Word → Word → Word → Word → Word → Word → Word → Word → Word → Word → Word → Word → Bank
bank w0 w1 w2 w3 w4 w5 w6 w7 w8 w9 wa wb wc wd we wf =
    record { r0 = w0; r1 = w1; r2 = w2; r3 = w3; r4 = w4; r5 = w5; r6 = w6; r7 = w7; r8 = w8; r9 = w9; ra = wa; rb = wb; rc = wc; rd = wd; re = we; rf = wf }

pub same-bank : (a b : Bank) → ((j : ℕ) → j < 16 → get a j ≡ get b j) → a ≡ b
same-bank a b h =
    ap (λ (w : Word). bank w a.r1 a.r2 a.r3 a.r4 a.r5 a.r6 a.r7 a.r8 a.r9 a.ra a.rb a.rc a.rd a.re a.rf) (h 0 (lit< tt))
    ∙ ap (λ (w : Word). bank b.r0 w a.r2 a.r3 a.r4 a.r5 a.r6 a.r7 a.r8 a.r9 a.ra a.rb a.rc a.rd a.re a.rf) (h 1 (lit< tt))
    ∙ ap (λ (w : Word). bank b.r0 b.r1 w a.r3 a.r4 a.r5 a.r6 a.r7 a.r8 a.r9 a.ra a.rb a.rc a.rd a.re a.rf) (h 2 (lit< tt))
    ∙ ap (λ (w : Word). bank b.r0 b.r1 b.r2 w a.r4 a.r5 a.r6 a.r7 a.r8 a.r9 a.ra a.rb a.rc a.rd a.re a.rf) (h 3 (lit< tt))
    ∙ ap (λ (w : Word). bank b.r0 b.r1 b.r2 b.r3 w a.r5 a.r6 a.r7 a.r8 a.r9 a.ra a.rb a.rc a.rd a.re a.rf) (h 4 (lit< tt))
    ∙ ap (λ (w : Word). bank b.r0 b.r1 b.r2 b.r3 b.r4 w a.r6 a.r7 a.r8 a.r9 a.ra a.rb a.rc a.rd a.re a.rf) (h 5 (lit< tt))
    ∙ ap (λ (w : Word). bank b.r0 b.r1 b.r2 b.r3 b.r4 b.r5 w a.r7 a.r8 a.r9 a.ra a.rb a.rc a.rd a.re a.rf) (h 6 (lit< tt))
    ∙ ap (λ (w : Word). bank b.r0 b.r1 b.r2 b.r3 b.r4 b.r5 b.r6 w a.r8 a.r9 a.ra a.rb a.rc a.rd a.re a.rf) (h 7 (lit< tt))
    ∙ ap (λ (w : Word). bank b.r0 b.r1 b.r2 b.r3 b.r4 b.r5 b.r6 b.r7 w a.r9 a.ra a.rb a.rc a.rd a.re a.rf) (h 8 (lit< tt))
    ∙ ap (λ (w : Word). bank b.r0 b.r1 b.r2 b.r3 b.r4 b.r5 b.r6 b.r7 b.r8 w a.ra a.rb a.rc a.rd a.re a.rf) (h 9 (lit< tt))
    ∙ ap (λ (w : Word). bank b.r0 b.r1 b.r2 b.r3 b.r4 b.r5 b.r6 b.r7 b.r8 b.r9 w a.rb a.rc a.rd a.re a.rf) (h 10 (lit< tt))
    ∙ ap (λ (w : Word). bank b.r0 b.r1 b.r2 b.r3 b.r4 b.r5 b.r6 b.r7 b.r8 b.r9 b.ra w a.rc a.rd a.re a.rf) (h 11 (lit< tt))
    ∙ ap (λ (w : Word). bank b.r0 b.r1 b.r2 b.r3 b.r4 b.r5 b.r6 b.r7 b.r8 b.r9 b.ra b.rb w a.rd a.re a.rf) (h 12 (lit< tt))
    ∙ ap (λ (w : Word). bank b.r0 b.r1 b.r2 b.r3 b.r4 b.r5 b.r6 b.r7 b.r8 b.r9 b.ra b.rb b.rc w a.re a.rf) (h 13 (lit< tt))
    ∙ ap (λ (w : Word). bank b.r0 b.r1 b.r2 b.r3 b.r4 b.r5 b.r6 b.r7 b.r8 b.r9 b.ra b.rb b.rc b.rd w a.rf) (h 14 (lit< tt))
    ∙ ap (λ (w : Word). bank b.r0 b.r1 b.r2 b.r3 b.r4 b.r5 b.r6 b.r7 b.r8 b.r9 b.ra b.rb b.rc b.rd b.re w) (h 15 (lit< tt))

-- numbers that are those of the registers
pub bank-of-numbers : (l : List ℕ) (b : Bank) → ((j : ℕ) → j < 16 → word_of (slice_index l j) ≡ get b j) → bank_of l ≡ b
bank-of-numbers l b h = same-bank (bank_of l) b (λ j below. get_bank_of l j below ∙ h j below)
