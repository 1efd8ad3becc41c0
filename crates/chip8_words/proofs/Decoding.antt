-- Of each opcode that the language knows, the parts are valid, and are encoded as it.
use Rattle.std.proofs.Common.{◌≡◌, ℕ, ◌+◌, ◌*◌, ◌/◌, ◌%◌, ◌<◌, ◌≤◌, inl, inr, cond, eqb, IfSome, arith}
use Rattle.std.proofs.lemmas.Bool.{cases_Bool, eqb-true, eqb-false}
use Rattle.chip8_lang.specs.Decode.{arithmetic, instr_of_bytes, transfer}
use Rattle.chip8_lang.specs.declared.instr.Instr.{Instr}
use Rattle.chip8_words.specs.Codes.{IsValid, encoded}
use Rattle.chip8_words.specs.Table.{parts_of}

module _ (high kk : ℕ) (h : high < 256) (l : kk < 256) where
  abbrev Right : Instr → Type 0
  Right i = IfSome (parts_of i) (λ op. IsValid op × (encoded op ≡ high * 256 + kk))

  when : (a b : ℕ) (i j : Instr) → (a ≡ b → Right i) → Right j → Right (cond (eqb a b) i j)
  when a b i j here others = elim (cases_Bool (eqb a b)) [ inl same ↦ rw same (here (eqb-true a b same)) | inr other ↦ rw other others ]

  -- by the first digit
  or_else : (k : ℕ) (i j : Instr) → k ≤ high / 16 → (high / 16 ≡ k → Right i) → (k + 1 ≤ high / 16 → Right j) → Right (cond (eqb (high / 16) k) i j)
  or_else k i j least here others = elim (cases_Bool (eqb (high / 16) k)) [
    | inl same ↦ rw same (here (eqb-true (high / 16) k same))
    | inr other ↦ rw other (others (let apart = eqb-false (high / 16) k other in grind arith))
  ]

  arithmetic_right : high / 16 ≡ 8 → Right (arithmetic (kk % 16) (high % 16) (kk / 16) (high * 256 + kk))
  arithmetic_right d =
      when (kk % 16) 0 _ _ (λ e. (record { x = omega arith; y = omega arith; number = omega arith }, omega arith)) (when (kk % 16) 1 _ _ (λ e. (record { x = omega arith; y = omega arith; number = omega arith }, omega arith)) (when (kk % 16) 2 _ _ (λ e. (record { x = omega arith; y = omega arith; number = omega arith }, omega arith))
      (when (kk % 16) 3 _ _ (λ e. (record { x = omega arith; y = omega arith; number = omega arith }, omega arith)) (when (kk % 16) 4 _ _ (λ e. (record { x = omega arith; y = omega arith; number = omega arith }, omega arith)) (when (kk % 16) 5 _ _ (λ e. (record { x = omega arith; y = omega arith; number = omega arith }, omega arith))
      (when (kk % 16) 6 _ _ (λ e. (record { x = omega arith; y = omega arith; number = omega arith }, omega arith)) (when (kk % 16) 7 _ _ (λ e. (record { x = omega arith; y = omega arith; number = omega arith }, omega arith)) (when (kk % 16) 0xe _ _ (λ e. (record { x = omega arith; y = omega arith; number = omega arith }, omega arith)) tt))))))))

  transfer_right : high / 16 ≡ 15 → Right (transfer kk (high % 16) (high * 256 + kk))
  transfer_right d =
      when kk 0x07 _ _ (λ e. (record { x = omega arith; y = omega arith; number = omega arith }, omega arith)) (when kk 0x0a _ _ (λ e. (record { x = omega arith; y = omega arith; number = omega arith }, omega arith)) (when kk 0x15 _ _ (λ e. (record { x = omega arith; y = omega arith; number = omega arith }, omega arith)) (when kk 0x18 _ _ (λ e. (record { x = omega arith; y = omega arith; number = omega arith }, omega arith))
      (when kk 0x1e _ _ (λ e. (record { x = omega arith; y = omega arith; number = omega arith }, omega arith)) (when kk 0x29 _ _ (λ e. (record { x = omega arith; y = omega arith; number = omega arith }, omega arith)) (when kk 0x33 _ _ (λ e. (record { x = omega arith; y = omega arith; number = omega arith }, omega arith)) (when kk 0x55 _ _ (λ e. (record { x = omega arith; y = omega arith; number = omega arith }, omega arith))
      (when kk 0x65 _ _ (λ e. (record { x = omega arith; y = omega arith; number = omega arith }, omega arith)) tt))))))))

  pub right : Right (instr_of_bytes high kk)
  right =
      or_else 0 _ _ (omega arith) (λ d. when (high % 16 * 256 + kk) 0x0e0 _ _ (λ e. (record { x = omega arith; y = omega arith; number = omega arith }, omega arith))
      (when (high % 16 * 256 + kk) 0x0ee _ _ (λ e. (record { x = omega arith; y = omega arith; number = omega arith }, omega arith)) ((record { x = omega arith; y = omega arith; number = omega arith }, omega arith)))) (λ l1.
      or_else 1 _ _ l1 (λ d. (record { x = omega arith; y = omega arith; number = omega arith }, omega arith)) (λ l2.
      or_else 2 _ _ l2 (λ d. (record { x = omega arith; y = omega arith; number = omega arith }, omega arith)) (λ l3.
      or_else 3 _ _ l3 (λ d. (record { x = omega arith; y = omega arith; number = omega arith }, omega arith)) (λ l4.
      or_else 4 _ _ l4 (λ d. (record { x = omega arith; y = omega arith; number = omega arith }, omega arith)) (λ l5.
      or_else 5 _ _ l5 (λ d. when (kk % 16) 0 _ _ (λ e. (record { x = omega arith; y = omega arith; number = omega arith }, omega arith)) tt) (λ l6.
      or_else 6 _ _ l6 (λ d. (record { x = omega arith; y = omega arith; number = omega arith }, omega arith)) (λ l7.
      or_else 7 _ _ l7 (λ d. (record { x = omega arith; y = omega arith; number = omega arith }, omega arith)) (λ l8.
      or_else 8 _ _ l8 arithmetic_right (λ l9.
      or_else 9 _ _ l9 (λ d. when (kk % 16) 0 _ _ (λ e. (record { x = omega arith; y = omega arith; number = omega arith }, omega arith)) tt) (λ la.
      or_else 0xa _ _ la (λ d. (record { x = omega arith; y = omega arith; number = omega arith }, omega arith)) (λ lb.
      or_else 0xb _ _ lb (λ d. (record { x = omega arith; y = omega arith; number = omega arith }, omega arith)) (λ lc.
      or_else 0xc _ _ lc (λ d. (record { x = omega arith; y = omega arith; number = omega arith }, omega arith)) (λ ld.
      or_else 0xd _ _ ld (λ d. (record { x = omega arith; y = omega arith; number = omega arith }, omega arith)) (λ le.
      or_else 0xe _ _ le (λ d. when kk 0x9e _ _ (λ e. (record { x = omega arith; y = omega arith; number = omega arith }, omega arith)) (when kk 0xa1 _ _ (λ e. (record { x = omega arith; y = omega arith; number = omega arith }, omega arith)) tt)) (λ lf.
      transfer_right (omega arith))))))))))))))))
